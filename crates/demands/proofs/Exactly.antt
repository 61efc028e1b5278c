-- Every call refuses exactly what document 01's table says; and none but a colour value tells that the gear lacks something.
use Prim.Native.Nat.{ℕ}
use Rattle.std.specs.Prelude.{Result}
use mathlib.Core.Path.{◌≡◌, refl, subst}
use mathlib.Core.Bool.{true}
use mathlib.Core.Option.{Option, none, some}
use Rattle.demands.specs.Absent.{Other}
use Rattle.demands.specs.Calls.{Call, told, perform}
use Rattle.demands.specs.Calls.Call.{StandardWrite, ArcPower, Query, Matches, TcStep, XyStep, StoreTcLimit, Stage, Activate, CopyReport, SetFeatures, ColorValue, ColourStatus, Features, ControlByte, FeatureByte, Automatic, ReadMemory, WriteMemory, AdvancesDtr0, ImplementsBank, SetLockByte, SetLocation, SetGearUnit, SetLastOffset, ClearNumber, Hear, HoldsFrame, HearElsewhere, PowerCycle, StatusByte, LampOn, FailureBits, ThermalShutDown, LampFailure, ActualLevel, IsType, SetEnabled, SetLampFailure, SetLampStarting, SetFaults}
use Rattle.demands.specs.Refusals.{Judged, RefusesExactly, listed, refusal_of, write_bytes}
use Rattle.demands.proofs.Answers.{Strictly, address_judged, control_plain, done_plain, flag_plain, hear_plain, location_plain, number_plain, query_judged, value_served, write_judged}
use Rattle.calls.specs.Address.{matches_call}
use Rattle.calls.specs.Colours.{activate_call, automatic_call, color_value_call, colour_status_call, control_call, copy_report_call, feature_byte_call, features_call, recoloured, set_features_call, stage_call, store_tc_limit_call, tc_step_call, xy_step_call}
use Rattle.calls.specs.Memory.{advances_call, clear_number_call, implements_call, memory_location_call, rebanked, set_last_call, set_location_call, set_lock_call, set_unit_call, write_memory_call}
use Rattle.calls.specs.Pairing.{hear_call, hear_elsewhere_call, holds_call}
use Rattle.calls.specs.Power.{power_cycle_call}
use Rattle.calls.specs.Reads.{actual_level_call, failure_bits_call, lamp_failure_call, lamp_on_call, status_call, thermal_call, type_call}
use Rattle.calls.specs.Setters.{set_enabled_call, set_faults_call, set_lamp_failure_call, set_lamp_starting_call}
use Rattle.colour.specs.declared.value.NoValue.{NoValue}
use Rattle.gear.specs.Answer.{Answer, unexplained, value_answer}
use Rattle.gear.specs.Command.{command_of}
use Rattle.gear.specs.declared.answer.Outcome.{Outcome}
use Rattle.gear.specs.declared.answer.Refusal.{Refusal}
use Rattle.gear.specs.declared.answer.Refusal.TheVariants.{Unfit, Byte}
use Rattle.gear.specs.declared.record.Gear.{Gear}
use Rattle.gear.specs.Record.{fitb}
use Rattle.gear.specs.Serve.{serve, tell}
use Rattle.gear.specs.Write.{apply_standard_write, direct_arc_power, write}
use Rattle.numbers.specs.Numbers.{pick}
use Rattle.numbers.proofs.Logic.{by_cases}
use Rattle.query.specs.Reply.{gear_query_reply}

-- ## The two ways in which a call tests the record

-- as the table says; and where `X` holds, with no word that the gear lacks something
abbrev JudgedWhere : Type 0 → Option Refusal → Gear → Outcome → Type 0
JudgedWhere X t g o = Judged t g o × (X → unexplained o.answer ≡ o.answer)

served :
    {X : Type 0} (g : Gear) (o : Outcome) (t : Option Refusal) →
    (fitb g ≡ true → Strictly t g o) → JudgedWhere X (pick (fitb g) t (some Unfit)) g (serve g o)
unfolding serve unexplained
served g o t h = by_cases (fitb g) (λ e. rw e ((h e).0, λ x. (h e).1)) (λ e. rw e (refl, λ x. refl))

answered :
    {X : Type 0} (g : Gear) (a : Answer) (t : Option Refusal) →
    Strictly t g (told g a) → JudgedWhere X (pick (fitb g) t (some Unfit)) g (told g (tell g a))
unfolding tell unexplained
answered g a t h = by_cases (fitb g) (λ e. rw e (h.0, λ x. h.1)) (λ e. rw e (refl, λ x. refl))

valued : (g : Gear) (v : Result ℕ NoValue) → Judged (pick (fitb g) none (some Unfit)) g (told g (tell g (value_answer v)))
unfolding tell
valued g v = by_cases (fitb g) (λ e. rw e (value_served v)) (λ e. rw e refl)

opened : (g : Gear) (b d : ℕ) → fitb g ≡ true → apply_standard_write g b d ≡ write g (command_of b) d
unfolding apply_standard_write serve
opened g b d e = rw e

opened_judged : (g : Gear) (b d : ℕ) → fitb g ≡ true → Strictly (pick (listed write_bytes b) none (some Byte)) g (write g (command_of b) d)
opened_judged g b d e =
    subst (λ (o : Outcome). Strictly (pick (listed write_bytes b) none (some Byte)) g o) (opened g b d e) (write_judged g b d e)

-- ## Every call

each : (c : Call) (g : Gear) → JudgedWhere (Other c) (refusal_of c g) g (perform c g)
unfolding perform recoloured rebanked activate_call actual_level_call advances_call apply_standard_write automatic_call clear_number_call color_value_call colour_status_call control_call copy_report_call direct_arc_power failure_bits_call feature_byte_call features_call gear_query_reply hear_call hear_elsewhere_call holds_call implements_call lamp_failure_call lamp_on_call matches_call memory_location_call power_cycle_call set_enabled_call set_faults_call set_features_call set_lamp_failure_call set_lamp_starting_call set_last_call set_location_call set_lock_call set_unit_call stage_call status_call store_tc_limit_call tc_step_call thermal_call type_call write_memory_call xy_step_call
each (StandardWrite byte dtr0) g = served g _ _ (opened_judged g byte dtr0)
each (ArcPower level) g = served g _ none (λ e. done_plain)
each (Query byte) g = served g _ _ (λ e. query_judged g byte)
each (Matches whom) g = answered g _ _ (address_judged g whom)
each (TcStep warmer) g = served g _ none (λ e. done_plain)
each (XyStep y up) g = served g _ none (λ e. done_plain)
each (StoreTcLimit value selector) g = served g _ none (λ e. done_plain)
each (Stage setting) g = served g _ none (λ e. done_plain)
each Activate g = served g _ none (λ e. done_plain)
each CopyReport g = served g _ none (λ e. done_plain)
each (SetFeatures features) g = served g _ none (λ e. done_plain)
each (ColorValue id) g = (valued g _, λ other. absurd (other id refl))
each ColourStatus g = answered g _ none (number_plain _)
each Features g = answered g _ none (number_plain _)
each ControlByte g = answered g _ none (control_plain _)
each FeatureByte g = answered g _ none (number_plain _)
each Automatic g = answered g _ none (flag_plain _)
each (ReadMemory bank offset) g = answered g _ none (location_plain _)
each (WriteMemory bank offset value) g = served g _ none (λ e. location_plain _)
each (AdvancesDtr0 bank offset) g = answered g _ none (flag_plain _)
each (ImplementsBank bank) g = answered g _ none (flag_plain _)
each (SetLockByte value) g = served g _ none (λ e. done_plain)
each (SetLocation offset value) g = served g _ none (λ e. done_plain)
each (SetGearUnit units index) g = served g _ none (λ e. done_plain)
each (SetLastOffset last) g = served g _ none (λ e. done_plain)
each ClearNumber g = served g _ none (λ e. done_plain)
each (Hear frame repeats) g = served g _ none (λ e. hear_plain g frame repeats)
each (HoldsFrame frame) g = answered g _ none (flag_plain _)
each HearElsewhere g = served g _ none (λ e. flag_plain _)
each PowerCycle g = served g _ none (λ e. done_plain)
each StatusByte g = answered g _ none (number_plain _)
each LampOn g = answered g _ none (flag_plain _)
each FailureBits g = answered g _ none (number_plain _)
each ThermalShutDown g = answered g _ none (flag_plain _)
each LampFailure g = answered g _ none (flag_plain _)
each ActualLevel g = answered g _ none (number_plain _)
each (IsType code) g = answered g _ none (flag_plain _)
each (SetEnabled enabled) g = served g _ none (λ e. done_plain)
each (SetLampFailure failure) g = served g _ none (λ e. done_plain)
each (SetLampStarting starting) g = served g _ none (λ e. done_plain)
each (SetFaults faults) g = served g _ none (λ e. done_plain)

pub exactly : RefusesExactly perform
exactly c g = (each c g).0

pub nowhere_else : (c : Call) (g : Gear) → Other c → unexplained (perform c g).answer ≡ (perform c g).answer
nowhere_else c g = (each c g).1
