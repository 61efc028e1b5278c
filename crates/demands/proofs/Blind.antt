-- Every call leaves two records that differ in their banks alone as such, and every call but those of the banks answers both alike.
use mathlib.Core.Path.{◌≡◌, refl, ap, ◌∙◌}
use mathlib.Core.List.{List, [], ◌∷◌}
use Rattle.demands.specs.Blind.{OfBanks, SameButBanks, KeepsBlind}
use Rattle.demands.specs.Calls.{Call, perform}
use Rattle.demands.specs.Calls.Call.{StandardWrite, ArcPower, Query, Matches, TcStep, XyStep, StoreTcLimit, Stage, Activate, CopyReport, SetFeatures, ColorValue, ColourStatus, Features, ControlByte, FeatureByte, Automatic, ReadMemory, WriteMemory, AdvancesDtr0, ImplementsBank, SetLockByte, SetLocation, SetGearUnit, SetLastOffset, ClearNumber, Hear, HoldsFrame, HearElsewhere, PowerCycle, StatusByte, LampOn, FailureBits, ThermalShutDown, LampFailure, ActualLevel, IsType, SetEnabled, SetLampFailure, SetLampStarting, SetFaults}
use Rattle.demands.specs.Readings.{after}
use Rattle.bank.specs.declared.build.Banks.{Banks}
use Rattle.calls.proofs.Banks.{unbanked, arc_power_blind, query_blind, standard_write_blind}
use Rattle.calls.proofs.BlindCalls.{blind_calls}
use Rattle.calls.specs.Memory.{rebanked, write_memory_call}
use Rattle.gear.specs.declared.record.Gear.{Gear}
use Rattle.gear.specs.Answer.{Answer}
use Rattle.gear.specs.Parts.{with_banks}
use Rattle.gear.specs.Record.{fitb}
use Rattle.gear.specs.Serve.{serve}
use Rattle.numbers.proofs.Logic.{by_cases}

rebanked_rest :
    (g : Gear) (b : Banks) (x y : Answer) (c d : Banks) → unbanked (rebanked (with_banks g b) x c).gear ≡ unbanked (rebanked g y d).gear
unfolding rebanked serve fitb
rebanked_rest g b x y c d = by_cases (fitb g) (λ e. rw e refl) (λ e. rw e refl)

rest : (c : Call) (g : Gear) (b : Banks) → unbanked (perform c (with_banks g b)).gear ≡ unbanked (perform c g).gear
unfolding perform write_memory_call
rest (StandardWrite byte dtr0) g b = (standard_write_blind byte dtr0 g b).rest
rest (ArcPower level) g b = (arc_power_blind level g b).rest
rest (Query byte) g b = (query_blind byte g b).rest
rest (Matches whom) g b = refl
rest (TcStep warmer) g b = (blind_calls.tc_step warmer g b).rest
rest (XyStep y up) g b = (blind_calls.xy_step y up g b).rest
rest (StoreTcLimit value selector) g b = (blind_calls.store_tc_limit value selector g b).rest
rest (Stage setting) g b = (blind_calls.stage setting g b).rest
rest Activate g b = (blind_calls.activate g b).rest
rest CopyReport g b = (blind_calls.copy_report g b).rest
rest (SetFeatures features) g b = (blind_calls.set_features features g b).rest
rest (ColorValue id) g b = refl
rest ColourStatus g b = refl
rest Features g b = refl
rest ControlByte g b = refl
rest FeatureByte g b = refl
rest Automatic g b = refl
rest (ReadMemory bank offset) g b = refl
rest (WriteMemory bank offset value) g b = rebanked_rest g b _ _ _ _
rest (AdvancesDtr0 bank offset) g b = refl
rest (ImplementsBank bank) g b = refl
rest (SetLockByte value) g b = (blind_calls.set_lock value g b).rest
rest (SetLocation offset value) g b = (blind_calls.set_location offset value g b).rest
rest (SetGearUnit units index) g b = (blind_calls.set_unit units index g b).rest
rest (SetLastOffset last) g b = (blind_calls.set_last last g b).rest
rest ClearNumber g b = (blind_calls.clear_number g b).rest
rest (Hear frame repeats) g b = (blind_calls.hear frame repeats g b).rest
rest (HoldsFrame frame) g b = refl
rest HearElsewhere g b = (blind_calls.hear_elsewhere g b).rest
rest PowerCycle g b = (blind_calls.power_cycle g b).rest
rest StatusByte g b = refl
rest LampOn g b = refl
rest FailureBits g b = refl
rest ThermalShutDown g b = refl
rest LampFailure g b = refl
rest ActualLevel g b = refl
rest (IsType code) g b = refl
rest (SetEnabled enabled) g b = (blind_calls.set_enabled enabled g b).rest
rest (SetLampFailure failure) g b = (blind_calls.set_lamp_failure failure g b).rest
rest (SetLampStarting starting) g b = (blind_calls.set_lamp_starting starting g b).rest
rest (SetFaults faults) g b = (blind_calls.set_faults faults g b).rest

answer : (c : Call) (g : Gear) (b : Banks) → (OfBanks c → ⊥) → (perform c (with_banks g b)).answer ≡ (perform c g).answer
unfolding perform
answer (StandardWrite byte dtr0) g b other = (standard_write_blind byte dtr0 g b).answer
answer (ArcPower level) g b other = (arc_power_blind level g b).answer
answer (Query byte) g b other = (query_blind byte g b).answer
answer (Matches whom) g b other = blind_calls.matches whom g b
answer (TcStep warmer) g b other = (blind_calls.tc_step warmer g b).answer
answer (XyStep y up) g b other = (blind_calls.xy_step y up g b).answer
answer (StoreTcLimit value selector) g b other = (blind_calls.store_tc_limit value selector g b).answer
answer (Stage setting) g b other = (blind_calls.stage setting g b).answer
answer Activate g b other = (blind_calls.activate g b).answer
answer CopyReport g b other = (blind_calls.copy_report g b).answer
answer (SetFeatures features) g b other = (blind_calls.set_features features g b).answer
answer (ColorValue id) g b other = blind_calls.color_value id g b
answer ColourStatus g b other = blind_calls.colour_status g b
answer Features g b other = blind_calls.features g b
answer ControlByte g b other = blind_calls.control g b
answer FeatureByte g b other = blind_calls.feature_byte g b
answer Automatic g b other = blind_calls.automatic g b
answer (ReadMemory bank offset) g b other = absurd (other OfBanks.read)
answer (WriteMemory bank offset value) g b other = absurd (other OfBanks.write)
answer (AdvancesDtr0 bank offset) g b other = absurd (other OfBanks.advances)
answer (ImplementsBank bank) g b other = blind_calls.implements bank g b
answer (SetLockByte value) g b other = (blind_calls.set_lock value g b).answer
answer (SetLocation offset value) g b other = (blind_calls.set_location offset value g b).answer
answer (SetGearUnit units index) g b other = (blind_calls.set_unit units index g b).answer
answer (SetLastOffset last) g b other = (blind_calls.set_last last g b).answer
answer ClearNumber g b other = (blind_calls.clear_number g b).answer
answer (Hear frame repeats) g b other = (blind_calls.hear frame repeats g b).answer
answer (HoldsFrame frame) g b other = blind_calls.holds frame g b
answer HearElsewhere g b other = (blind_calls.hear_elsewhere g b).answer
answer PowerCycle g b other = (blind_calls.power_cycle g b).answer
answer StatusByte g b other = blind_calls.status g b
answer LampOn g b other = blind_calls.lamp_on g b
answer FailureBits g b other = blind_calls.failure_bits g b
answer ThermalShutDown g b other = blind_calls.thermal g b
answer LampFailure g b other = blind_calls.lamp_failure g b
answer ActualLevel g b other = blind_calls.actual_level g b
answer (IsType code) g b other = blind_calls.type code g b
answer (SetEnabled enabled) g b other = (blind_calls.set_enabled enabled g b).answer
answer (SetLampFailure failure) g b other = (blind_calls.set_lamp_failure failure g b).answer
answer (SetLampStarting starting) g b other = (blind_calls.set_lamp_starting starting g b).answer
answer (SetFaults faults) g b other = (blind_calls.set_faults faults g b).answer

-- a record that differs in its banks alone is the other with its banks
rejoined : (g h : Gear) → unbanked h ≡ unbanked g → h ≡ with_banks g h.banks
rejoined g h e = ap (λ (x : Gear). with_banks x h.banks) e

onwards :
    (before : List Call) (g h : Gear) → unbanked h ≡ unbanked g → unbanked (after perform before h) ≡ unbanked (after perform before g)
onwards [] g h e = e
onwards (c ∷ cs) g h e =
    onwards cs (perform c g).gear (perform c h).gear
    (ap (λ (x : Gear). unbanked (perform c x).gear) (rejoined g h e) ∙ rest c g h.banks)

same : (g : Gear) (b : Banks) (before : List Call) → SameButBanks (after perform before (with_banks g b)) (after perform before g)
same g b before = rejoined (after perform before g) (after perform before (with_banks g b)) (onwards before g (with_banks g b) refl)

pub keeps_blind : KeepsBlind perform
keeps_blind =
    record {
      fields = same;
      answers =
          λ g b before c other.
          ap (λ (x : Gear). (perform c x).answer) (same g b before) ∙
          answer c (after perform before g) (after perform before (with_banks g b)).banks other;
    }
