-- Every call keeps a fit record fit; and all but the power cycle leave the levels as they are.
use Prim.Native.Nat.{ℕ, ◌<◌}
use mathlib.Core.Path.{◌≡◌, refl}
use mathlib.Core.Bool.{Bool, true}
use Rattle.std.specs.Prelude.{Option, None}
use Rattle.std.specs.declared.result.Result.TheVariants.{Ok}
use Rattle.calls.specs.Colours.{recoloured, tc_step_call, xy_step_call, store_tc_limit_call, stage_call, activate_call, copy_report_call, set_features_call}
use Rattle.calls.specs.Memory.{rebanked, write_memory_call, set_lock_call, set_location_call, set_unit_call, set_last_call, clear_number_call}
use Rattle.calls.specs.Pairing.{waits, is_open, waiting, heard_answer, paired, hear, hear_call, hear_elsewhere_call}
use Rattle.calls.specs.Power.{power_cycle, power_cycle_call}
use Rattle.calls.specs.Setters.{set_enabled_call, set_lamp_failure_call, set_lamp_starting_call, set_faults_call}
use Rattle.bank.specs.declared.build.Banks.{Banks}
use Rattle.colour.specs.declared.record.Colour.{Colour}
use Rattle.colour.specs.declared.setting.ColourSetting.{ColourSetting}
use Rattle.colour.proofs.Fit as ColourFit
use Rattle.colour.proofs.Kept as ColourKept
use Rattle.colour.proofs.KeptLimits as ColourLimits
use Rattle.gear.specs.Answer.{Answer, done}
use Rattle.gear.specs.declared.answer.Reply.TheVariants.{Done, Value}
use Rattle.gear.specs.declared.condition.Faults.{Faults}
use Rattle.gear.specs.declared.record.Gear.{Gear}
use Rattle.gear.specs.Marks.{walk_fit}
use Rattle.gear.specs.Parts.{with_banks, with_colour}
use Rattle.gear.specs.Record.{fitb}
use Rattle.gear.proofs.Fit.{GearFit}
use Rattle.gear.proofs.Kept.{serve_kept}
use Rattle.level.proofs.Fit as LevelFit
use Rattle.numbers.proofs.Logic.{by_cases}

-- ---- colour calls

recoloured_kept : (g : Gear) (c : Colour) → (ColourFit.Fit g.colour → ColourFit.Fit c) → fitb g ≡ true → fitb (recoloured g c).gear ≡ true
unfolding recoloured
recoloured_kept g c kept =
    serve_kept g (done (with_colour g c)) (λ f. record { unit = f.unit; levels = f.levels; colour = kept f.colour; walk = f.walk })

pub tc_step_kept : (g : Gear) (warmer : Bool) → fitb g ≡ true → fitb (tc_step_call g warmer).gear ≡ true
unfolding tc_step_call
tc_step_kept g warmer = recoloured_kept g _ (ColourKept.tc_step_kept warmer)

pub xy_step_kept : (g : Gear) (y up : Bool) → fitb g ≡ true → fitb (xy_step_call g y up).gear ≡ true
unfolding xy_step_call
xy_step_kept g y up = recoloured_kept g _ (ColourKept.xy_step_kept y up)

pub store_tc_limit_kept : (g : Gear) (v s : ℕ) → v < 65536 → fitb g ≡ true → fitb (store_tc_limit_call g v s).gear ≡ true
unfolding store_tc_limit_call
store_tc_limit_kept g v s h = recoloured_kept g _ (ColourLimits.store_tc_limit_kept v s h)

pub stage_kept : (g : Gear) (s : ColourSetting) → fitb g ≡ true → fitb (stage_call g s).gear ≡ true
unfolding stage_call
stage_kept g s = recoloured_kept g _ (ColourKept.load_kept s)

pub activate_kept : (g : Gear) → fitb g ≡ true → fitb (activate_call g).gear ≡ true
unfolding activate_call
activate_kept g = recoloured_kept g _ ColourKept.activate_kept

pub copy_report_kept : (g : Gear) → fitb g ≡ true → fitb (copy_report_call g).gear ≡ true
unfolding copy_report_call
copy_report_kept g = recoloured_kept g _ ColourKept.copy_report_kept

pub set_features_kept : (g : Gear) (n : ℕ) → fitb g ≡ true → fitb (set_features_call g n).gear ≡ true
unfolding set_features_call
set_features_kept g n = recoloured_kept g _ (ColourKept.features_kept n)

-- ---- memory calls: no bank byte is asked for

pub rebanked_kept : (g : Gear) (a : Answer) (b : Banks) → fitb g ≡ true → fitb (rebanked g a b).gear ≡ true
unfolding rebanked
rebanked_kept g a b =
    serve_kept g (record { answer = a; gear = with_banks g b })
    (λ f. record { unit = f.unit; levels = f.levels; colour = f.colour; walk = f.walk })

pub write_memory_kept : (g : Gear) (bank offset v : ℕ) → fitb g ≡ true → fitb (write_memory_call g bank offset v).gear ≡ true
unfolding write_memory_call
write_memory_kept g bank offset v = rebanked_kept g _ _

pub set_lock_kept : (g : Gear) (v : ℕ) → fitb g ≡ true → fitb (set_lock_call g v).gear ≡ true
unfolding set_lock_call
set_lock_kept g v = rebanked_kept g (Ok Done) _

pub set_location_kept : (g : Gear) (offset v : ℕ) → fitb g ≡ true → fitb (set_location_call g offset v).gear ≡ true
unfolding set_location_call
set_location_kept g offset v = rebanked_kept g (Ok Done) _

pub set_unit_kept : (g : Gear) (units index : ℕ) → fitb g ≡ true → fitb (set_unit_call g units index).gear ≡ true
unfolding set_unit_call
set_unit_kept g units index = rebanked_kept g (Ok Done) _

pub set_last_kept : (g : Gear) (last : ℕ) → fitb g ≡ true → fitb (set_last_call g last).gear ≡ true
unfolding set_last_call
set_last_kept g last = rebanked_kept g (Ok Done) _

pub clear_number_kept : (g : Gear) → fitb g ≡ true → fitb (clear_number_call g).gear ≡ true
unfolding clear_number_call
clear_number_kept g = rebanked_kept g (Ok Done) _

-- ---- pairs, power and setters

paired_kept : (g : Gear) (a : Answer) (p : Option ℕ) → GearFit g → GearFit (paired g a p).gear
paired_kept g a p f = record { unit = f.unit; levels = f.levels; colour = f.colour; walk = f.walk }

hears_kept : (g : Gear) (frame : ℕ) (repeats : Bool) → GearFit g → GearFit (hear g frame repeats).gear
unfolding hear
hears_kept g frame repeats f =
    by_cases (waits g.marks.pair frame) (λ e. rw e (paired_kept g (Ok (Value 3)) None f))
    (λ e. rw e (paired_kept g (heard_answer repeats (is_open g.marks.pair)) (waiting frame repeats) f))

pub hear_kept : (g : Gear) (frame : ℕ) (repeats : Bool) → fitb g ≡ true → fitb (hear_call g frame repeats).gear ≡ true
unfolding hear_call
hear_kept g frame repeats = serve_kept g (hear g frame repeats) (hears_kept g frame repeats)

pub hear_elsewhere_kept : (g : Gear) → fitb g ≡ true → fitb (hear_elsewhere_call g).gear ≡ true
unfolding hear_elsewhere_call walk_fit
hear_elsewhere_kept g =
    serve_kept g _ (λ f. record { unit = f.unit; levels = f.levels; colour = f.colour; walk = refl })

pub power_cycle_kept : (g : Gear) → fitb g ≡ true → fitb (power_cycle_call g).gear ≡ true
unfolding power_cycle_call power_cycle
power_cycle_kept g =
    serve_kept g (done (power_cycle g))
    (λ f.
    record {
      unit = f.unit;
      levels = LevelFit.power_up_kept g.settings.on.level f.levels;
      colour = ColourKept.power_up_kept f.colour;
      walk = f.walk;
    })

pub set_enabled_kept : (g : Gear) (b : Bool) → fitb g ≡ true → fitb (set_enabled_call g b).gear ≡ true
unfolding set_enabled_call
set_enabled_kept g b = serve_kept g _ (λ f. record { unit = f.unit; levels = f.levels; colour = f.colour; walk = f.walk })

pub set_lamp_failure_kept : (g : Gear) (b : Bool) → fitb g ≡ true → fitb (set_lamp_failure_call g b).gear ≡ true
unfolding set_lamp_failure_call
set_lamp_failure_kept g b = serve_kept g _ (λ f. record { unit = f.unit; levels = f.levels; colour = f.colour; walk = f.walk })

pub set_lamp_starting_kept : (g : Gear) (b : Bool) → fitb g ≡ true → fitb (set_lamp_starting_call g b).gear ≡ true
unfolding set_lamp_starting_call
set_lamp_starting_kept g b = serve_kept g _ (λ f. record { unit = f.unit; levels = f.levels; colour = f.colour; walk = f.walk })

pub set_faults_kept : (g : Gear) (x : Faults) → fitb g ≡ true → fitb (set_faults_call g x).gear ≡ true
unfolding set_faults_call
set_faults_kept g x = serve_kept g _ (λ f. record { unit = f.unit; levels = f.levels; colour = f.colour; walk = f.walk })
