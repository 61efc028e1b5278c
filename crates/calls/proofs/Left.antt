-- No call of this crate but the power cycle changes what writes change: levels, settings and scenes.
use Prim.Native.Nat.{ℕ}
use mathlib.Core.Path.{◌≡◌, refl}
use mathlib.Core.Bool.{Bool}
use Rattle.calls.specs.Colours.{activate_call, copy_report_call, recoloured, set_features_call, stage_call, store_tc_limit_call, tc_step_call, xy_step_call}
use Rattle.calls.specs.Memory.{clear_number_call, rebanked, set_last_call, set_location_call, set_lock_call, set_unit_call, write_memory_call}
use Rattle.calls.specs.Pairing.{hear, hear_call, hear_elsewhere_call, waits}
use Rattle.calls.specs.Setters.{set_enabled_call, set_faults_call, set_lamp_failure_call, set_lamp_starting_call}
use Rattle.bank.specs.declared.build.Banks.{Banks}
use Rattle.colour.specs.declared.record.Colour.{Colour}
use Rattle.colour.specs.declared.setting.ColourSetting.{ColourSetting}
use Rattle.gear.specs.declared.answer.Outcome.{Outcome}
use Rattle.gear.specs.declared.condition.Faults.{Faults}
use Rattle.gear.specs.declared.record.Gear.{Gear}
use Rattle.gear.specs.Answer.{Answer}
use Rattle.gear.specs.Parts.{written}
use Rattle.gear.specs.Record.{fitb}
use Rattle.gear.specs.Serve.{serve}
use Rattle.numbers.proofs.Logic.{by_cases}

abbrev pub Leaves : (Gear → Outcome) → Type 0
Leaves call = (g : Gear) → written (call g).gear ≡ written g

serve_left : (g : Gear) (o : Outcome) → written o.gear ≡ written g → written (serve g o).gear ≡ written g
unfolding serve
serve_left g o h = by_cases (fitb g) (λ e. rw e h) (λ e. rw e)

recoloured_left : (g : Gear) (c : Colour) → written (recoloured g c).gear ≡ written g
unfolding recoloured
recoloured_left g c = serve_left g _ refl

rebanked_left : (g : Gear) (a : Answer) (b : Banks) → written (rebanked g a b).gear ≡ written g
unfolding rebanked
rebanked_left g a b = serve_left g _ refl

hear_left : (g : Gear) (frame : ℕ) (repeats : Bool) → written (hear g frame repeats).gear ≡ written g
unfolding hear
hear_left g frame repeats = by_cases (waits g.marks.pair frame) (λ e. rw e) (λ e. rw e)

pub record Left : Type 0 where
  pub tc_step : (warmer : Bool) → Leaves (λ g. tc_step_call g warmer)
  pub xy_step : (y up : Bool) → Leaves (λ g. xy_step_call g y up)
  pub store_tc_limit : (v s : ℕ) → Leaves (λ g. store_tc_limit_call g v s)
  pub stage : (s : ColourSetting) → Leaves (λ g. stage_call g s)
  pub activate : Leaves activate_call
  pub copy_report : Leaves copy_report_call
  pub set_features : (n : ℕ) → Leaves (λ g. set_features_call g n)
  pub write_memory : (bank offset v : ℕ) → Leaves (λ g. write_memory_call g bank offset v)
  pub set_lock : (v : ℕ) → Leaves (λ g. set_lock_call g v)
  pub set_location : (offset v : ℕ) → Leaves (λ g. set_location_call g offset v)
  pub set_unit : (units index : ℕ) → Leaves (λ g. set_unit_call g units index)
  pub set_last : (last : ℕ) → Leaves (λ g. set_last_call g last)
  pub clear_number : Leaves clear_number_call
  pub hear : (frame : ℕ) (repeats : Bool) → Leaves (λ g. hear_call g frame repeats)
  pub hear_elsewhere : Leaves hear_elsewhere_call
  pub set_enabled : (b : Bool) → Leaves (λ g. set_enabled_call g b)
  pub set_lamp_failure : (b : Bool) → Leaves (λ g. set_lamp_failure_call g b)
  pub set_lamp_starting : (b : Bool) → Leaves (λ g. set_lamp_starting_call g b)
  pub set_faults : (f : Faults) → Leaves (λ g. set_faults_call g f)

pub left : Left
unfolding activate_call clear_number_call copy_report_call hear_call hear_elsewhere_call set_enabled_call set_faults_call set_features_call set_lamp_failure_call set_lamp_starting_call set_last_call set_location_call set_lock_call set_unit_call stage_call store_tc_limit_call tc_step_call write_memory_call xy_step_call
left =
    record {
      tc_step = λ warmer g. recoloured_left g _;
      xy_step = λ y up g. recoloured_left g _;
      store_tc_limit = λ v s g. recoloured_left g _;
      stage = λ s g. recoloured_left g _;
      activate = λ g. recoloured_left g _;
      copy_report = λ g. recoloured_left g _;
      set_features = λ n g. recoloured_left g _;
      write_memory = λ bank offset v g. rebanked_left g _ _;
      set_lock = λ v g. rebanked_left g _ _;
      set_location = λ offset v g. rebanked_left g _ _;
      set_unit = λ units index g. rebanked_left g _ _;
      set_last = λ last g. rebanked_left g _ _;
      clear_number = λ g. rebanked_left g _ _;
      hear = λ frame repeats g. serve_left g _ (hear_left g frame repeats);
      hear_elsewhere = λ g. serve_left g _ refl;
      set_enabled = λ b g. serve_left g _ refl;
      set_lamp_failure = λ b g. serve_left g _ refl;
      set_lamp_starting = λ b g. serve_left g _ refl;
      set_faults = λ f g. serve_left g _ refl;
    }
