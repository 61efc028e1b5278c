-- The calls of this crate that no bank byte reaches, as one table.
use Prim.Native.Nat.{ℕ}
use mathlib.Core.Path.{◌≡◌, refl}
use mathlib.Core.Bool.{Bool}
use Rattle.std.specs.declared.result.Result.TheVariants.{Ok}
use Rattle.calls.specs.Address.{addressed, judged, matching, matches_call}
use Rattle.calls.specs.Colours.{activate_call, automatic_call, color_value_call, colour_status_call, control_call, copy_report_call, feature_byte_call, features_call, recoloured, set_features_call, stage_call, store_tc_limit_call, tc_step_call, xy_step_call}
use Rattle.calls.specs.declared.address.Address.{Address}
use Rattle.calls.specs.declared.address.Address.TheVariants.{Broadcast, Group, Short, Unaddressed}
use Rattle.calls.specs.Memory.{clear_number_call, implements_call, rebanked, set_last_call, set_location_call, set_lock_call, set_unit_call}
use Rattle.calls.specs.Pairing.{hear, hear_call, hear_elsewhere_call, holds_call, waits}
use Rattle.calls.specs.Power.{power_cycle, power_cycle_call}
use Rattle.calls.specs.Reads.{actual_level_call, failure_bits_call, lamp_failure_call, lamp_on_call, status_call, thermal_call, type_call}
use Rattle.calls.specs.Setters.{set_enabled_call, set_faults_call, set_lamp_failure_call, set_lamp_starting_call}
use Rattle.calls.proofs.Banks.{Alike, Blind, BlindRead, serve_alike, tell_alike}
use Rattle.bank.specs.declared.build.Banks.{Banks}
use Rattle.colour.specs.declared.record.Colour.{Colour}
use Rattle.colour.specs.declared.setting.ColourSetting.{ColourSetting}
use Rattle.gear.specs.declared.answer.Reply.TheVariants.{Done}
use Rattle.gear.specs.declared.condition.Faults.{Faults}
use Rattle.gear.specs.declared.record.Gear.{Gear}
use Rattle.gear.specs.Parts.{with_banks}
use Rattle.numbers.proofs.Logic.{by_cases}

recoloured_alike : (g : Gear) (b : Banks) (c : Colour) → Alike (recoloured (with_banks g b) c) (recoloured g c)
unfolding recoloured
recoloured_alike g b c = serve_alike g b _ _ (record { answer = refl; rest = refl })

-- whatever banks a setter leaves
rebanked_alike : (g : Gear) (b n m : Banks) → Alike (rebanked (with_banks g b) (Ok Done) n) (rebanked g (Ok Done) m)
unfolding rebanked
rebanked_alike g b n m = serve_alike g b _ _ (record { answer = refl; rest = refl })

hear_alike : (g : Gear) (b : Banks) (frame : ℕ) (repeats : Bool) → Alike (hear (with_banks g b) frame repeats) (hear g frame repeats)
unfolding hear
hear_alike g b frame repeats =
    by_cases (waits g.marks.pair frame) (λ e. rw e (record { answer = refl; rest = refl }))
    (λ e. rw e (record { answer = refl; rest = refl }))

addressed_alike : (g : Gear) (b : Banks) (a : Address) → addressed (with_banks g b) a ≡ addressed g a
unfolding addressed
addressed_alike g b (Short n) = refl
addressed_alike g b (Group n) = refl
addressed_alike g b Broadcast = refl
addressed_alike g b Unaddressed = refl

-- every call of this crate but memory_location, write_memory_location and advances_dtr0_past
pub record BlindCalls : Type 0 where
  pub tc_step : (warmer : Bool) → Blind (λ g. tc_step_call g warmer)
  pub xy_step : (y up : Bool) → Blind (λ g. xy_step_call g y up)
  pub store_tc_limit : (v s : ℕ) → Blind (λ g. store_tc_limit_call g v s)
  pub stage : (s : ColourSetting) → Blind (λ g. stage_call g s)
  pub activate : Blind activate_call
  pub copy_report : Blind copy_report_call
  pub set_features : (n : ℕ) → Blind (λ g. set_features_call g n)
  pub set_lock : (v : ℕ) → Blind (λ g. set_lock_call g v)
  pub set_location : (offset v : ℕ) → Blind (λ g. set_location_call g offset v)
  pub set_unit : (units index : ℕ) → Blind (λ g. set_unit_call g units index)
  pub set_last : (last : ℕ) → Blind (λ g. set_last_call g last)
  pub clear_number : Blind clear_number_call
  pub hear : (frame : ℕ) (repeats : Bool) → Blind (λ g. hear_call g frame repeats)
  pub hear_elsewhere : Blind hear_elsewhere_call
  pub power_cycle : Blind power_cycle_call
  pub set_enabled : (b : Bool) → Blind (λ g. set_enabled_call g b)
  pub set_lamp_failure : (b : Bool) → Blind (λ g. set_lamp_failure_call g b)
  pub set_lamp_starting : (b : Bool) → Blind (λ g. set_lamp_starting_call g b)
  pub set_faults : (f : Faults) → Blind (λ g. set_faults_call g f)
  pub color_value : (id : ℕ) → BlindRead (λ g. color_value_call g id)
  pub colour_status : BlindRead colour_status_call
  pub features : BlindRead features_call
  pub control : BlindRead control_call
  pub feature_byte : BlindRead feature_byte_call
  pub automatic : BlindRead automatic_call
  pub implements : (bank : ℕ) → BlindRead (λ g. implements_call g bank)
  pub holds : (frame : ℕ) → BlindRead (λ g. holds_call g frame)
  pub matches : (a : Address) → BlindRead (λ g. matches_call g a)
  pub status : BlindRead status_call
  pub lamp_on : BlindRead lamp_on_call
  pub failure_bits : BlindRead failure_bits_call
  pub thermal : BlindRead thermal_call
  pub lamp_failure : BlindRead lamp_failure_call
  pub actual_level : BlindRead actual_level_call
  pub type : (code : ℕ) → BlindRead (λ g. type_call g code)

pub blind_calls : BlindCalls
unfolding activate_call actual_level_call automatic_call clear_number_call color_value_call colour_status_call control_call copy_report_call failure_bits_call feature_byte_call features_call hear_call hear_elsewhere_call holds_call implements_call judged lamp_failure_call lamp_on_call matches_call matching power_cycle power_cycle_call set_enabled_call set_faults_call set_features_call set_lamp_failure_call set_lamp_starting_call set_last_call set_location_call set_lock_call set_unit_call stage_call status_call store_tc_limit_call tc_step_call thermal_call type_call xy_step_call
blind_calls =
    record {
      tc_step = λ warmer g b. recoloured_alike g b _;
      xy_step = λ y up g b. recoloured_alike g b _;
      store_tc_limit = λ v s g b. recoloured_alike g b _;
      stage = λ s g b. recoloured_alike g b _;
      activate = λ g b. recoloured_alike g b _;
      copy_report = λ g b. recoloured_alike g b _;
      set_features = λ n g b. recoloured_alike g b _;
      set_lock = λ v g b. rebanked_alike g b _ _;
      set_location = λ offset v g b. rebanked_alike g b _ _;
      set_unit = λ units index g b. rebanked_alike g b _ _;
      set_last = λ last g b. rebanked_alike g b _ _;
      clear_number = λ g b. rebanked_alike g b _ _;
      hear = λ frame repeats g b. serve_alike g b _ _ (hear_alike g b frame repeats);
      hear_elsewhere = λ g b. serve_alike g b _ _ (record { answer = refl; rest = refl });
      power_cycle = λ g b. serve_alike g b _ _ (record { answer = refl; rest = refl });
      set_enabled = λ x g b. serve_alike g b _ _ (record { answer = refl; rest = refl });
      set_lamp_failure = λ x g b. serve_alike g b _ _ (record { answer = refl; rest = refl });
      set_lamp_starting = λ x g b. serve_alike g b _ _ (record { answer = refl; rest = refl });
      set_faults = λ f g b. serve_alike g b _ _ (record { answer = refl; rest = refl });
      color_value = λ id g b. tell_alike g b _;
      colour_status = λ g b. tell_alike g b _;
      features = λ g b. tell_alike g b _;
      control = λ g b. tell_alike g b _;
      feature_byte = λ g b. tell_alike g b _;
      automatic = λ g b. tell_alike g b _;
      implements = λ bank g b. tell_alike g b _;
      holds = λ frame g b. tell_alike g b _;
      matches = λ a g b. rw (addressed_alike g b a) (tell_alike g b _);
      status = λ g b. tell_alike g b _;
      lamp_on = λ g b. tell_alike g b _;
      failure_bits = λ g b. tell_alike g b _;
      thermal = λ g b. tell_alike g b _;
      lamp_failure = λ g b. tell_alike g b _;
      actual_level = λ g b. tell_alike g b _;
      type = λ code g b. tell_alike g b _;
    }
