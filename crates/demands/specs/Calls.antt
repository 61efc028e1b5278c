-- Every public call that takes a record, and what each does: the rule of its call, to which the call is proved equal.
use Rattle.std.specs.Prelude.{ℕ, Bool}
use Rattle.calls.specs.Address.{matches_call}
use Rattle.calls.specs.Colours.{activate_call, automatic_call, color_value_call, colour_status_call, control_call, copy_report_call, feature_byte_call, features_call, set_features_call, stage_call, store_tc_limit_call, tc_step_call, xy_step_call}
use Rattle.calls.specs.declared.address.Address.{Address}
use Rattle.calls.specs.Memory.{advances_call, clear_number_call, implements_call, memory_location_call, set_last_call, set_location_call, set_lock_call, set_unit_call, write_memory_call}
use Rattle.calls.specs.Pairing.{hear_call, hear_elsewhere_call, holds_call}
use Rattle.calls.specs.Power.{power_cycle_call}
use Rattle.calls.specs.Reads.{actual_level_call, failure_bits_call, lamp_failure_call, lamp_on_call, status_call, thermal_call, type_call}
use Rattle.calls.specs.Setters.{set_enabled_call, set_faults_call, set_lamp_failure_call, set_lamp_starting_call}
use Rattle.colour.specs.declared.setting.ColourSetting.{ColourSetting}
use Rattle.gear.specs.declared.answer.Outcome.{Outcome}
use Rattle.gear.specs.declared.condition.Faults.{Faults}
use Rattle.gear.specs.declared.record.Gear.{Gear}
use Rattle.gear.specs.Answer.{Answer}
use Rattle.gear.specs.Write.{apply_standard_write, direct_arc_power}
use Rattle.query.specs.Reply.{gear_query_reply}

pub data Call : Type 0 where
  StandardWrite : (byte dtr0 : ℕ) → Call
  ArcPower : (level : ℕ) → Call
  Query : (byte : ℕ) → Call
  Matches : (whom : Address) → Call
  TcStep : (warmer : Bool) → Call
  XyStep : (y up : Bool) → Call
  StoreTcLimit : (value selector : ℕ) → Call
  Stage : (setting : ColourSetting) → Call
  Activate : Call
  CopyReport : Call
  SetFeatures : (features : ℕ) → Call
  ColorValue : (id : ℕ) → Call
  ColourStatus : Call
  Features : Call
  ControlByte : Call
  FeatureByte : Call
  Automatic : Call
  ReadMemory : (bank offset : ℕ) → Call
  WriteMemory : (bank offset value : ℕ) → Call
  AdvancesDtr0 : (bank offset : ℕ) → Call
  ImplementsBank : (bank : ℕ) → Call
  SetLockByte : (value : ℕ) → Call
  SetLocation : (offset value : ℕ) → Call
  SetGearUnit : (units index : ℕ) → Call
  SetLastOffset : (last : ℕ) → Call
  ClearNumber : Call
  Hear : (frame : ℕ) (repeats : Bool) → Call
  HoldsFrame : (frame : ℕ) → Call
  HearElsewhere : Call
  PowerCycle : Call
  StatusByte : Call
  LampOn : Call
  FailureBits : Call
  ThermalShutDown : Call
  LampFailure : Call
  ActualLevel : Call
  IsType : (code : ℕ) → Call
  SetEnabled : (enabled : Bool) → Call
  SetLampFailure : (failure : Bool) → Call
  SetLampStarting : (starting : Bool) → Call
  SetFaults : (faults : Faults) → Call

-- How calls may behave: what each gives on each record. The rules are one such behaviour, an impostor is another.
abbrev pub Behaviour : Type 0
Behaviour = Call → Gear → Outcome

-- a call that only answers hands back no record: the caller's own stays as it was
abbrev pub told : Gear → Answer → Outcome
told g a = record { answer = a; gear = g }

unfoldable pub perform : Behaviour
perform (StandardWrite byte dtr0) g = apply_standard_write g byte dtr0
perform (ArcPower level) g = direct_arc_power g level
perform (Query byte) g = gear_query_reply g byte
perform (Matches whom) g = told g (matches_call g whom)
perform (TcStep warmer) g = tc_step_call g warmer
perform (XyStep y up) g = xy_step_call g y up
perform (StoreTcLimit value selector) g = store_tc_limit_call g value selector
perform (Stage setting) g = stage_call g setting
perform Activate g = activate_call g
perform CopyReport g = copy_report_call g
perform (SetFeatures features) g = set_features_call g features
perform (ColorValue id) g = told g (color_value_call g id)
perform ColourStatus g = told g (colour_status_call g)
perform Features g = told g (features_call g)
perform ControlByte g = told g (control_call g)
perform FeatureByte g = told g (feature_byte_call g)
perform Automatic g = told g (automatic_call g)
perform (ReadMemory bank offset) g = told g (memory_location_call g bank offset)
perform (WriteMemory bank offset value) g = write_memory_call g bank offset value
perform (AdvancesDtr0 bank offset) g = told g (advances_call g bank offset)
perform (ImplementsBank bank) g = told g (implements_call g bank)
perform (SetLockByte value) g = set_lock_call g value
perform (SetLocation offset value) g = set_location_call g offset value
perform (SetGearUnit units index) g = set_unit_call g units index
perform (SetLastOffset last) g = set_last_call g last
perform ClearNumber g = clear_number_call g
perform (Hear frame repeats) g = hear_call g frame repeats
perform (HoldsFrame frame) g = told g (holds_call g frame)
perform HearElsewhere g = hear_elsewhere_call g
perform PowerCycle g = power_cycle_call g
perform StatusByte g = told g (status_call g)
perform LampOn g = told g (lamp_on_call g)
perform FailureBits g = told g (failure_bits_call g)
perform ThermalShutDown g = told g (thermal_call g)
perform LampFailure g = told g (lamp_failure_call g)
perform ActualLevel g = told g (actual_level_call g)
perform (IsType code) g = told g (type_call g code)
perform (SetEnabled enabled) g = set_enabled_call g enabled
perform (SetLampFailure failure) g = set_lamp_failure_call g failure
perform (SetLampStarting starting) g = set_lamp_starting_call g starting
perform (SetFaults faults) g = set_faults_call g faults
