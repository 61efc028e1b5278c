-- One outcome of every public function of calls, by its own promise (`Post`, the function's `ensures`).
use Rattle.demands.specs.Outcome.{OneOutcome}
use Rattle.demands.proofs.Outcome.{determined}
use Rattle.calls.proofs.address
use Rattle.calls.proofs.colours
use Rattle.calls.proofs.memory
use Rattle.calls.proofs.pairing
use Rattle.calls.proofs.power
use Rattle.calls.proofs.reads
use Rattle.calls.proofs.setters

pub «address::matches» : OneOutcome address.matches.Reads.Post
«address::matches» κs args r r' e e' = determined

pub colours::tc_step : OneOutcome colours.tc_step.Reads.Post
colours::tc_step κs args r r' e e' = determined

pub colours::xy_step : OneOutcome colours.xy_step.Reads.Post
colours::xy_step κs args r r' e e' = determined

pub colours::store_tc_limit : OneOutcome colours.store_tc_limit.Reads.Post
colours::store_tc_limit κs args r r' e e' = determined

pub colours::load_temporaries_from : OneOutcome colours.load_temporaries_from.Reads.Post
colours::load_temporaries_from κs args r r' e e' = determined

pub colours::activate_pending_color : OneOutcome colours.activate_pending_color.Reads.Post
colours::activate_pending_color κs args r r' e e' = determined

pub colours::copy_report_to_temporary : OneOutcome colours.copy_report_to_temporary.Reads.Post
colours::copy_report_to_temporary κs args r r' e e' = determined

pub colours::set_gear_features : OneOutcome colours.set_gear_features.Reads.Post
colours::set_gear_features κs args r r' e e' = determined

pub colours::color_value : OneOutcome colours.color_value.Reads.Post
colours::color_value κs args r r' e e' = determined

pub colours::dt8_colour_status : OneOutcome colours.dt8_colour_status.Reads.Post
colours::dt8_colour_status κs args r r' e e' = determined

pub colours::dt8_features : OneOutcome colours.dt8_features.Reads.Post
colours::dt8_features κs args r r' e e' = determined

pub colours::rgbwaf_control_byte : OneOutcome colours.rgbwaf_control_byte.Reads.Post
colours::rgbwaf_control_byte κs args r r' e e' = determined

pub colours::gear_features_byte : OneOutcome colours.gear_features_byte.Reads.Post
colours::gear_features_byte κs args r r' e e' = determined

pub colours::automatic_activation : OneOutcome colours.automatic_activation.Reads.Post
colours::automatic_activation κs args r r' e e' = determined

pub memory::memory_location : OneOutcome memory.memory_location.Reads.Post
memory::memory_location κs args r r' e e' = determined

pub memory::write_memory_location : OneOutcome memory.write_memory_location.Reads.Post
memory::write_memory_location κs args r r' e e' = determined

pub memory::advances_dtr0_past : OneOutcome memory.advances_dtr0_past.Reads.Post
memory::advances_dtr0_past κs args r r' e e' = determined

pub memory::implements_bank : OneOutcome memory.implements_bank.Reads.Post
memory::implements_bank κs args r r' e e' = determined

pub memory::set_bank1_lock_byte : OneOutcome memory.set_bank1_lock_byte.Reads.Post
memory::set_bank1_lock_byte κs args r r' e e' = determined

pub memory::set_bank1_location : OneOutcome memory.set_bank1_location.Reads.Post
memory::set_bank1_location κs args r r' e e' = determined

pub memory::set_logical_gear_unit : OneOutcome memory.set_logical_gear_unit.Reads.Post
memory::set_logical_gear_unit κs args r r' e e' = determined

pub memory::set_bank0_last_offset : OneOutcome memory.set_bank0_last_offset.Reads.Post
memory::set_bank0_last_offset κs args r r' e e' = determined

pub memory::clear_identification_number : OneOutcome memory.clear_identification_number.Reads.Post
memory::clear_identification_number κs args r r' e e' = determined

pub «pairing::hear» : OneOutcome pairing.hear.Reads.Post
«pairing::hear» κs args r r' e e' = determined

pub «pairing::holds» : OneOutcome pairing.holds.Reads.Post
«pairing::holds» κs args r r' e e' = determined

pub pairing::hear_elsewhere : OneOutcome pairing.hear_elsewhere.Reads.Post
pairing::hear_elsewhere κs args r r' e e' = determined

pub power::power_cycle : OneOutcome power.power_cycle.Reads.Post
power::power_cycle κs args r r' e e' = determined

pub reads::status_byte : OneOutcome reads.status_byte.Reads.Post
reads::status_byte κs args r r' e e' = determined

pub reads::lamp_on : OneOutcome reads.lamp_on.Reads.Post
reads::lamp_on κs args r r' e e' = determined

pub reads::failure_bits : OneOutcome reads.failure_bits.Reads.Post
reads::failure_bits κs args r r' e e' = determined

pub reads::thermal_shut_down : OneOutcome reads.thermal_shut_down.Reads.Post
reads::thermal_shut_down κs args r r' e e' = determined

pub reads::lamp_failure_from_207 : OneOutcome reads.lamp_failure_from_207.Reads.Post
reads::lamp_failure_from_207 κs args r r' e e' = determined

pub reads::actual_level_answer : OneOutcome reads.actual_level_answer.Reads.Post
reads::actual_level_answer κs args r r' e e' = determined

pub reads::is_type : OneOutcome reads.is_type.Reads.Post
reads::is_type κs args r r' e e' = determined

pub setters::set_enabled : OneOutcome setters.set_enabled.Reads.Post
setters::set_enabled κs args r r' e e' = determined

pub setters::set_lamp_failure : OneOutcome setters.set_lamp_failure.Reads.Post
setters::set_lamp_failure κs args r r' e e' = determined

pub setters::set_lamp_starting : OneOutcome setters.set_lamp_starting.Reads.Post
setters::set_lamp_starting κs args r r' e e' = determined

pub setters::set_faults : OneOutcome setters.set_faults.Reads.Post
setters::set_faults κs args r r' e e' = determined

pub address::is_group_beyond : OneOutcome address.is_group_beyond.Reads.Post
address::is_group_beyond κs args r r' e e' = determined

pub pairing::heard_answer : OneOutcome pairing.heard_answer.Reads.Post
pairing::heard_answer κs args r r' e e' = determined
