-- One outcome of every public function of engine, by its own promise (`Post`, the function's `ensures`).
use Rattle.demands.specs.Outcome.{OneOutcome, OneSeen}
use Rattle.demands.proofs.Outcome.{determined}
use Rattle.engine.proofs.address
use Rattle.engine.proofs.colours
use Rattle.engine.proofs.memory
use Rattle.engine.proofs.pairing
use Rattle.engine.proofs.power
use Rattle.engine.proofs.reads
use Rattle.engine.proofs.reply
use Rattle.engine.proofs.setters
use Rattle.engine.proofs.write

pub «address::matches» : OneOutcome address.matches.Reads.Post
«address::matches» κs args r r' e e' = determined

pub colours::tc_step : OneOutcome colours.tc_step.Reads.Post
colours::tc_step κs args r r' e e' p q = determined p.answer q.answer

pub colours::tc_step_slot : OneSeen (λ κs r e. e.0.now) colours.tc_step.Reads.Post
colours::tc_step_slot κs args r r' e e' p q = determined p.bytes q.bytes

pub colours::xy_step : OneOutcome colours.xy_step.Reads.Post
colours::xy_step κs args r r' e e' p q = determined p.answer q.answer

pub colours::xy_step_slot : OneSeen (λ κs r e. e.0.now) colours.xy_step.Reads.Post
colours::xy_step_slot κs args r r' e e' p q = determined p.bytes q.bytes

pub colours::store_tc_limit : OneOutcome colours.store_tc_limit.Reads.Post
colours::store_tc_limit κs args r r' e e' p q = determined p.answer q.answer

pub colours::store_tc_limit_slot : OneSeen (λ κs r e. e.0.now) colours.store_tc_limit.Reads.Post
colours::store_tc_limit_slot κs args r r' e e' p q = determined p.bytes q.bytes

pub colours::load_temporaries_from : OneOutcome colours.load_temporaries_from.Reads.Post
colours::load_temporaries_from κs args r r' e e' p q = determined p.answer q.answer

pub colours::load_temporaries_from_slot : OneSeen (λ κs r e. e.0.now) colours.load_temporaries_from.Reads.Post
colours::load_temporaries_from_slot κs args r r' e e' p q = determined p.bytes q.bytes

pub colours::activate_pending_color : OneOutcome colours.activate_pending_color.Reads.Post
colours::activate_pending_color κs args r r' e e' p q = determined p.answer q.answer

pub colours::activate_pending_color_slot : OneSeen (λ κs r e. e.0.now) colours.activate_pending_color.Reads.Post
colours::activate_pending_color_slot κs args r r' e e' p q = determined p.bytes q.bytes

pub colours::copy_report_to_temporary : OneOutcome colours.copy_report_to_temporary.Reads.Post
colours::copy_report_to_temporary κs args r r' e e' p q = determined p.answer q.answer

pub colours::copy_report_to_temporary_slot : OneSeen (λ κs r e. e.0.now) colours.copy_report_to_temporary.Reads.Post
colours::copy_report_to_temporary_slot κs args r r' e e' p q = determined p.bytes q.bytes

pub colours::set_gear_features : OneOutcome colours.set_gear_features.Reads.Post
colours::set_gear_features κs args r r' e e' p q = determined p.answer q.answer

pub colours::set_gear_features_slot : OneSeen (λ κs r e. e.0.now) colours.set_gear_features.Reads.Post
colours::set_gear_features_slot κs args r r' e e' p q = determined p.bytes q.bytes

pub colours::color_value : OneOutcome colours.color_value.Reads.Post
colours::color_value κs args r r' e e' = determined

pub colours::dt8_colour_status : OneOutcome colours.dt8_colour_status.Reads.Post
colours::dt8_colour_status κs args r r' e e' = determined

pub colours::dt8_features : OneOutcome colours.dt8_features.Reads.Post
colours::dt8_features κs args r r' e e' = determined

pub colours::rgbwaf_control_byte : OneOutcome colours.rgbwaf_control_byte.Reads.Post
colours::rgbwaf_control_byte κs args r r' e e' = determined

pub colours::gear_features_byte : OneOutcome colours.gear_features_byte.Reads.Post
colours::gear_features_byte κs args r r' e e' = determined

pub colours::automatic_activation : OneOutcome colours.automatic_activation.Reads.Post
colours::automatic_activation κs args r r' e e' = determined

pub memory::memory_location : OneOutcome memory.memory_location.Reads.Post
memory::memory_location κs args r r' e e' = determined

pub memory::write_memory_location : OneOutcome memory.write_memory_location.Reads.Post
memory::write_memory_location κs args r r' e e' p q = determined p.answer q.answer

pub memory::write_memory_location_slot : OneSeen (λ κs r e. e.0.now) memory.write_memory_location.Reads.Post
memory::write_memory_location_slot κs args r r' e e' p q = determined p.bytes q.bytes

pub memory::advances_dtr0_past : OneOutcome memory.advances_dtr0_past.Reads.Post
memory::advances_dtr0_past κs args r r' e e' = determined

pub memory::implements_bank : OneOutcome memory.implements_bank.Reads.Post
memory::implements_bank κs args r r' e e' = determined

pub memory::set_bank1_lock_byte : OneOutcome memory.set_bank1_lock_byte.Reads.Post
memory::set_bank1_lock_byte κs args r r' e e' p q = determined p.answer q.answer

pub memory::set_bank1_lock_byte_slot : OneSeen (λ κs r e. e.0.now) memory.set_bank1_lock_byte.Reads.Post
memory::set_bank1_lock_byte_slot κs args r r' e e' p q = determined p.bytes q.bytes

pub memory::set_bank1_location : OneOutcome memory.set_bank1_location.Reads.Post
memory::set_bank1_location κs args r r' e e' p q = determined p.answer q.answer

pub memory::set_bank1_location_slot : OneSeen (λ κs r e. e.0.now) memory.set_bank1_location.Reads.Post
memory::set_bank1_location_slot κs args r r' e e' p q = determined p.bytes q.bytes

pub memory::set_logical_gear_unit : OneOutcome memory.set_logical_gear_unit.Reads.Post
memory::set_logical_gear_unit κs args r r' e e' p q = determined p.answer q.answer

pub memory::set_logical_gear_unit_slot : OneSeen (λ κs r e. e.0.now) memory.set_logical_gear_unit.Reads.Post
memory::set_logical_gear_unit_slot κs args r r' e e' p q = determined p.bytes q.bytes

pub memory::set_bank0_last_offset : OneOutcome memory.set_bank0_last_offset.Reads.Post
memory::set_bank0_last_offset κs args r r' e e' p q = determined p.answer q.answer

pub memory::set_bank0_last_offset_slot : OneSeen (λ κs r e. e.0.now) memory.set_bank0_last_offset.Reads.Post
memory::set_bank0_last_offset_slot κs args r r' e e' p q = determined p.bytes q.bytes

pub memory::clear_identification_number : OneOutcome memory.clear_identification_number.Reads.Post
memory::clear_identification_number κs args r r' e e' p q = determined p.answer q.answer

pub memory::clear_identification_number_slot : OneSeen (λ κs r e. e.0.now) memory.clear_identification_number.Reads.Post
memory::clear_identification_number_slot κs args r r' e e' p q = determined p.bytes q.bytes

pub «pairing::hear» : OneOutcome pairing.hear.Reads.Post
«pairing::hear» κs args r r' e e' p q = determined p.answer q.answer

pub «pairing::hear-slot» : OneSeen (λ κs r e. e.0.now) pairing.hear.Reads.Post
«pairing::hear-slot» κs args r r' e e' p q = determined p.bytes q.bytes

pub «pairing::holds» : OneOutcome pairing.holds.Reads.Post
«pairing::holds» κs args r r' e e' = determined

pub pairing::hear_elsewhere : OneOutcome pairing.hear_elsewhere.Reads.Post
pairing::hear_elsewhere κs args r r' e e' p q = determined p.answer q.answer

pub pairing::hear_elsewhere_slot : OneSeen (λ κs r e. e.0.now) pairing.hear_elsewhere.Reads.Post
pairing::hear_elsewhere_slot κs args r r' e e' p q = determined p.bytes q.bytes

pub power::power_cycle : OneOutcome power.power_cycle.Reads.Post
power::power_cycle κs args r r' e e' p q = determined p.answer q.answer

pub power::power_cycle_slot : OneSeen (λ κs r e. e.0.now) power.power_cycle.Reads.Post
power::power_cycle_slot κs args r r' e e' p q = determined p.bytes q.bytes

pub reads::status_byte : OneOutcome reads.status_byte.Reads.Post
reads::status_byte κs args r r' e e' = determined

pub reads::lamp_on : OneOutcome reads.lamp_on.Reads.Post
reads::lamp_on κs args r r' e e' = determined

pub reads::failure_bits : OneOutcome reads.failure_bits.Reads.Post
reads::failure_bits κs args r r' e e' = determined

pub reads::thermal_shut_down : OneOutcome reads.thermal_shut_down.Reads.Post
reads::thermal_shut_down κs args r r' e e' = determined

pub reads::lamp_failure_from_207 : OneOutcome reads.lamp_failure_from_207.Reads.Post
reads::lamp_failure_from_207 κs args r r' e e' = determined

pub reads::actual_level_answer : OneOutcome reads.actual_level_answer.Reads.Post
reads::actual_level_answer κs args r r' e e' = determined

pub reads::is_type : OneOutcome reads.is_type.Reads.Post
reads::is_type κs args r r' e e' = determined

pub reply::gear_query_reply : OneOutcome reply.gear_query_reply.Reads.Post
reply::gear_query_reply κs args r r' e e' p q = determined p.answer q.answer

pub reply::gear_query_reply_slot : OneSeen (λ κs r e. e.0.now) reply.gear_query_reply.Reads.Post
reply::gear_query_reply_slot κs args r r' e e' p q = determined p.bytes q.bytes

pub setters::set_enabled : OneOutcome setters.set_enabled.Reads.Post
setters::set_enabled κs args r r' e e' p q = determined p.answer q.answer

pub setters::set_enabled_slot : OneSeen (λ κs r e. e.0.now) setters.set_enabled.Reads.Post
setters::set_enabled_slot κs args r r' e e' p q = determined p.bytes q.bytes

pub setters::set_lamp_failure : OneOutcome setters.set_lamp_failure.Reads.Post
setters::set_lamp_failure κs args r r' e e' p q = determined p.answer q.answer

pub setters::set_lamp_failure_slot : OneSeen (λ κs r e. e.0.now) setters.set_lamp_failure.Reads.Post
setters::set_lamp_failure_slot κs args r r' e e' p q = determined p.bytes q.bytes

pub setters::set_lamp_starting : OneOutcome setters.set_lamp_starting.Reads.Post
setters::set_lamp_starting κs args r r' e e' p q = determined p.answer q.answer

pub setters::set_lamp_starting_slot : OneSeen (λ κs r e. e.0.now) setters.set_lamp_starting.Reads.Post
setters::set_lamp_starting_slot κs args r r' e e' p q = determined p.bytes q.bytes

pub setters::set_faults : OneOutcome setters.set_faults.Reads.Post
setters::set_faults κs args r r' e e' p q = determined p.answer q.answer

pub setters::set_faults_slot : OneSeen (λ κs r e. e.0.now) setters.set_faults.Reads.Post
setters::set_faults_slot κs args r r' e e' p q = determined p.bytes q.bytes

pub write::direct_arc_power : OneOutcome write.direct_arc_power.Reads.Post
write::direct_arc_power κs args r r' e e' p q = determined p.answer q.answer

pub write::direct_arc_power_slot : OneSeen (λ κs r e. e.0.now) write.direct_arc_power.Reads.Post
write::direct_arc_power_slot κs args r r' e e' p q = determined p.bytes q.bytes

pub write::apply_standard_write : OneOutcome write.apply_standard_write.Reads.Post
write::apply_standard_write κs args r r' e e' p q = determined p.answer q.answer

pub write::apply_standard_write_slot : OneSeen (λ κs r e. e.0.now) write.apply_standard_write.Reads.Post
write::apply_standard_write_slot κs args r r' e e' p q = determined p.bytes q.bytes
