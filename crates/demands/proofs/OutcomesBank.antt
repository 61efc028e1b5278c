-- One outcome of every public function of bank, by its own promise (`Post`, the function's `ensures`).
use Rattle.demands.specs.Outcome.{OneOutcome}
use Rattle.demands.proofs.Outcome.{determined}
use Rattle.bank.proofs.build
use Rattle.bank.proofs.memory
use Rattle.bank.proofs.setters

pub «build::Banks::build» : OneOutcome build.Banks.build.Reads.Post
«build::Banks::build» κs args r r' e e' = determined

pub build::Banks::with_identity : OneOutcome build.Banks.with_identity.Reads.Post
build::Banks::with_identity κs args r r' e e' = determined

pub build::Banks::with_profile : OneOutcome build.Banks.with_profile.Reads.Post
build::Banks::with_profile κs args r r' e e' = determined

pub build::build_bank0 : OneOutcome build.build_bank0.Reads.Post
build::build_bank0 κs args r r' e e' = determined

pub build::build_bank1 : OneOutcome build.build_bank1.Reads.Post
build::build_bank1 κs args r r' e e' = determined

pub memory::memory_location : OneOutcome memory.memory_location.Reads.Post
memory::memory_location κs args r r' e e' = determined

pub memory::implements_bank : OneOutcome memory.implements_bank.Reads.Post
memory::implements_bank κs args r r' e e' = determined

pub memory::advances_dtr0_past : OneOutcome memory.advances_dtr0_past.Reads.Post
memory::advances_dtr0_past κs args r r' e e' = determined

pub memory::write_memory_location : OneOutcome memory.write_memory_location.Reads.Post
memory::write_memory_location κs args r r' e e' = determined

pub setters::set_bank1_lock_byte : OneOutcome setters.set_bank1_lock_byte.Reads.Post
setters::set_bank1_lock_byte κs args r r' e e' = determined

pub setters::set_bank1_location : OneOutcome setters.set_bank1_location.Reads.Post
setters::set_bank1_location κs args r r' e e' = determined

pub setters::set_logical_gear_unit : OneOutcome setters.set_logical_gear_unit.Reads.Post
setters::set_logical_gear_unit κs args r r' e e' = determined

pub setters::set_bank0_last_offset : OneOutcome setters.set_bank0_last_offset.Reads.Post
setters::set_bank0_last_offset κs args r r' e e' = determined

pub setters::clear_identification_number : OneOutcome setters.clear_identification_number.Reads.Post
setters::clear_identification_number κs args r r' e e' = determined

pub memory::lacks_indicator_byte : OneOutcome memory.lacks_indicator_byte.Reads.Post
memory::lacks_indicator_byte κs args r r' e e' = determined
