-- Memory calls on a record: bank's rules under the fit test.
use Rattle.std.specs.Prelude.{ℕ, Ok}
use Rattle.bank.specs.declared.build.Banks.{Banks}
use Rattle.bank.specs.Memory.{memory_location, write_memory_location, advances_dtr0_past, implements_bank}
use Rattle.bank.specs.Setters.{set_bank1_lock_byte, set_bank1_location, set_logical_gear_unit, set_bank0_last_offset, clear_identification_number}
use Rattle.gear.specs.Answer.{Answer, flag, location_answer}
use Rattle.gear.specs.declared.answer.Reply.TheVariants.{Done}
use Rattle.gear.specs.declared.answer.Outcome.{Outcome}
use Rattle.gear.specs.declared.record.Gear.{Gear}
use Rattle.gear.specs.Parts.{with_banks}
use Rattle.gear.specs.Serve.{serve, tell}

unfoldable pub rebanked : Gear → Answer → Banks → Outcome
rebanked g a b = serve g (record { answer = a; gear = with_banks g b })

unfoldable pub memory_location_call : Gear → ℕ → ℕ → Answer
memory_location_call g bank offset = tell g (location_answer (memory_location g.banks g.unit.bare bank offset))

-- write enable is not asked for
unfoldable pub write_memory_call : Gear → ℕ → ℕ → ℕ → Outcome
write_memory_call g bank offset value =
    rebanked g (location_answer (write_memory_location g.banks g.condition.faults.unstored bank offset value).answer)
    (write_memory_location g.banks g.condition.faults.unstored bank offset value).banks

unfoldable pub advances_call : Gear → ℕ → ℕ → Answer
advances_call g bank offset = tell g (flag (advances_dtr0_past g.banks g.unit.bare g.unit.holds bank offset))

unfoldable pub implements_call : Gear → ℕ → Answer
implements_call g bank = tell g (flag (implements_bank bank))

unfoldable pub set_lock_call : Gear → ℕ → Outcome
set_lock_call g v = rebanked g (Ok Done) (set_bank1_lock_byte g.banks v)

unfoldable pub set_location_call : Gear → ℕ → ℕ → Outcome
set_location_call g offset v = rebanked g (Ok Done) (set_bank1_location g.banks offset v)

unfoldable pub set_unit_call : Gear → ℕ → ℕ → Outcome
set_unit_call g units index = rebanked g (Ok Done) (set_logical_gear_unit g.banks units index)

unfoldable pub set_last_call : Gear → ℕ → Outcome
set_last_call g last = rebanked g (Ok Done) (set_bank0_last_offset g.banks last)

unfoldable pub clear_number_call : Gear → Outcome
clear_number_call g = rebanked g (Ok Done) (clear_identification_number g.banks)
