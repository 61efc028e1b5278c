-- Plain reads of a record.
use Rattle.std.specs.Prelude.{ℕ, ◌%◌, Ok}
use Rattle.gear.specs.Answer.{Answer, flag}
use Rattle.gear.specs.declared.answer.Reply.TheVariants.{Value}
use Rattle.gear.specs.declared.record.Gear.{Gear}
use Rattle.gear.specs.Profile.{is_type}
use Rattle.gear.specs.Serve.{tell}
use Rattle.query.specs.Lamp.{actual_level, lamp_failure_from207, lamp_on, thermal_shut_down}
use Rattle.query.specs.Status.{status_byte}

unfoldable pub status_call : Gear → Answer
status_call g = tell g (Ok (Value (status_byte g.unit g.levels g.marks g.condition.lamp g.condition.faults)))

unfoldable pub lamp_on_call : Gear → Answer
lamp_on_call g = tell g (flag (lamp_on g.unit g.levels g.condition.lamp g.condition.faults))

-- bits 0 to 6
unfoldable pub failure_bits_call : Gear → Answer
failure_bits_call g = tell g (Ok (Value (g.condition.faults.failure % 128)))

unfoldable pub thermal_call : Gear → Answer
thermal_call g = tell g (flag (thermal_shut_down g.unit g.condition.faults))

unfoldable pub lamp_failure_call : Gear → Answer
lamp_failure_call g = tell g (flag (lamp_failure_from207 g.unit g.condition.faults))

unfoldable pub actual_level_call : Gear → Answer
actual_level_call g = tell g (Ok (Value (actual_level g.unit g.levels g.condition.faults g.colour.active)))

unfoldable pub type_call : Gear → ℕ → Answer
type_call g code = tell g (flag (is_type g.unit code))
