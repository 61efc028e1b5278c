-- The status byte (part 102, 9.16; document 01).
use Rattle.std.specs.Prelude.{ℕ, Bool, true, false, Option, None, Some}
use Rattle.std.specs.Int.Bits.{bit_or}
use Rattle.query.specs.Bits.{weight}
use Rattle.query.specs.Lamp.{lamp_failure_from207, lamp_on}
use Rattle.gear.specs.declared.marks.Marks.{Marks}
use Rattle.gear.specs.declared.profile.Unit.{Unit}
use Rattle.gear.specs.declared.condition.Faults.{Faults}
use Rattle.gear.specs.declared.condition.Lamp.{Lamp}
use Rattle.level.specs.declared.levels.Levels.{Levels}
use Rattle.numbers.specs.Numbers.{pick}

unfoldable pub missing : Option ℕ → Bool
missing None = true
missing (Some a) = false

-- the mark, or a part 207 fault
unfoldable pub lamp_failing : Unit → Lamp → Faults → Bool
lamp_failing u lamp f = pick lamp.failure true (lamp_failure_from207 u f)

-- the forced bits, and 1 lamp failure, 2 lamp on, 3 limit error, 5 reset state, 7 power cycle seen, 6 missing short address
unfoldable pub status_byte : Unit → Levels → Marks → Lamp → Faults → ℕ
status_byte u l m lamp f =
    bit_or
    (bit_or
    (bit_or (bit_or (bit_or f.forced (weight (lamp_failing u lamp f) 2)) (weight (lamp_on u l lamp f) 4))
    (bit_or (weight l.error 8) (weight m.reset 32)))
    (weight m.cycled 128))
    (weight (missing u.short) 64)
