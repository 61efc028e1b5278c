-- What the lamp does (part 102, 9.16.4), what part 207 says of it, and the level that is told (part 209, 11.3.2).
use Rattle.std.specs.Prelude.{ℕ, ◌/◌, ◌%◌, Bool, true, false, eqb}
use Rattle.query.specs.Bits.{bit}
use Rattle.colour.specs.declared.tint.Tint.{Tint}
use Rattle.colour.specs.Tint.{by_mode}
use Rattle.gear.specs.declared.profile.Unit.{Unit}
use Rattle.gear.specs.declared.condition.Faults.{Faults}
use Rattle.gear.specs.declared.condition.Lamp.{Lamp}
use Rattle.gear.specs.Profile.{is_type}
use Rattle.level.specs.declared.levels.Levels.{Levels}
use Rattle.numbers.specs.Numbers.{pick}

-- bit 5, thermal shut-down, of a type 6 gear
unfoldable pub thermal_shut_down : Unit → Faults → Bool
thermal_shut_down u f = pick (bit f.failure 32) (is_type u 6) false

-- any of bits 0 to 4 of a type 6 gear
unfoldable pub lamp_failure_from207 : Unit → Faults → Bool
lamp_failure_from207 u f = pick (eqb (f.failure % 32) 0) false (is_type u 6)

-- a level above 0, neither starting nor failing, and no thermal shut-down
unfoldable pub lamp_on : Unit → Levels → Lamp → Faults → Bool
lamp_on u l lamp f =
    pick (eqb l.level 0) false (pick lamp.starting false (pick lamp.failure false (pick (thermal_shut_down u f) false true)))

-- bit 5 or 6, thermal overload, of a type 6 gear
unfoldable pub overheated : Unit → Faults → Bool
overheated u f = pick (bit f.failure 32) (is_type u 6) (pick (bit f.failure 64) (is_type u 6) false)

-- the six channel bits are a power of two
unfoldable pub one_linked : ℕ → Bool
one_linked control =
    pick (eqb (control % 64) 1) true
    (pick (eqb (control % 64) 2) true
    (pick (eqb (control % 64) 4) true
    (pick (eqb (control % 64) 8) true (pick (eqb (control % 64) 16) true (pick (eqb (control % 64) 32) true false)))))

-- RGBWAF: normalised control (the two type bits are 2), or one channel linked
unfoldable pub shows_level : Tint → Bool
shows_level a = by_mode a.mode true true true (pick (eqb (a.control / 64) 2) true (one_linked a.control))

unfoldable pub actual_level : Unit → Levels → Faults → Tint → ℕ
actual_level u l f active = pick (overheated u f) 255 (pick (shows_level active) l.level 255)
