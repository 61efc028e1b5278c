-- What a query changes: the walk through the type list, and the colour report.
use Rattle.std.specs.Prelude.{ℕ, ◌+◌, ◌/◌, ◌%◌, Bool, true, eqb, leb, Option, None, Some}
use Rattle.query.specs.Reply.{is_query}
use Rattle.query.specs.declared.heard.Told.{Told}
use Rattle.query.specs.declared.heard.Told.TheVariants.{Actual, PowerOn, SystemFailure, Scene}
use Rattle.colour.specs.declared.setting.ColourSetting.{ColourSetting}
use Rattle.colour.specs.declared.tint.Tint.{Tint}
use Rattle.colour.specs.Tint.{captured}
use Rattle.gear.specs.declared.marks.Marks.{Marks}
use Rattle.gear.specs.declared.profile.Unit.{Unit}
use Rattle.gear.specs.Marks.{with_walk}
use Rattle.gear.specs.Profile.{is_type}
use Rattle.numbers.specs.Numbers.{both, pick}

-- query 153: more than one type starts the walk
unfoldable pub begun : ℕ → Option ℕ
begun count = pick (leb count 1) None (Some 0)

-- one place on, until past the last type
unfoldable pub moved_on : ℕ → Marks → ℕ → Marks
moved_on count m at = pick (leb count at) m (with_walk m (Some (at + 1)))

-- query 167: only a walk that is on goes on
unfoldable pub stepped : ℕ → Marks → Option ℕ → Marks
stepped count m None = m
stepped count m (Some n) = moved_on count m n

-- any other query ends the walk
unfoldable pub walked : Unit → Marks → ℕ → Marks
walked u m b =
    pick (eqb b 153) (with_walk m (begun u.count))
    (pick (eqb b 167) (stepped u.count m m.walk) (pick (is_query b) (with_walk m None) m))

-- 160 actual level, 163 power-on, 164 system failure, 176 to 191 scenes, the low half of the byte the scene's number
unfoldable pub level_told : ℕ → Option Told
level_told b =
    pick (eqb b 160) (Some Actual)
    (pick (eqb b 163) (Some PowerOn) (pick (eqb b 164) (Some SystemFailure) (pick (eqb (b / 16) 11) (Some (Scene (b % 16))) None)))

-- the bytes that tell a level
unfoldable pub tells_level : ℕ → Bool
tells_level b = pick (eqb b 160) true (pick (eqb b 163) true (pick (eqb b 164) true (eqb (b / 16) 11)))

-- only a type 8 gear reports
unfoldable pub reports : Unit → ℕ → Bool
reports u b = both (tells_level b) (is_type u 8)

-- 160 the active colour; 163, 164 and any other byte a stored one
unfoldable pub shown : Tint → ColourSetting → ColourSetting → ColourSetting → ℕ → ColourSetting
shown active on failure scene b = pick (eqb b 160) (captured active) (pick (eqb b 163) on (pick (eqb b 164) failure scene))
