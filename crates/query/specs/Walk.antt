-- The walk through the type list (part 102, 11.5.12 and 11.5.13; document 01).
use Rattle.std.specs.Prelude.{ℕ, ◌+◌, List, eqb, leb, get_or, Ok, Option, None, Some}
use Rattle.gear.specs.declared.answer.Reply.TheVariants.{Value, Nothing}
use Rattle.gear.specs.declared.answer.Outcome.{Outcome}
use Rattle.gear.specs.declared.profile.Unit.{Unit}
use Rattle.gear.specs.declared.record.Gear.{Gear}
use Rattle.gear.specs.Answer.{Answer}
use Rattle.gear.specs.Marks.{with_walk}
use Rattle.gear.specs.Parts.{with_marks}
use Rattle.numbers.specs.Numbers.{pick}

abbrev pub walking : Gear → Option ℕ → Gear
walking g w = with_marks g (with_walk g.marks w)

-- there is no seventeenth type
unfoldable pub type_at : List ℕ → ℕ → ℕ
type_at types at = pick (leb 16 at) 254 (get_or types at 0)

-- query 153: 254 for no type, the only one, or 255 for several, which starts the walk
unfoldable pub device_type : Gear → Outcome
device_type g =
    pick (eqb g.unit.count 0) (record { answer = Ok (Value 254); gear = walking g None })
    (pick (eqb g.unit.count 1) (record { answer = Ok (Value (type_at g.unit.types 0)); gear = walking g None })
    (record { answer = Ok (Value 255); gear = walking g (Some 0) }))

-- the type at a place, and one place on; 254 past the last
unfoldable pub next_at : Gear → ℕ → Outcome
next_at g at =
    pick (leb g.unit.count at) (record { answer = Ok (Value 254); gear = g })
    (record { answer = Ok (Value (type_at g.unit.types at)); gear = walking g (Some (at + 1)) })

-- what a walk tells next
unfoldable pub next : Gear → Option ℕ → Outcome
next g None = record { answer = Ok Nothing; gear = g }
next g (Some n) = next_at g n

-- query 167: no answer where no walk is on
unfoldable pub next_device_type : Gear → Outcome
unfolding next
next_device_type g = next g g.marks.walk

-- ---- the answers alone, from the types

-- query 153
unfoldable pub type_answer : Unit → Answer
type_answer u =
    pick (eqb u.count 0) (Ok (Value 254)) (pick (eqb u.count 1) (Ok (Value (type_at u.types 0))) (Ok (Value 255)))

-- the type at a place; 254 past the last
unfoldable pub answer_at : Unit → ℕ → Answer
answer_at u at = pick (leb u.count at) (Ok (Value 254)) (Ok (Value (type_at u.types at)))

-- query 167
unfoldable pub next_type_answer : Unit → Option ℕ → Answer
next_type_answer u None = Ok Nothing
next_type_answer u (Some n) = answer_at u n
