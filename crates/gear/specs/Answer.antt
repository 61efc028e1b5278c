-- Answers, and the numbers that document 01 gives to refusals.
use Rattle.std.specs.Prelude.{ℕ, Bool, Option, Some, None, Result, Ok, Err}
use Rattle.gear.specs.declared.answer.Outcome.{Outcome}
use Rattle.gear.specs.declared.answer.Refusal.{Refusal}
use Rattle.gear.specs.declared.answer.Refusal.TheVariants.{Profile, Unfit, Byte, Group, File, Length}
use Rattle.gear.specs.declared.answer.Reply.{Reply}
use Rattle.gear.specs.declared.answer.Reply.TheVariants.{Done, Value, Nothing, Incapable}
use Rattle.gear.specs.declared.record.Gear.{Gear}
use Rattle.colour.specs.declared.value.NoValue.{NoValue}
use Rattle.colour.specs.declared.value.NoValue.TheVariants.{Unknown, Incapable as Lacking}
use Rattle.numbers.specs.Numbers.{pick}

-- what a call that is served replies, or why it is refused
abbrev pub Answer : Type 0
Answer = Result Reply Refusal

abbrev pub refusal_number : Refusal → ℕ
refusal_number Profile = 1
refusal_number Unfit = 2
refusal_number Byte = 3
refusal_number Group = 4
refusal_number File = 5
refusal_number Length = 7

-- yes is 1, no is 0
unfoldable pub flag : Bool → Answer
flag b = Ok (Value (pick b 1 0))

abbrev pub done : Gear → Outcome
done g = record { answer = Ok Done; gear = g }

abbrev pub unchanged : Gear → Answer → Outcome
unchanged g a = record { answer = a; gear = g }

-- the record comes back as it was
abbrev pub refused : Gear → Refusal → Outcome
refused g r = record { answer = Err r; gear = g }

-- an id that no gear has is no value; one whose need this gear lacks is no value either, and says so. Neither is a refusal
unfoldable pub value_answer : Result ℕ NoValue → Answer
value_answer (Ok v) = Ok (Value v)
value_answer (Err Unknown) = Ok Nothing
value_answer (Err (Lacking need)) = Ok (Incapable need)

-- both read as 'no value'
unfoldable pub unexplained : Answer → Answer
unexplained (Ok Done) = Ok Done
unexplained (Ok (Value v)) = Ok (Value v)
unexplained (Ok Nothing) = Ok Nothing
unexplained (Ok (Incapable need)) = Ok Nothing
unexplained (Err r) = Err r

unfoldable pub location_answer : Option ℕ → Answer
location_answer (Some b) = Ok (Value b)
location_answer None = Ok Nothing
