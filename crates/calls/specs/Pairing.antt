-- Send-twice pairing (part 101, 9.3).
use Rattle.std.specs.Prelude.{ℕ, Bool, true, false, eqb, Ok, Option, None, Some}
use Rattle.gear.specs.Answer.{Answer, flag}
use Rattle.gear.specs.declared.answer.Reply.TheVariants.{Value}
use Rattle.gear.specs.declared.answer.Outcome.{Outcome}
use Rattle.gear.specs.declared.record.Gear.{Gear}
use Rattle.gear.specs.Marks.{with_pair, with_walk}
use Rattle.gear.specs.Parts.{with_marks}
use Rattle.gear.specs.Serve.{serve, tell}
use Rattle.numbers.specs.Numbers.{pick}

unfoldable pub waits : Option ℕ → ℕ → Bool
waits None frame = false
waits (Some f) frame = eqb f frame

unfoldable pub is_open : Option ℕ → Bool
is_open None = false
is_open (Some f) = true

-- a frame that wants a second copy waits for it
unfoldable pub waiting : ℕ → Bool → Option ℕ
waiting frame repeats = pick repeats (Some frame) None

-- bit 0 carried out, bit 1 completed a pair, bit 2 split another pair: a frame that completes none
unfoldable pub heard_answer : Bool → Bool → Answer
heard_answer repeats split = Ok (Value (pick repeats (pick split 4 0) (pick split 5 1)))

abbrev pub paired : Gear → Answer → Option ℕ → Outcome
paired g a p = record { answer = a; gear = with_marks g (with_pair g.marks p) }

-- the frame that waits completes the pair, whatever `repeats` says; any other splits it
unfoldable pub hear : Gear → ℕ → Bool → Outcome
hear g frame repeats =
    pick (waits g.marks.pair frame) (paired g (Ok (Value 3)) None)
    (paired g (heard_answer repeats (is_open g.marks.pair)) (waiting frame repeats))

unfoldable pub hear_call : Gear → ℕ → Bool → Outcome
hear_call g frame repeats = serve g (hear g frame repeats)

unfoldable pub holds_call : Gear → ℕ → Answer
holds_call g frame = tell g (flag (waits g.marks.pair frame))

-- the walk ends, and so does an open pair
unfoldable pub hear_elsewhere_call : Gear → Outcome
hear_elsewhere_call g =
    serve g (record { answer = flag (is_open g.marks.pair); gear = with_marks g (with_pair (with_walk g.marks None) None) })
