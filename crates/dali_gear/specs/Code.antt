-- Answers as a host sees them: a code, and a number beside it. The codes 1 to 5 are document 01's refusals.
use Rattle.std.specs.Prelude.{ℕ, Result, Ok, Err, ⊤}
use Rattle.colour.specs.Capability.{capability_number}
use Rattle.gear.specs.Answer.{Answer, refusal_number}
use Rattle.gear.specs.declared.answer.Reply.TheVariants.{Done, Value, Nothing, Incapable}
use Rattle.file.specs.declared.Malformed.{Malformed}
use Rattle.runner.specs.declared.run.RunError.{RunError}
use Rattle.runner.specs.declared.run.RunError.TheVariants.{Malformed as Unrun, Short}

unfoldable pub verdict_code : Result ⊤ Malformed → ℕ
verdict_code (Ok u) = 0
verdict_code (Err m) = 5

unfoldable pub verdict_detail : Result ⊤ Malformed → ℕ
verdict_detail (Ok u) = 0
verdict_detail (Err m) = m.offset

unfoldable pub ran_code : Result ℕ RunError → ℕ
ran_code (Ok count) = 0
ran_code (Err (Unrun m)) = 5
ran_code (Err (Short wanted)) = 18

unfoldable pub ran_detail : Result ℕ RunError → ℕ
ran_detail (Ok count) = count
ran_detail (Err (Unrun m)) = m.offset
ran_detail (Err (Short wanted)) = wanted

unfoldable pub answer_code : Answer → ℕ
answer_code (Ok Done) = 0
answer_code (Ok (Value value)) = 16
answer_code (Ok Nothing) = 17
answer_code (Ok (Incapable need)) = 19
answer_code (Err r) = refusal_number r

unfoldable pub answer_detail : Answer → ℕ
answer_detail (Ok Done) = 0
answer_detail (Ok (Value value)) = value
answer_detail (Ok Nothing) = 0
answer_detail (Ok (Incapable need)) = capability_number need
answer_detail (Err r) = 0

unfoldable pub asked_code : Result Answer Malformed → ℕ
asked_code (Ok answer) = answer_code answer
asked_code (Err m) = 5

unfoldable pub asked_detail : Result Answer Malformed → ℕ
asked_detail (Ok answer) = answer_detail answer
asked_detail (Err m) = m.offset
