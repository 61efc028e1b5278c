-- One more step on the record that a file's steps leave.
use Rattle.std.specs.Prelude.{ℕ, List, Result, Ok, Err, ⊤}
use Rattle.file.specs.declared.Malformed.{Malformed}
use Rattle.file.specs.File.{checked}
use Rattle.runner.specs.Run.{last_of}
use Rattle.step.specs.Step.{step}
use Rattle.gear.specs.Answer.{Answer}

-- a malformed file is refused with its offset, and nothing is run
abbrev pub asked_as : List ℕ → ℕ → ℕ → ℕ → ℕ → Result ⊤ Malformed → Result Answer Malformed
asked_as s kind a b c (Ok u) = Ok (step (last_of s) kind a b c).answer
asked_as s kind a b c (Err m) = Err m

unfoldable pub asked : List ℕ → ℕ → ℕ → ℕ → ℕ → Result Answer Malformed
asked s kind a b c = asked_as s kind a b c (checked s)
