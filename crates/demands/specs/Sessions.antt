-- A session step by step, from its first step on (document 01, 'Session file and runner'): what any runner of a file is to print.
use Rattle.std.specs.Prelude.{ℕ, ◌+◌, ◌<◌, ◌≡◌, true, List, [], ◌∷◌, ◌++◌, Result, Ok, Err, ⊤}
use Rattle.std.proofs.Math.Option.{Option, none, some}
use Rattle.demands.specs.Calls.{Call, perform}
use Rattle.demands.specs.Example.{file, lines}
use Rattle.demands.specs.Steps.{kinds, entry}
use Rattle.gear.specs.Answer.{refused}
use Rattle.gear.specs.declared.answer.Outcome.{Outcome}
use Rattle.gear.specs.declared.answer.Refusal.TheVariants.{Unfit, Byte}
use Rattle.gear.specs.declared.record.Gear.{Gear}
use Rattle.gear.specs.Record.{fitb, fresh_gear, new_gear}
use Rattle.file.specs.declared.Malformed.{Malformed}
use Rattle.file.specs.File.{byte, fault, checked, steps_of, well_formed}
use Rattle.file.specs.Profile.{profile_in}
use Rattle.numbers.specs.Numbers.{pick}
use Rattle.runner.specs.Line.{bad_text, end_text, line_text}
use Rattle.runner.specs.Run.{printed}

-- ## Steps

pub record Step : Type 0 where
  pub kind : ℕ
  pub a : ℕ
  pub b : ℕ
  pub c : ℕ

-- four bytes each, in order
unfoldable pub bytes : List Step → List ℕ
bytes [] = []
bytes (step ∷ steps) = step.kind ∷ step.a ∷ step.b ∷ step.c ∷ bytes steps

-- the call that a step's kind names, or none
abbrev pub call_in : Step → Option Call
call_in step = entry (kinds step.a step.b step.c) step.kind

-- a kind not listed is refusal 3, or 2 to an unfit record
abbrev pub perform_in : Option Call → Gear → Outcome
perform_in none g = pick (fitb g) (refused g Byte) (refused g Unfit)
perform_in (some call) g = perform call g

unfoldable pub perform_step : Step → Gear → Outcome
perform_step step g = perform_in (call_in step) g

-- the record that steps leave
unfoldable pub after_steps : List Step → Gear → Gear
after_steps [] g = g
after_steps (step ∷ steps) g = after_steps steps (perform_step step g).gear

-- ## Lines

-- a line for each step, the first with this number, each step on the record that the one before it left
unfoldable pub text_from : ℕ → Gear → List Step → List ℕ
text_from n g [] = []
text_from n g (step ∷ steps) = line_text n (perform_step step g).answer ++ text_from (n + 1) (perform_step step g).gear steps

-- level, min and max of the record
abbrev pub end_line : Gear → List ℕ
end_line g = end_text g.levels.level g.levels.min g.levels.max

-- the lines of the steps, and the last one
unfoldable pub lines_from : ℕ → Gear → List Step → List ℕ
lines_from n g steps = text_from n g steps ++ end_line (after_steps steps g)

-- ## A runner

-- the record that the call for a new gear hands back for the file's profile
abbrev pub start_in : List ℕ → Gear
start_in s = (new_gear (profile_in s)).gear

-- what a runner prints of a file: the session step by step, or the lowest fault and nothing else
pub record StepByStep (runner : List ℕ → List ℕ) : Type 0 where
  pub served :
      (s : List ℕ) (steps : List Step) → well_formed s ≡ true → steps_of s ≡ bytes steps →
      runner s ≡ lines_from 1 (start_in s) steps
  pub refused : (s : List ℕ) (offset : ℕ) → checked s ≡ Err (fault offset) → runner s ≡ bad_text offset

-- ## The impostor: it performs step 1 and only prints the rest

-- bytes as steps
unfoldable pub steps_in : List ℕ → List Step
steps_in (kind ∷ a ∷ b ∷ c ∷ more) = record { kind = kind; a = a; b = b; c = c } ∷ steps_in more
steps_in (kind ∷ a ∷ b ∷ []) = []
steps_in (kind ∷ a ∷ []) = []
steps_in (kind ∷ []) = []
steps_in [] = []

-- a line for each step, all of them on one record
unfoldable pub only_printed : ℕ → Gear → List Step → List ℕ
only_printed n g [] = []
only_printed n g (step ∷ steps) = line_text n (perform_step step g).answer ++ only_printed (n + 1) g steps

unfoldable pub first_performed : Gear → List Step → List ℕ
first_performed g [] = end_line g
first_performed g (step ∷ steps) =
    line_text 1 (perform_step step g).answer ++
    (only_printed 2 (perform_step step g).gear steps ++ end_line (perform_step step g).gear)

abbrev pub only_step_one_as : List ℕ → Result ⊤ Malformed → List ℕ
only_step_one_as s (Ok u) = first_performed (start_in s) (steps_in (steps_of s))
only_step_one_as s (Err m) = bad_text m.offset

unfoldable pub only_step_one : List ℕ → List ℕ
only_step_one s = only_step_one_as s (checked s)

-- ## The statements

pub record Sessions : Type 0 where
  -- `printed` is what `runner::run::report` promises to write
  pub rules : StepByStep printed
  -- every well-formed file has steps, and, of bytes, starts from the fresh gear of its profile
  pub steps : (s : List ℕ) → well_formed s ≡ true → (steps : List Step) × (steps_of s ≡ bytes steps)
  pub start : (s : List ℕ) → ((i : ℕ) → byte s i < 256) → well_formed s ≡ true → start_in s ≡ fresh_gear (profile_in s)
  -- so that two runners that go step by step print the same of every file
  pub one_outcome : (r q : List ℕ → List ℕ) → StepByStep r → StepByStep q → (s : List ℕ) → r s ≡ q s
  pub impostor : StepByStep only_step_one → ⊥
  -- document 01's example prints its six lines
  pub example : printed file ≡ lines
