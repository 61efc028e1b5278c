-- A run: the steps one by one, each on the record that the one before it left, and a line for each.
use Rattle.std.specs.Prelude.{ℕ, zero, suc, ◌+◌, ◌*◌, ◌/◌, List, [], ◌++◌, leb, get_or, length, Result, Ok, Err, ⊤}
use Rattle.file.specs.declared.Malformed.{Malformed}
use Rattle.runner.specs.declared.run.RunError.{RunError}
use Rattle.runner.specs.declared.run.RunError.TheVariants.{Malformed as Unrun, Short}
use Rattle.file.specs.File.{checked, steps_of}
use Rattle.runner.specs.Line.{line_text, end_text, bad_text, written}
use Rattle.file.specs.Profile.{profile_in}
use Rattle.step.specs.Step.{step}
use Rattle.gear.specs.declared.answer.Reply.TheVariants.{Done}
use Rattle.gear.specs.declared.answer.Outcome.{Outcome}
use Rattle.gear.specs.declared.record.Gear.{Gear}
use Rattle.gear.specs.Answer.{Answer}
use Rattle.gear.specs.Record.{new_gear}
use Rattle.numbers.specs.Numbers.{pick}

-- step k, counted from 0, of the step bytes, on a record
unfoldable pub performed : List ℕ → Gear → ℕ → Outcome
performed steps g k =
    step g (get_or steps (k * 4) 0) (get_or steps (k * 4 + 1) 0) (get_or steps (k * 4 + 2) 0) (get_or steps (k * 4 + 3) 0)

-- the record after k steps
unfoldable pub state_after : List ℕ → Gear → ℕ → Gear
state_after steps g zero = g
state_after steps g (suc k) = (performed steps (state_after steps g k) k).gear

-- the lines of the first k steps, which are numbered from 1
unfoldable pub text_after : List ℕ → Gear → ℕ → List ℕ
text_after steps g zero = []
text_after steps g (suc k) = text_after steps g k ++ line_text (k + 1) (performed steps (state_after steps g k) k).answer

-- what the last of the first k steps answered
unfoldable pub answer_after : List ℕ → Gear → ℕ → Answer
answer_after steps g zero = Ok Done
answer_after steps g (suc k) = (performed steps (state_after steps g k) k).answer

-- ## A file

-- four bytes each
abbrev pub count_of : List ℕ → ℕ
count_of s = length (steps_of s) / 4

-- the record of the profile, and what the steps make of it
abbrev pub first_of : List ℕ → Gear
first_of s = (new_gear (profile_in s)).gear

abbrev pub last_of : List ℕ → Gear
last_of s = state_after (steps_of s) (first_of s) (count_of s)

-- a line for each step, and the last one
unfoldable pub lines_of : List ℕ → List ℕ
lines_of s =
    text_after (steps_of s) (first_of s) (count_of s) ++
    end_text (last_of s).levels.level (last_of s).levels.min (last_of s).levels.max

-- what the program prints
abbrev pub printed_as : List ℕ → Result ⊤ Malformed → List ℕ
printed_as s (Ok u) = lines_of s
printed_as s (Err m) = bad_text m.offset

abbrev pub printed : List ℕ → List ℕ
printed s = printed_as s (checked s)

-- ## Into a lent buffer of n bytes

-- `4096 65535` and a line feed for each step, `end 255 255 255` and a line feed
unfoldable pub room : List ℕ → ℕ
room s = count_of s * 11 + 16

-- how many bytes were written
abbrev pub bytes_of : Result ℕ RunError → ℕ
bytes_of (Ok n) = n
bytes_of (Err e) = 0

-- what the program prints, or nothing where the buffer is too short for what it might be
unfoldable pub reported : List ℕ → ℕ → Result ℕ RunError
reported s n = pick (leb (room s) n) (Ok (length (printed s))) (Err (Short (room s)))

unfoldable pub reported_into : List ℕ → List ℕ → List ℕ
reported_into s old = pick (leb (room s) (length old)) (written old 0 (printed s)) old

-- the same, but a malformed file is refused with its offset, and nothing is written
abbrev pub ran_as : List ℕ → ℕ → Result ⊤ Malformed → Result ℕ RunError
ran_as s n (Ok u) = reported s n
ran_as s n (Err m) = Err (Unrun m)

unfoldable pub ran : List ℕ → ℕ → Result ℕ RunError
ran s n = ran_as s n (checked s)

abbrev pub ran_into_as : List ℕ → List ℕ → Result ⊤ Malformed → List ℕ
ran_into_as s old (Ok u) = reported_into s old
ran_into_as s old (Err m) = old

unfoldable pub ran_into : List ℕ → List ℕ → List ℕ
ran_into s old = ran_into_as s old (checked s)
