-- How long the lines are at most, and the lines of document 01's example.
use Prim.Native.Nat.{ℕ, ◌+◌, ◌≤◌, ◌<◌}
use native.Mathlib.Omega.{arith}
use mathlib.Core.Path.{◌≡◌, refl}
use mathlib.Core.List.{[], ◌∷◌}
use lib.ListN.{length, length-append}
use Rattle.std.specs.declared.result.Result.TheVariants.{Ok, Err}
use Rattle.colour.specs.declared.capability.Capability.{Capability}
use Rattle.gear.specs.declared.answer.Reply.TheVariants.{Done, Value, Nothing, Incapable}
use Rattle.gear.specs.declared.answer.Refusal.{Refusal}
use Rattle.gear.specs.declared.answer.Refusal.TheVariants.{Profile, Unfit, Byte, Group, File, Length}
use Rattle.gear.specs.Answer.{Answer}
use Rattle.runner.specs.Line.{digits, number_text, answer_text, line_text, end_text, bad_text}
use Rattle.runner.proofs.Digits.{digits_length, digits_most}

-- ## Lengths

number_length : (n behind k : ℕ) → length (digits 5 n) ≤ k → length (number_text n behind) ≤ k + 1
unfolding number_text
number_length n behind k h = rw length-append (omega arith)

refusal_length : (r : Refusal) → length (answer_text (Err r)) ≡ 2
unfolding answer_text digits
refusal_length Profile = refl
refusal_length Unfit = refl
refusal_length Byte = refl
refusal_length Group = refl
refusal_length File = refl
refusal_length Length = refl

answer_length : (a : Answer) → length (answer_text a) ≤ 5
unfolding answer_text
answer_length (Ok Done) = omega arith
answer_length (Ok (Value n)) = digits_most 5 n
answer_length (Ok Nothing) = omega arith
answer_length (Ok (Incapable need)) = omega arith
answer_length (Err r) = omega (arith, refusal_length r)

-- a line of one of at most 4,096 steps
pub line_length : (number : ℕ) (a : Answer) → number ≤ 4096 → length (line_text number a) ≤ 11
unfolding line_text
line_length number a few =
    let first = number_length number 32 4 (digits_length 5 number 4 (omega arith) (omega arith)) in
    let second = answer_length a in
    rw length-append (rw length-append (omega arith))

pub byte_length : (n behind : ℕ) → n < 256 → length (number_text n behind) ≤ 4
byte_length n behind h = number_length n behind 3 (digits_length 5 n 3 (omega arith) (omega arith))

pub bad_length : (offset : ℕ) → offset ≤ 16412 → length (bad_text offset) ≤ 10
unfolding bad_text
bad_length offset h =
    let a = number_length offset 10 5 (digits_length 5 offset 5 (omega arith) (omega arith)) in
    simp length-append (omega arith)

-- ## Document 01's example, and one line of each other kind

step_1 : line_text 1 (Ok Done) ≡ 49 ∷ 32 ∷ 46 ∷ 10 ∷ []
unfolding line_text number_text answer_text digits
step_1 = refl

step_3 : line_text 3 (Ok (Value 200)) ≡ 51 ∷ 32 ∷ 50 ∷ 48 ∷ 48 ∷ 10 ∷ []
unfolding line_text number_text answer_text digits
step_3 = refl

last : end_text 254 1 200 ≡ 101 ∷ 110 ∷ 100 ∷ 32 ∷ 50 ∷ 53 ∷ 52 ∷ 32 ∷ 49 ∷ 32 ∷ 50 ∷ 48 ∷ 48 ∷ 10 ∷ []
unfolding end_text number_text digits
last = refl

-- `4096 -`
no_value : line_text 4096 (Ok Nothing) ≡ 52 ∷ 48 ∷ 57 ∷ 54 ∷ 32 ∷ 45 ∷ 10 ∷ []
unfolding line_text number_text answer_text digits
no_value = refl

-- `7 ~`, whatever the gear lacks
not_capable : (need : Capability) → line_text 7 (Ok (Incapable need)) ≡ 55 ∷ 32 ∷ 126 ∷ 10 ∷ []
unfolding line_text number_text answer_text digits
not_capable need = refl

-- `10 !3`
no_such_step : line_text 10 (Err Byte) ≡ 49 ∷ 48 ∷ 32 ∷ 33 ∷ 51 ∷ 10 ∷ []
unfolding line_text number_text answer_text digits
no_such_step = refl

-- `bad 0`, an empty file
empty : bad_text 0 ≡ 98 ∷ 97 ∷ 100 ∷ 32 ∷ 48 ∷ 10 ∷ []
unfolding bad_text number_text digits
empty = refl
