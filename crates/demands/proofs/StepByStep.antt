-- What the runner's rule prints is the session step by step, from the front; and nothing else is.
use Prim.Native.Nat.{ℕ, zero, suc, ◌+◌, ◌*◌, ◌/◌, ◌≤◌, ◌<◌}
use mathlib.Core.Path.{◌≡◌, refl, sym, ◌∙◌, ap, ap₂}
use mathlib.Core.Bool.{true}
use mathlib.Core.List.{List, [], ◌∷◌, ◌++◌, append_assoc, append-nil}
use mathlib.Core.Option.{Option, none, some}
use lib.ListN.{length, get_or, take}
use lib.Seq.{length-take-le, take-length, take-suc}
use native.Mathlib.Nat.{le_of_suc-le-suc, not-suc-le-zero}
use native.Mathlib.Omega.{arith}
use Rattle.demands.specs.Calls.{Call}
use Rattle.demands.specs.Sessions.{Step, StepByStep, after_steps, bytes, call_in, end_line, lines_from, perform_in, perform_step, start_in, steps_in, text_from}
use Rattle.demands.specs.Steps.{Stepped}
use Rattle.demands.proofs.ProfileAndFile.{bad_at, good_at}
use Rattle.demands.proofs.Steps.{stepped}
use Rattle.std.specs.Prelude.{Ok}
use Rattle.file.specs.File.{checked, profile_at, step_count, steps_of, well_formed}
use Rattle.file.proofs.Lowest.{accepted_exactly}
use Rattle.file.proofs.Shape.{steps_length}
use Rattle.gear.specs.declared.answer.Outcome.{Outcome}
use Rattle.gear.specs.declared.record.Gear.{Gear}
use Rattle.numbers.proofs.Logic.{by_cases}
use Rattle.runner.specs.Line.{line_text}
use Rattle.runner.specs.Run.{lines_of, performed, printed, state_after, text_after}
use Rattle.step.specs.Step.{step as step_rule}

-- ## Steps one behind the other

pub steps_then : (xs ys : List Step) (g : Gear) → after_steps (xs ++ ys) g ≡ after_steps ys (after_steps xs g)
unfolding after_steps
steps_then [] ys g = refl
steps_then (x ∷ xs) ys g = steps_then xs ys (perform_step x g).gear

pub text_then :
    (n : ℕ) (g : Gear) (xs ys : List Step) →
    text_from n g (xs ++ ys) ≡ text_from n g xs ++ text_from (n + length xs) (after_steps xs g) ys
unfolding text_from after_steps
text_then n g [] ys = ap (λ (k : ℕ). text_from k g ys) (omega arith)
text_then n g (x ∷ xs) ys =
    let line = line_text n (perform_step x g).answer in
    let h = (perform_step x g).gear in
    let m : n + 1 + length xs ≡ n + suc (length xs) = omega arith in
    ap (λ (t : List ℕ). line ++ t)
    (text_then (n + 1) h xs ys ∙ ap (λ (k : ℕ). text_from (n + 1) h xs ++ text_from k (after_steps xs h) ys) m) ∙
    sym (append_assoc line (text_from (n + 1) h xs) (text_from (n + suc (length xs)) (after_steps xs h) ys))

pub lines_then :
    (n : ℕ) (g : Gear) (xs ys : List Step) →
    lines_from n g (xs ++ ys) ≡ text_from n g xs ++ lines_from (n + length xs) (after_steps xs g) ys
unfolding lines_from
lines_then n g xs ys =
    ap₂ (λ (t : List ℕ) (h : Gear). t ++ end_line h) (text_then n g xs ys) (steps_then xs ys g) ∙
    append_assoc (text_from n g xs) (text_from (n + length xs) (after_steps xs g) ys) (end_line (after_steps ys (after_steps xs g)))

-- ## The runner's rule counts from the back, over bytes

as_performed : (t : Option Call) (g : Gear) (o : Outcome) → Stepped t g o → o ≡ perform_in t g
as_performed none g o e = e
as_performed (some call) g o e = e

step_so : (x : Step) (g : Gear) → step_rule g x.kind x.a x.b x.c ≡ perform_step x g
unfolding perform_step
step_so x g = as_performed (call_in x) g (step_rule g x.kind x.a x.b x.c) (stepped g x.kind x.a x.b x.c)

-- a step where there is none
abbrev nowhere : Step
nowhere = record { kind = 0; a = 0; b = 0; c = 0 }

performed_so :
    (steps : List Step) (k : ℕ) (g : Gear) → k < length steps → performed (bytes steps) g k ≡ perform_step (get_or steps k nowhere) g
unfolding performed bytes
performed_so [] k g h = absurd (not-suc-le-zero h)
performed_so (x ∷ xs) zero g h = step_so x g
performed_so (x ∷ xs) (suc k) g h =
    let e0 : suc k * 4 ≡ suc (suc (suc (suc (k * 4)))) = omega arith in
    let e1 : suc k * 4 + 1 ≡ suc (suc (suc (suc (k * 4 + 1)))) = omega arith in
    let e2 : suc k * 4 + 2 ≡ suc (suc (suc (suc (k * 4 + 2)))) = omega arith in
    let e3 : suc k * 4 + 3 ≡ suc (suc (suc (suc (k * 4 + 3)))) = omega arith in
    rw (e3, e2, e1, e0) (performed_so xs k g (le_of_suc-le-suc h))

module _ (steps : List Step) (g : Gear) where
  state_so : (k : ℕ) → k ≤ length steps → state_after (bytes steps) g k ≡ after_steps (take k steps) g
  unfolding state_after after_steps
  state_so zero h = refl
  state_so (suc k) h =
      let x = get_or steps k nowhere in
      ap (λ (o : Outcome). o.gear) (performed_so steps k (state_after (bytes steps) g k) h) ∙
      ap (λ (r : Gear). (perform_step x r).gear) (state_so k (omega arith)) ∙
      sym (steps_then (take k steps) (x ∷ []) g) ∙
      ap (λ (xs : List Step). after_steps xs g) (sym (take-suc steps k nowhere h))

  text_so : (k : ℕ) → k ≤ length steps → text_after (bytes steps) g k ≡ text_from 1 g (take k steps)
  unfolding text_after text_from
  text_so zero h = refl
  text_so (suc k) h =
      let x = get_or steps k nowhere in
      let xs = take k steps in
      let told =
      ap (λ (o : Outcome). o.answer)
      (performed_so steps k (state_after (bytes steps) g k) h ∙ ap (perform_step x) (state_so k (omega arith)))
      in
      let number : k + 1 ≡ 1 + length xs = omega (arith, length-take-le k steps (omega arith)) in
      ap₂ (λ (t u : List ℕ). t ++ u) (text_so k (omega arith)) (ap₂ line_text number told ∙ sym (append-nil _)) ∙
      sym (text_then 1 g xs (x ∷ [])) ∙
      ap (text_from 1 g) (sym (take-suc steps k nowhere h))

  lines_so : text_after (bytes steps) g (length steps) ++ end_line (state_after (bytes steps) g (length steps)) ≡ lines_from 1 g steps
  unfolding lines_from
  lines_so =
      ap₂ (λ (t : List ℕ) (h : Gear). t ++ end_line h)
      (text_so (length steps) (omega arith) ∙ ap (text_from 1 g) (take-length steps))
      (state_so (length steps) (omega arith) ∙ ap (λ (xs : List Step). after_steps xs g) (take-length steps))

bytes_length : (steps : List Step) → length (bytes steps) ≡ length steps * 4
unfolding bytes
bytes_length [] = refl
bytes_length (x ∷ xs) = let e = bytes_length xs in omega arith

-- ## A file

good_so : (s : List ℕ) → well_formed s ≡ true → checked s ≡ Ok tt
good_so s h = good_at (checked s) (accepted_exactly s ∙ h)

rules_served :
    (s : List ℕ) (steps : List Step) → well_formed s ≡ true → steps_of s ≡ bytes steps → printed s ≡ lines_from 1 (start_in s) steps
unfolding lines_of
rules_served s steps h e =
    let few : length (bytes steps) / 4 ≡ length steps = omega (arith, bytes_length steps) in
    rw (good_so s h, e, few) (lines_so steps (start_in s))

pub rules_step_by_step : StepByStep printed
rules_step_by_step = record { served = rules_served; refused = λ s offset e. rw e }

-- ## Every well-formed file has steps

whole : (n : ℕ) (xs : List ℕ) → length xs ≡ n * 4 → xs ≡ bytes (steps_in xs)
unfolding bytes steps_in
whole zero [] e = refl
whole zero (x ∷ xs) e = absurd (omega arith)
whole (suc n) (x ∷ a ∷ b ∷ c ∷ xs) e = ap (λ (ys : List ℕ). x ∷ a ∷ b ∷ c ∷ ys) (whole n xs (omega arith))
whole (suc n) (x ∷ a ∷ b ∷ []) e = absurd (omega arith)
whole (suc n) (x ∷ a ∷ []) e = absurd (omega arith)
whole (suc n) (x ∷ []) e = absurd (omega arith)
whole (suc n) [] e = absurd (omega arith)

pub file_steps : (s : List ℕ) → well_formed s ≡ true → steps_of s ≡ bytes (steps_in (steps_of s))
file_steps s h = whole (step_count s (profile_at s)) (steps_of s) (steps_length s h)

-- ## One outcome

pub one_outcome : (r q : List ℕ → List ℕ) → StepByStep r → StepByStep q → (s : List ℕ) → r s ≡ q s
one_outcome r q p t s =
    by_cases (well_formed s)
    (λ h.
    let xs = steps_in (steps_of s) in
    p.served s xs h (file_steps s h) ∙ sym (t.served s xs h (file_steps s h)))
    (λ h.
    let bad = bad_at (checked s) (accepted_exactly s ∙ h) in
    p.refused s bad.0 bad.1 ∙ sym (t.refused s bad.0 bad.1))
