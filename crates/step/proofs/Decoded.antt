-- A step does what its kind says: the four bytes decoded, and one match on what they are.
use Prim.Native.Nat.{ℕ}
use mathlib.Core.Path.{◌≡◌, refl}
use lib.Dec.{eqb}
use Rattle.gear.specs.declared.record.Gear.{Gear}
use Rattle.numbers.proofs.Logic.{by_cases}
use Rattle.step.specs.Kinds.{step_of, taken}
use Rattle.step.specs.Step.{colour_step, step}

pub step_taken : (g : Gear) (kind a b c : ℕ) → taken g (step_of kind a b c) ≡ step g kind a b c
unfolding step colour_step step_of taken
step_taken g kind a b c =
    by_cases (eqb kind 0) (λ e. rw e refl) (λ e0. rw e0
    (by_cases (eqb kind 1) (λ e. rw e refl) (λ e1. rw e1
    (by_cases (eqb kind 2) (λ e. rw e refl) (λ e2. rw e2
    (by_cases (eqb kind 3) (λ e. rw e refl) (λ e3. rw e3
    (by_cases (eqb kind 4) (λ e. rw e refl) (λ e4. rw e4
    (by_cases (eqb kind 5) (λ e. rw e refl) (λ e5. rw e5
    (by_cases (eqb kind 6) (λ e. rw e refl) (λ e6. rw e6
    (by_cases (eqb kind 7) (λ e. rw e refl) (λ e7. rw e7
    (by_cases (eqb kind 8) (λ e. rw e refl) (λ e8. rw e8
    (by_cases (eqb kind 9) (λ e. rw e refl) (λ e9. rw e9
    (by_cases (eqb kind 10) (λ e. rw e refl) (λ e10. rw e10
    (by_cases (eqb kind 11) (λ e. rw e refl) (λ e11. rw e11
    (by_cases (eqb kind 12) (λ e. rw e refl) (λ e12. rw e12 refl)))))))))))))))))))))))))
