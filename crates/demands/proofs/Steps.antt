-- Every step of a session is one of the calls, or has a kind that document 01 does not list.
use Prim.Native.Nat.{ℕ, zero, suc, ◌≤◌, ◌<◌}
use mathlib.Core.Path.{◌≡◌, refl, ◌∙◌}
use mathlib.Core.Bool.{false}
use mathlib.Core.List.{List, [], ◌∷◌}
use mathlib.Core.Option.{Option, none, some}
use lib.Dec.{eqb}
use lib.ListN.{length}
use native.Mathlib.Nat.{le_of_suc-le-suc, not-suc-le-zero}
use native.Mathlib.Omega.{arith}
use borrow.Author.Tests.{eqb-true, eqb-false, ne_eqb}
use Rattle.demands.specs.Calls.{Call, perform}
use Rattle.demands.specs.Refusals.{Judged}
use Rattle.demands.specs.Steps.{kinds, entry, Stepped, step_refusal}
use Rattle.demands.proofs.Exactly.{exactly}
use Rattle.gear.specs.Answer.{refused}
use Rattle.gear.specs.declared.answer.Refusal.TheVariants.{Unfit, Byte}
use Rattle.gear.specs.declared.answer.Outcome.{Outcome}
use Rattle.gear.specs.declared.record.Gear.{Gear}
use Rattle.gear.specs.Record.{fitb}
use Rattle.gear.specs.Serve.{serve}
use Rattle.numbers.specs.Numbers.{pick}
use Rattle.numbers.proofs.Logic.{by_cases}
use Rattle.step.specs.Step.{colour_step, step}

entry_beyond : (calls : List Call) (n : ℕ) → length calls ≤ n → entry calls n ≡ none
entry_beyond [] n h = refl
entry_beyond (call ∷ calls) zero h = absurd (not-suc-le-zero h)
entry_beyond (call ∷ calls) (suc n) h = entry_beyond calls n (le_of_suc-le-suc h)

entry_within : (calls : List Call) (n : ℕ) → entry calls n ≡ none → length calls ≤ n
entry_within [] n e = omega arith
entry_within (call ∷ calls) zero e = let z : ◌≡◌ {A = ℕ} 0 1 = cc in absurd (omega arith)
entry_within (call ∷ calls) (suc n) e = let h = entry_within calls n e in omega arith

past : (k n : ℕ) → k ≤ n → eqb n k ≡ false → suc k ≤ n
past k n h e = let other = eqb-false n k e in omega arith

unlisted : (g : Gear) (kind a b c : ℕ) → 12 < kind → step g kind a b c ≡ pick (fitb g) (refused g Byte) (refused g Unfit)
unfolding step colour_step serve
unlisted g kind a b c h =
    simp (
      ne_eqb kind 0 (λ e. omega arith),
      ne_eqb kind 1 (λ e. omega arith),
      ne_eqb kind 2 (λ e. omega arith),
      ne_eqb kind 3 (λ e. omega arith),
      ne_eqb kind 4 (λ e. omega arith),
      ne_eqb kind 5 (λ e. omega arith),
      ne_eqb kind 6 (λ e. omega arith),
      ne_eqb kind 7 (λ e. omega arith),
      ne_eqb kind 8 (λ e. omega arith),
      ne_eqb kind 9 (λ e. omega arith),
      ne_eqb kind 10 (λ e. omega arith),
      ne_eqb kind 11 (λ e. omega arith),
      ne_eqb kind 12 (λ e. omega arith),
    )

pub stepped : (g : Gear) (kind a b c : ℕ) → Stepped (entry (kinds a b c) kind) g (step g kind a b c)
unfolding step colour_step perform
stepped g kind a b c =
    let n0 : 0 ≤ kind = omega arith in
    by_cases (eqb kind 0) (λ e. rw (eqb-true kind 0 e) refl)
    (λ e0.
    let n1 = past 0 kind n0 e0 in
    by_cases (eqb kind 1) (λ e. rw (eqb-true kind 1 e) refl)
    (λ e1.
    let n2 = past 1 kind n1 e1 in
    by_cases (eqb kind 2) (λ e. rw (eqb-true kind 2 e) refl)
    (λ e2.
    let n3 = past 2 kind n2 e2 in
    by_cases (eqb kind 3) (λ e. rw (eqb-true kind 3 e) refl)
    (λ e3.
    let n4 = past 3 kind n3 e3 in
    by_cases (eqb kind 4) (λ e. rw (eqb-true kind 4 e) refl)
    (λ e4.
    let n5 = past 4 kind n4 e4 in
    by_cases (eqb kind 5) (λ e. rw (eqb-true kind 5 e) refl)
    (λ e5.
    let n6 = past 5 kind n5 e5 in
    by_cases (eqb kind 6) (λ e. rw (eqb-true kind 6 e) refl)
    (λ e6.
    let n7 = past 6 kind n6 e6 in
    by_cases (eqb kind 7) (λ e. rw (eqb-true kind 7 e) refl)
    (λ e7.
    let n8 = past 7 kind n7 e7 in
    by_cases (eqb kind 8) (λ e. rw (eqb-true kind 8 e) refl)
    (λ e8.
    let n9 = past 8 kind n8 e8 in
    by_cases (eqb kind 9) (λ e. rw (eqb-true kind 9 e) refl)
    (λ e9.
    let n10 = past 9 kind n9 e9 in
    by_cases (eqb kind 10) (λ e. rw (eqb-true kind 10 e) refl)
    (λ e10.
    let n11 = past 10 kind n10 e10 in
    by_cases (eqb kind 11) (λ e. rw (eqb-true kind 11 e) refl)
    (λ e11.
    let n12 = past 11 kind n11 e11 in
    by_cases (eqb kind 12) (λ e. rw (eqb-true kind 12 e) refl)
    (λ e12.
    let above = past 12 kind n12 e12 in
    rw (entry_beyond (kinds a b c) kind above) (unlisted g kind a b c above))))))))))))))

-- the kinds that are listed are 0 to 12
pub unlisted_exactly : (kind a b c : ℕ) → (entry (kinds a b c) kind ≡ none → 12 < kind) × (12 < kind → entry (kinds a b c) kind ≡ none)
unlisted_exactly kind a b c = (entry_within (kinds a b c) kind, entry_beyond (kinds a b c) kind)

-- ## Refusals of steps

judged_as : (t : Option Call) (g : Gear) (o : Outcome) → Stepped t g o → Judged (step_refusal t g) g o
judged_as none g o e = by_cases (fitb g) (λ fit. rw fit (e ∙ rw fit)) (λ unfit. rw unfit (e ∙ rw unfit))
judged_as (some call) g o e = rw e (exactly call g)

pub step_exactly : (g : Gear) (kind a b c : ℕ) → Judged (step_refusal (entry (kinds a b c) kind) g) g (step g kind a b c)
step_exactly g kind a b c = judged_as (entry (kinds a b c) kind) g (step g kind a b c) (stepped g kind a b c)
