-- The walk through the type list, as document 01 says: with n ≥ 2 codes query 153 answers 255, the next n queries 167 list the
-- codes in order, and every one after that answers 254; with n of 0 or 1, query 167 after 153 has no answer.
use Prim.Native.Nat.{ℕ, zero, suc, ◌+◌, ◌≤◌, ◌<◌}
use mathlib.Core.Path.{◌≡◌, refl, ◌∙◌, ap}
use mathlib.Core.Bool.{true}
use lib.Dec.{eqb, leb}
use lib.ListN.{get_or}
use native.Mathlib.Omega.{arith}
use native.Mathlib.Numerals.{add-one}
use borrow.Author.Tests.{le-leb, leb-false, leb-true, lt-leb, eq-eqb, ne_eqb, eqb-false}
use Rattle.std.specs.Prelude.{None, Some}
use Rattle.std.specs.declared.result.Result.TheVariants.{Ok}
use Rattle.query.specs.Reply.{query, gear_query_reply}
use Rattle.query.specs.Walk.{walking, type_at, device_type, next_at, next, next_device_type}
use Rattle.query.proofs.Kept.{at_most, walking_kept}
use Rattle.gear.specs.declared.answer.Reply.TheVariants.{Value, Nothing}
use Rattle.gear.specs.declared.answer.Outcome.{Outcome}
use Rattle.gear.specs.declared.record.Gear.{Gear}
use Rattle.gear.specs.Marks.{walk_fit}
use Rattle.gear.specs.Record.{fitb}
use Rattle.gear.specs.Serve.{serve}
use Rattle.gear.proofs.Fit.{count_most, facts, fit}
use Rattle.numbers.proofs.Logic.{by_cases}

-- the record after query 153 and k queries 167, with no other call between
pub told : Gear → ℕ → Gear
told g zero = (gear_query_reply g 153).gear
told g (suc k) = (gear_query_reply (told g k) 167).gear

-- a served query
reply_fit : (g : Gear) (b : ℕ) → fitb g ≡ true → gear_query_reply g b ≡ query g b
unfolding gear_query_reply serve
reply_fit g b e = rw e

-- ---- two codes or more

module _ (g : Gear) (e : fitb g ≡ true) (several : 2 ≤ g.unit.count) where
  first : gear_query_reply g 153 ≡ record { answer = Ok (Value 255); gear = walking g (Some 0) }
  unfolding query device_type
  first =
      reply_fit g 153 e ∙
      simp (ne_eqb g.unit.count 0 (λ z. omega arith), ne_eqb g.unit.count 1 (λ z. omega arith))

  walk_fit_lem : (n : ℕ) → n ≤ g.unit.count → fitb (walking g (Some n)) ≡ true
  walk_fit_lem n h =
      let f = facts g e in
      let m = count_most 16 g.unit f.unit in
      fit (walking_kept g (Some n) (at_most n (omega arith)) f)

  step : (n : ℕ) → n ≤ g.unit.count → gear_query_reply (walking g (Some n)) 167 ≡ next_at (walking g (Some n)) n
  unfolding query next_device_type next
  step n h = reply_fit (walking g (Some n)) 167 (walk_fit_lem n h)

  more : (n : ℕ) → n < g.unit.count → next_at (walking g (Some n)) n ≡ record { answer = Ok (Value (type_at g.unit.types n)); gear = walking g (Some (n + 1)) }
  unfolding next_at
  more n h = simp (lt-leb g.unit.count n h)

  ended : next_at (walking g (Some g.unit.count)) g.unit.count ≡ record { answer = Ok (Value 254); gear = walking g (Some g.unit.count) }
  unfolding next_at
  ended = simp (le-leb g.unit.count g.unit.count (omega arith))

  -- the walk stands at the k-th type, and stops past the last
  told_within : (k : ℕ) → k ≤ g.unit.count → told g k ≡ walking g (Some k)
  unfolding told
  told_within zero h = ap (λ (o : Outcome). o.gear) first
  told_within (suc k) h =
      ap (λ (x : Gear). (gear_query_reply x 167).gear) (told_within k (omega arith)) ∙
      ap (λ (o : Outcome). o.gear) (step k (omega arith) ∙ more k (omega arith)) ∙
      ap (λ (n : ℕ). walking g (Some n)) (add-one k)

  told_beyond : (k : ℕ) → g.unit.count ≤ k → told g k ≡ walking g (Some g.unit.count)
  unfolding told
  told_beyond zero h = absurd (omega arith)
  told_beyond (suc k) h =
      by_cases (leb g.unit.count k)
      (λ t.
      ap (λ (x : Gear). (gear_query_reply x 167).gear) (told_beyond k (leb-true g.unit.count k t)) ∙
      ap (λ (o : Outcome). o.gear) (step g.unit.count (omega arith) ∙ ended))
      (λ t.
      let n = leb-false g.unit.count k t in
      let last : suc k ≡ g.unit.count = omega arith in
      told_within (suc k) (omega arith) ∙ ap (λ (m : ℕ). walking g (Some m)) last)

  -- the codes in order
  codes : (k : ℕ) → k < g.unit.count → (gear_query_reply (told g k) 167).answer ≡ Ok (Value (get_or g.unit.types k 0))
  unfolding type_at
  codes k h =
      let f = facts g e in
      let m = count_most 16 g.unit f.unit in
      ap (λ (x : Gear). (gear_query_reply x 167).answer) (told_within k (omega arith)) ∙
      ap (λ (o : Outcome). o.answer) (step k (omega arith) ∙ more k h) ∙
      simp (lt-leb 16 k (omega arith))

  -- then 254 for ever
  over : (k : ℕ) → g.unit.count ≤ k → (gear_query_reply (told g k) 167).answer ≡ Ok (Value 254)
  over k h =
      ap (λ (x : Gear). (gear_query_reply x 167).answer) (told_beyond k h) ∙
      ap (λ (o : Outcome). o.answer) (step g.unit.count (omega arith) ∙ ended)

pub record Walked (g : Gear) : Type 0 where
  pub several : (gear_query_reply g 153).answer ≡ Ok (Value 255)
  pub codes : (k : ℕ) → k < g.unit.count → (gear_query_reply (told g k) 167).answer ≡ Ok (Value (get_or g.unit.types k 0))
  pub over : (k : ℕ) → g.unit.count ≤ k → (gear_query_reply (told g k) 167).answer ≡ Ok (Value 254)

pub walked : (g : Gear) → fitb g ≡ true → 2 ≤ g.unit.count → Walked g
walked g e n = record { several = ap (λ (o : Outcome). o.answer) (first g e n); codes = codes g e n; over = over g e n }

-- ---- no code, or one

quiet : (g : Gear) → fitb g ≡ true → g.unit.count ≤ 1 → (gear_query_reply g 153).gear ≡ walking g None
unfolding query device_type
quiet g e h =
    ap (λ (o : Outcome). o.gear) (reply_fit g 153 e) ∙
    by_cases (eqb g.unit.count 0) (λ t. simp t)
    (λ t.
    let z = eqb-false g.unit.count 0 t in
    let one : g.unit.count ≡ 1 = omega arith in
    simp (t, eq-eqb g.unit.count 1 one))

silent : (g : Gear) → fitb g ≡ true → gear_query_reply (walking g None) 167 ≡ record { answer = Ok Nothing; gear = walking g None }
unfolding query next_device_type next walk_fit
silent g e = reply_fit (walking g None) 167 (fit (walking_kept g None refl (facts g e)))

still : (g : Gear) → fitb g ≡ true → g.unit.count ≤ 1 → (k : ℕ) → told g k ≡ walking g None
unfolding told
still g e h zero = quiet g e h
still g e h (suc k) =
    ap (λ (x : Gear). (gear_query_reply x 167).gear) (still g e h k) ∙ ap (λ (o : Outcome). o.gear) (silent g e)

-- query 153 ends any walk, and 167 after it has no answer, however often
pub unwalked : (g : Gear) → fitb g ≡ true → g.unit.count ≤ 1 → (k : ℕ) → (gear_query_reply (told g k) 167).answer ≡ Ok Nothing
unwalked g e h k =
    ap (λ (x : Gear). (gear_query_reply x 167).answer) (still g e h k) ∙ ap (λ (o : Outcome). o.answer) (silent g e)
