-- The first fault from the front is the lowest fault, and there is none exactly where the file is well formed. Both follow from the
-- fields standing in a row: whatever is found behind a field lies behind its first byte.
use Prim.Native.Nat.{ℕ, ◌≤◌, ◌<◌}
use mathlib.Core.Path.{◌≡◌, refl, sym, ap, ◌∙◌}
use mathlib.Core.Bool.{Bool, true, false}
use mathlib.Core.List.{List, [], ◌∷◌}
use lib.Dec.{leb, ltb, eqb}
use lib.ListN.{length}
use native.Mathlib.Nat.{min-eq_left, min-eq_right}
use native.Mathlib.Omega.{arith}
use borrow.Author.Tests.{ltb-true, ltb-false, le-ltb, lt-ltb, le-leb, lt-leb, eq-eqb, ne_eqb}
use Rattle.std.specs.Prelude.{Result, Ok, Err, is_ok, ⊤}
use Rattle.file.specs.declared.Malformed.{Malformed}
use Rattle.file.specs.File.{Field, fault, layout, end_of, all_good, well_formed, lower, missing, surplus, judged, out_of_range, checked}
use Rattle.file.specs.Front.{read, steps_front, colour_front, unit_front, file_front}
use Rattle.numbers.specs.Numbers.{both, pick}
use Rattle.numbers.proofs.Logic.{by_cases}

-- the first field starts at a, each further one where the one before it ends, and the last one ends at e
abbrev pub InRow : ℕ → List Field → ℕ → Type 0
InRow a [] e = a ≡ e
InRow a (f ∷ fs) e = (f.first ≡ a) × (a ≤ f.past) × InRow f.past fs e

pub row_ends : (a : ℕ) (fs : List Field) (e : ℕ) → InRow a fs e → a ≤ e
row_ends a [] e r = omega arith
row_ends a (f ∷ fs) e (at, up, r) = let h = row_ends f.past fs e r in omega arith

pub layout_in_row : (s : List ℕ) → InRow 0 (layout s) (end_of s)
layout_in_row s =
    (refl, omega arith, (refl, omega arith, (refl, omega arith, (refl, omega arith, (refl, omega arith, (refl, omega arith, (refl, omega arith, (refl, omega arith, (refl, omega arith, (refl, omega arith, (refl, omega arith, (refl, omega arith, refl))))))))))))

-- ## The lower of two offsets

lower_good : (v : Result ⊤ Malformed) → lower v (Ok tt) ≡ v
lower_good (Ok u) = refl
lower_good (Err m) = refl

lower_assoc : (x : ℕ) (u v : Result ⊤ Malformed) → lower (Err (fault x)) (lower u v) ≡ lower (lower (Err (fault x)) u) v
lower_assoc x (Ok u) v = refl
lower_assoc x (Err m) (Ok u) = refl
lower_assoc x (Err m) (Err k) = ap (λ y. Err (fault y)) (omega arith)

-- an offset is the lower one beside any that lies behind it
lower_first : (t : Bool) (x y : ℕ) → x ≤ y → lower (Err (fault x)) (pick t (Err (fault y)) (Ok tt)) ≡ Err (fault x)
lower_first true x y h = ap (λ k. Err (fault k)) (min-eq_left h)
lower_first false x y h = refl

lower_second : (t : Bool) (x y : ℕ) → x ≤ y → lower (pick t (Err (fault y)) (Ok tt)) (Err (fault x)) ≡ Err (fault x)
lower_second true x y h = ap (λ k. Err (fault k)) (min-eq_right h)
lower_second false x y h = refl

judged_behind : (f : Field) (n x : ℕ) → x ≤ f.first → lower (Err (fault x)) (judged f n) ≡ Err (fault x)
judged_behind f n x h =
    by_cases (leb f.past n)
    (λ whole. rw whole (by_cases f.good (λ ok. rw ok) (λ no. rw no (ap (λ k. Err (fault k)) (min-eq_left h)))))
    (λ cut. rw cut)

-- nothing behind an offset is lower
range_behind : (a : ℕ) (fs : List Field) (e n x : ℕ) → InRow a fs e → x ≤ a → lower (Err (fault x)) (out_of_range fs n) ≡ Err (fault x)
range_behind a [] e n x r h = refl
range_behind a (f ∷ fs) e n x (at, up, r) h =
    lower_assoc x (judged f n) (out_of_range fs n) ∙
    ap (λ v. lower v (out_of_range fs n)) (judged_behind f n x (omega arith)) ∙
    range_behind f.past fs e n x r (omega arith)

-- no field behind the end of the file is there whole
range_cut : (a : ℕ) (fs : List Field) (e n : ℕ) → InRow a fs e → n < a → out_of_range fs n ≡ Ok tt
range_cut a [] e n r h = refl
range_cut a (f ∷ fs) e n (at, up, r) h =
    rw (lt-leb f.past n (omega arith)) (range_cut f.past fs e n r (omega arith))

-- ## The laws

pub row_lowest :
    (a : ℕ) (fs : List Field) (e n : ℕ) →
    InRow a fs e → a ≤ n → read fs n (surplus e n) ≡ lower (missing e n) (lower (surplus e n) (out_of_range fs n))
row_lowest a [] e n r h = rw (le-ltb n e (omega arith)) (sym (lower_good (surplus e n)))
row_lowest a (f ∷ fs) e n (at, up, r) h =
    let ends = row_ends f.past fs e r in
    by_cases (ltb n f.past)
    (λ cut.
    let short : n < f.past = ltb-true n f.past cut in
    simp (cut, lt-ltb n e (omega arith), le-ltb e n (omega arith), lt-leb f.past n short, range_cut f.past fs e n r short))
    (λ there.
    let whole : f.past ≤ n = ltb-false n f.past there in
    by_cases f.good
    (λ ok. simp (there, le-leb f.past n whole, ok) (row_lowest f.past fs e n r whole))
    (λ no.
    simp (
      there,
      le-leb f.past n whole,
      no,
      range_behind f.past fs e n f.first r (omega arith),
      lower_second (ltb e n) f.first e (omega arith),
      lower_second (ltb n e) f.first n (omega arith),
    )))

both_false : (t : Bool) → both t false ≡ false
both_false true = refl
both_false false = refl

pub row_exactly :
    (a : ℕ) (fs : List Field) (e n : ℕ) →
    InRow a fs e → a ≤ n → is_ok (read fs n (surplus e n)) ≡ both (eqb n e) (all_good fs)
row_exactly a [] e n r h =
    by_cases (ltb e n)
    (λ more. simp (more, ne_eqb n e (λ same. omega (arith, ltb-true e n more))))
    (λ no. simp (no, eq-eqb n e (omega (arith, ltb-false e n no))))
row_exactly a (f ∷ fs) e n (at, up, r) h =
    let ends = row_ends f.past fs e r in
    by_cases (ltb n f.past)
    (λ cut. simp (cut, ne_eqb n e (λ same. omega (arith, ltb-true n f.past cut))))
    (λ there.
    let whole : f.past ≤ n = ltb-false n f.past there in
    by_cases f.good
    (λ ok. simp (there, ok) (row_exactly f.past fs e n r whole))
    (λ no. simp (there, no) (sym (both_false (eqb n e)))))

-- the first fault from the front is the lowest
pub lowest : (s : List ℕ) → file_front s ≡ checked s
unfolding file_front unit_front colour_front steps_front checked
lowest s = row_lowest 0 (layout s) (end_of s) (length s) (layout_in_row s) (omega arith)

-- a file is accepted exactly where it is well formed
pub accepted_exactly : (s : List ℕ) → is_ok (checked s) ≡ well_formed s
unfolding file_front unit_front colour_front steps_front well_formed
accepted_exactly s =
    ap is_ok (sym (lowest s)) ∙ row_exactly 0 (layout s) (end_of s) (length s) (layout_in_row s) (omega arith)
