-- Bytes against their limits: a range by its highest byte, and all limits by the few places where not any byte will do.
use Prim.Native.Nat.{ℕ, zero, suc, max, ◌+◌, ◌-◌, ◌≤◌, ◌<◌}
use mathlib.Core.Path.{◌≡◌, refl, ap, ◌∙◌, sym}
use mathlib.Core.Bool.{Bool, true, false, ◌&&◌}
use mathlib.Core.List.{List, [], ◌∷◌, ◌++◌, append-nil}
use Rattle.std.proofs.Math.Bool.{and-true, and_assoc}
use Rattle.std.proofs.lemmas.Bool.Decides.{nat_tests}
use lib.Dec.{eqb, leb, ltb, eqb-suc-zero, leb-suc-zero, leb-zero}
use lib.ListN.{drop, replicate, take}
use Rattle.std.specs.List.{fold, list_all}
use Rattle.std.specs.declared.ops.Range.{Range}
use lib.Seq.{drop-drop, drop-nil, get_or-drop, take-nil}
use borrow.Author.Tests.{le-leb, ltb-true}
use native.Mathlib.Nat.{add-suc, add-zero, sub-zero, suc-add, suc-sub-suc}
use native.Mathlib.Numerals.{add-one}
use native.Mathlib.Omega.{arith}
use Rattle.colour.specs.Record.{fitb as colour_fit}
use Rattle.gear.specs.Marks.{walk_fit}
use Rattle.gear.specs.Profile.{floor, short_fit, unit_fit}
use Rattle.gear.specs.Record.{fitb}
use Rattle.level.specs.Levels.{levels_fit}
use Rattle.numbers.proofs.Logic.{by_cases}
use Rattle.numbers.specs.Numbers.{both}
use Rattle.slot.specs.declared.test.TheConstants.{LIMITS}
use Rattle.slot.specs.Held.{Bytes, all_zero, at_most, limits, list_quiet}
use Rattle.slot.proofs.Forth.{bytes_drop, limit_at}
use Rattle.slot.specs.Record.{at, bytes_from, colour_of, gear_of, levels_of, short_of, unit_of, walk_of}

-- ## Tests one after the other

pub passes : {a b r : Bool} → a ≡ true → b ≡ r → both a b ≡ r
passes {a} {b} {r} p q = rw p q

pub fails : {a : Bool} (b : Bool) → a ≡ false → both a b ≡ false
fails {a} b p = rw p

-- the highest is not above a limit exactly when none is
leb_max : (a b l : ℕ) → leb (max a b) l ≡ leb a l && leb b l
leb_max a b l = grind (arith, nat_tests)

highest : (a l : ℕ) (xs : List ℕ) → leb (fold max a xs) l ≡ leb a l && list_all (λ x. leb x l) xs
highest a l [] = sym (and-true (leb a l))
highest a l (x ∷ xs) = highest (max a x) l xs ∙ rw (leb_max a x l, and_assoc)

-- ## The table of limits

-- any byte will do
any : (n : ℕ) (ls b : List ℕ) → Bytes b → at_most (replicate n 255 ++ ls) b ≡ at_most ls (drop n b)
any zero ls b bytes = refl
any (suc n) ls [] bytes = any n ls [] bytes ∙ ap (at_most ls) (drop-nil n)
any (suc n) ls (x ∷ b) bytes =
    let h : x < 256 = bytes 0 in
    ap (λ (t : Bool). both t (at_most (replicate n 255 ++ ls) b)) (le-leb x 255 (omega arith)) ∙ any n ls b (λ i. bytes (suc i))

-- each is tested, and then what stands behind them
some_of : (n l : ℕ) (ls b : List ℕ) → at_most (replicate n l ++ ls) b ≡ list_all (λ x. leb x l) (take n b) && at_most ls (drop n b)
some_of zero l ls b = refl
some_of (suc n) l ls [] = rw (leb-zero l, some_of n l ls [], take-nil, drop-nil)
some_of (suc n) l ls (x ∷ b) = by_cases (leb x l) (λ e. rw e (some_of n l ls b)) (λ e. rw e)

-- the highest byte of a range is not above its limit
abbrev pub below : List ℕ → Range ℕ × ℕ → Bool
below b r = leb (fold max 0 (take (r.0.end - r.0.start) (drop r.0.start b))) r.1

module _ (b : List ℕ) (bytes : Bytes b) where
  skip : (k n : ℕ) (ls : List ℕ) → at_most (replicate n 255 ++ ls) (drop k b) ≡ at_most ls (drop (k + n) b)
  skip k n ls = any n ls (drop k b) (bytes_drop k b bytes) ∙ ap (at_most ls) (drop-drop n k b)

  abbrev low : ℕ → ℕ → ℕ → Bool
  low k n l = leb (fold max 0 (take n (drop k b))) l

  part : (k n l : ℕ) (ls : List ℕ) → at_most (replicate n l ++ ls) (drop k b) ≡ low k n l && at_most ls (drop (k + n) b)
  part k n l ls =
      some_of n l ls (drop k b) ∙ rw (highest 0 l (take n (drop k b)), leb-zero l, drop-drop)

  -- the places where not any will do, in their order
  pub by_limits : at_most limits b ≡ list_all (below b) LIMITS
  unfolding limits
  by_limits =
      skip 0 3 (drop 3 limits) ∙ part 3 2 254 (drop 5 limits) ∙ ap (◌&&◌ (low 3 2 254))
      (part 5 1 17 (drop 6 limits) ∙ ap (◌&&◌ (low 5 1 17))
      (part 6 1 64 (drop 7 limits) ∙ ap (◌&&◌ (low 6 1 64))
      (part 7 1 16 (drop 8 limits) ∙ ap (◌&&◌ (low 7 1 16))
      (skip 8 3 (drop 11 limits) ∙ part 11 1 0 (drop 12 limits) ∙ ap (◌&&◌ (low 11 1 0))
      (part 12 1 6 (drop 13 limits) ∙ ap (◌&&◌ (low 12 1 6))
      (skip 13 19 (drop 32 limits) ∙ part 32 35 1 (drop 67 limits) ∙ ap (◌&&◌ (low 32 35 1))
      (skip 67 374 (drop 441 limits) ∙ part 441 71 0 [])))))))

-- ## The other tests

eqb_zero : (n : ℕ) → eqb n 0 ≡ leb n 0
eqb_zero zero = refl
eqb_zero (suc n) = eqb-suc-zero n ∙ sym (leb-suc-zero n)

zeros : (n k : ℕ) (b : List ℕ) → all_zero (bytes_from n k b) ≡ at_most (replicate n 0) (drop k b)
zeros zero k b = refl
zeros (suc n) k b =
    rw (get_or-drop k b 0 0, add-zero, drop-drop 1 k b, ← eqb_zero (at k b), add-one)
    (ap (both (eqb (at k b) 0)) (zeros n (suc k) b))

dropped : (c n k : ℕ) (b : List ℕ) → c ≤ n → drop c (bytes_from n k b) ≡ bytes_from (n - c) (k + c) b
dropped zero n k b h = rw (add-zero, sub-zero)
dropped (suc c) zero k b h = absurd (omega arith)
dropped (suc c) (suc n) k b h = rw (suc-sub-suc, add-suc, ← suc-add) (dropped c n (suc k) b (omega arith))

pub list_quiet_lem : (b : List ℕ) → at 7 b ≤ 16 → list_quiet b ≡ eqb (fold max 0 (take (32 - (16 + at 7 b)) (drop (16 + at 7 b) b))) 0
list_quiet_lem b h =
    let n = 16 - at 7 b in
    let k = 16 + at 7 b in
    let many : 32 - k ≡ n = omega arith in
    ap all_zero (dropped (at 7 b) 16 16 b h) ∙ zeros n k b ∙ rw (append-nil, and-true) at (some_of n 0 [] (drop k b)) ∙
    rw (many, eqb_zero, highest 0 0 (take n (drop k b)))

-- ## What the limits leave of a fit record's tests

short_read : (n : ℕ) → short_fit (short_of n) ≡ true
unfolding short_fit
short_read n = by_cases (ltb n 64) (λ e. rw e (le-leb n 63 (let h = ltb-true n 64 e in omega arith))) (λ e. rw e)

walk_read : (n : ℕ) → walk_fit (walk_of n) ≡ true
unfolding walk_fit
walk_read n = by_cases (ltb n 17) (λ e. rw e (le-leb n 16 (let h = ltb-true n 17 e in omega arith))) (λ e. rw e)

left_over :
    (p q r s t l c w : Bool) → p ≡ true → q ≡ true → s ≡ true → t ≡ true → w ≡ true →
    both (both p (both q (both r (both s t)))) (both l (both c w)) ≡ both r (both l c)
left_over p q true s t true true w p' q' s' t' w' = rw (p', q', s', t', w')
left_over p q true s t true false w p' q' s' t' w' = rw (p', q', s', t')
left_over p q true s t false c w p' q' s' t' w' = rw (p', q', s', t')
left_over p q false s t l c w p' q' s' t' w' = rw (p', q')

pub fit_left :
    (b : List ℕ) → Bytes b → at_most limits b ≡ true →
    fitb (gear_of b) ≡ both (leb 1 (at 4 b)) (both (levels_fit (floor (unit_of b)) (levels_of b)) (colour_fit (colour_of b)))
unfolding fitb unit_fit gear_of limits
fit_left b bytes low =
    left_over _ _ (leb 1 (at 4 b)) _ _ (levels_fit (floor (unit_of b)) (levels_of b)) (colour_fit (colour_of b)) _ (le-leb (at 7 b) 16 (limit_at limits b low 7 (omega arith)))
    (le-leb (unit_of b).random 16777215
    (let x = bytes 8 in let y = bytes 9 in let z = bytes 10 in let top : at 11 b ≤ 0 = limit_at limits b low 11 (omega arith) in omega arith))
    (le-leb (at 4 b) 254 (limit_at limits b low 4 (omega arith))) (short_read (at 6 b)) (walk_read (at 5 b))
