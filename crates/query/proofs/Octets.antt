-- Eight marks, the last first, each joined below those before it: their byte.
use Prim.Native.Nat.{ℕ, ◌+◌, ◌-◌, ◌*◌, ◌%◌, ◌≤◌, ◌<◌}
use mathlib.Core.Path.{◌≡◌, refl, ◌∙◌}
use mathlib.Core.Bool.{Bool, true, false}
use mathlib.Core.List.{List, [], ◌∷◌, reverse}
use lib.ListN.{get_or, take, drop}
use native.Mathlib.Numerals.{add-one}
use native.Mathlib.Omega.{arith}
use Rattle.std.proofs.Common.{length}
use Rattle.std.proofs.Math.Seq.{drop-cons}
use Rattle.std.proofs.lemmas.Grind.{or_after_shift}
use Rattle.std.specs.Int.Bits.{bit_or}
use Rattle.std.specs.List.{fold}
use Rattle.query.specs.Bits.{weight, nibble, eight}

abbrev pub joined : ℕ → Bool → ℕ
joined sum mark = bit_or (sum * 2 % 256) (weight mark 1)

-- one mark more
more : (x n : ℕ) (mark : Bool) → x ≡ n → n < 128 → joined x mark ≡ n * 2 + weight mark 1
unfolding weight
more x n true e h = rw e (or_after_shift n 2 256 1 refl (omega arith) (omega arith))
more x n false e h = rw e (or_after_shift n 2 256 0 refl (omega arith) (omega arith))

low : (mark : Bool) → weight mark 1 ≤ 1
unfolding weight
low true = omega arith
low false = omega arith

octet : (a b c d e f g h : Bool) → fold joined 0 (h ∷ g ∷ f ∷ e ∷ d ∷ c ∷ b ∷ a ∷ []) ≡ nibble a b c d + 16 * nibble e f g h
unfolding nibble
octet a b c d e f g h =
    let la = low a in
    let lb = low b in
    let lc = low c in
    let ld = low d in
    let le = low e in
    let lf = low f in
    let lg = low g in
    let lh = low h in
    let from_h = more 0 0 h refl (omega arith) in
    let from_g = more _ _ g from_h (omega arith) in
    let from_f = more _ _ f from_g (omega arith) in
    let from_e = more _ _ e from_f (omega arith) in
    let from_d = more _ _ d from_e (omega arith) in
    let from_c = more _ _ c from_d (omega arith) in
    let from_b = more _ _ b from_c (omega arith) in
    more _ _ a from_b (omega arith) ∙ omega arith

-- one mark of those from a place on, and the rest
first : (marks : List Bool) (at next n : ℕ) → next ≡ at + 1 → at < length marks → take (n + 1) (drop at marks) ≡ get_or marks at false ∷ take n (drop next marks)
first marks at next n e h = rw (e, add-one n, add-one at, drop-cons marks at false h)

taken : (marks : List Bool) (from : ℕ) → from + 8 ≤ length marks → take 8 (drop from marks) ≡ get_or marks from false ∷ get_or marks (from + 1) false ∷ get_or marks (from + 2) false ∷ get_or marks (from + 3) false ∷ get_or marks (from + 4) false ∷ get_or marks (from + 5) false ∷ get_or marks (from + 6) false ∷ get_or marks (from + 7) false ∷ []
taken marks from h =
    rw (
      first marks from (from + 1) 7 refl (omega arith),
      first marks (from + 1) (from + 2) 6 (omega arith) (omega arith),
      first marks (from + 2) (from + 3) 5 (omega arith) (omega arith),
      first marks (from + 3) (from + 4) 4 (omega arith) (omega arith),
      first marks (from + 4) (from + 5) 3 (omega arith) (omega arith),
      first marks (from + 5) (from + 6) 2 (omega arith) (omega arith),
      first marks (from + 6) (from + 7) 1 (omega arith) (omega arith),
      first marks (from + 7) (from + 8) 0 (omega arith) (omega arith),
    )

pub folded : (marks rest : List Bool) (from : ℕ) → from + 8 ≤ length marks → rest ≡ take (from + 8 - from) (drop from marks) → fold joined 0 (reverse rest) ≡ eight marks from
unfolding eight
folded marks rest from h e =
    let many : from + 8 - from ≡ 8 = omega arith in
    rw (e, many, taken marks from h) (octet _ _ _ _ _ _ _ _)
