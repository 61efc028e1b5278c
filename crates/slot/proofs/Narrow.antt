-- The table of limits byte by byte: what is left to test is the places where not every byte will do. (`by_limits` of Limited says the same
-- by the ranges of the code's table.)
use Prim.Native.Nat.{ℕ, zero, suc, ◌+◌, ◌<◌}
use mathlib.Core.Path.{◌≡◌, refl, ap, ◌∙◌, sym}
use mathlib.Core.Bool.{Bool, true, false}
use mathlib.Core.List.{List, [], ◌∷◌, ◌++◌}
use lib.Dec.{leb}
use lib.ListN.{drop, length, replicate}
use lib.Seq.{drop-drop, drop-nil, get_or-drop}
use borrow.Author.Tests.{le-leb}
use native.Mathlib.Omega.{arith}
use Rattle.numbers.specs.Numbers.{both}
use Rattle.slot.specs.Held.{Bytes, at_most, limits}
use Rattle.slot.specs.Record.{at}

both_assoc : (a b c : Bool) → both (both a b) c ≡ both a (both b c)
both_assoc true b c = refl
both_assoc false b c = refl

-- any byte will do
any : (n : ℕ) (ls b : List ℕ) → Bytes b → at_most (replicate n 255 ++ ls) b ≡ at_most ls (drop n b)
any zero ls b bytes = refl
any (suc n) ls [] bytes = any n ls [] bytes ∙ ap (at_most ls) (drop-nil n)
any (suc n) ls (x ∷ b) bytes =
    let h : x < 256 = bytes 0 in
    ap (λ (t : Bool). both t (at_most (replicate n 255 ++ ls) b)) (le-leb x 255 (omega arith)) ∙ any n ls b (λ i. bytes (suc i))

some_of : (n l : ℕ) (ls b : List ℕ) → at_most (replicate n l ++ ls) b ≡ both (at_most (replicate n l) b) (at_most ls (drop n b))
some_of zero l ls b = refl
some_of (suc n) l ls [] =
    ap (both (leb 0 l)) (some_of n l ls [] ∙ ap (λ (t : List ℕ). both (at_most (replicate n l) []) (at_most ls t)) (drop-nil n)) ∙
    sym (both_assoc (leb 0 l) (at_most (replicate n l) []) (at_most ls []))
some_of (suc n) l ls (x ∷ b) =
    ap (both (leb x l)) (some_of n l ls b) ∙ sym (both_assoc (leb x l) (at_most (replicate n l) b) (at_most ls (drop n b)))

-- the test from a place on is that of the byte there, and the test from the next place on
from : (k : ℕ) (ls b : List ℕ) → k < length ls → at_most (drop k ls) (drop k b) ≡ both (leb (at k b) (at k ls)) (at_most (drop (suc k) ls) (drop (suc k) b))
from k [] b h = absurd (omega arith)
from zero (l ∷ ls) b h = refl
from (suc k) (l ∷ ls) [] h = ap (at_most (drop k ls)) (sym (drop-nil k)) ∙ from k ls [] (omega arith)
from (suc k) (l ∷ ls) (x ∷ b) h = from k ls b (omega arith)

module _ (b : List ℕ) (bytes : Bytes b) where
  -- what is left to test: the places below 255, in their order
  abbrev pub narrow : Bool
  narrow =
      both (leb (at 3 b) 254) (both (leb (at 4 b) 254) (both (leb (at 5 b) 17) (both (leb (at 6 b) 64) (both (leb (at 7 b) 16)
      (both (leb (at 11 b) 0) (both (leb (at 12 b) 6) (both (at_most (replicate 35 1) (drop 32 b)) (at_most (replicate 71 0) (drop 441 b)))))))))

  rest : ℕ → Bool
  rest k = at_most (drop k limits) (drop k b)

  any_at : (k : ℕ) → at k limits ≡ 255 → k < length limits → rest k ≡ rest (suc k)
  unfolding rest
  any_at k e h =
      let x = bytes k in
      from k limits b h ∙
      ap (λ (l : ℕ). both (leb (at k b) l) (rest (suc k))) e ∙
      ap (λ (t : Bool). both t (rest (suc k))) (le-leb (at k b) 255 (omega arith))

  all_bytes : (k : ℕ) → Bytes (drop k b)
  all_bytes k i = rw get_or-drop (bytes (k + i))

  ranges : rest 13 ≡ both (at_most (replicate 35 1) (drop 32 b)) (at_most (replicate 71 0) (drop 441 b))
  unfolding rest limits
  ranges =
      let spare : List ℕ = replicate 71 0 in
      let flags : List ℕ = replicate 35 1 ++ (replicate 374 255 ++ spare) in
      any 19 flags (drop 13 b) (all_bytes 13) ∙ ap (at_most flags) (drop-drop 19 13 b) ∙
      some_of 35 1 (replicate 374 255 ++ spare) (drop 32 b) ∙
      ap (λ (t : List ℕ). both (at_most (replicate 35 1) (drop 32 b)) (at_most (replicate 374 255 ++ spare) t)) (drop-drop 35 32 b) ∙
      ap (both (at_most (replicate 35 1) (drop 32 b)))
      (any 374 spare (drop 67 b) (all_bytes 67) ∙ ap (at_most spare) (drop-drop 374 67 b))

  pub by_narrow : at_most limits b ≡ narrow
  unfolding rest limits
  by_narrow =
      any_at 0 refl (omega arith) ∙ any_at 1 refl (omega arith) ∙ any_at 2 refl (omega arith) ∙ from 3 limits b (omega arith) ∙
      ap (both (leb (at 3 b) 254)) (from 4 limits b (omega arith) ∙
      ap (both (leb (at 4 b) 254)) (from 5 limits b (omega arith) ∙
      ap (both (leb (at 5 b) 17)) (from 6 limits b (omega arith) ∙
      ap (both (leb (at 6 b) 64)) (from 7 limits b (omega arith) ∙
      ap (both (leb (at 7 b) 16))
      (any_at 8 refl (omega arith) ∙ any_at 9 refl (omega arith) ∙ any_at 10 refl (omega arith) ∙ from 11 limits b (omega arith) ∙
      ap (both (leb (at 11 b) 0)) (from 12 limits b (omega arith) ∙ ap (both (leb (at 12 b) 6)) ranges))))))
