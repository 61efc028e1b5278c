-- An array that a function makes of the place, by a function that changes nothing that it holds.
use Prim.Native.Nat.{ℕ, zero, suc, ◌+◌, ◌<◌}
use mathlib.Core.Path.{◌≡◌, ◌∙◌, subst}
use mathlib.Core.List.{List, map}
use lib.ListN.{get_or}
use native.Mathlib.Nat.{add-zero, zero-add}
use native.Mathlib.Omega.{arith}
use denote.Param.Members.{Mut, Called}
use Rattle.std.specs.Array.{IsFromFnResult, IsFromFnResultFrom}
use Rattle.std.specs.List.{range_with_len}
use Rattle.std.proofs.lemmas.List.FromFn.{fill_by_all}

module _ {F B : Type 0} (g : Mut F (ℕ × Unit {0}) B) (rule : ℕ → B) (f : F)
    (step : (i : ℕ) (q : F) (y : B) → Called g f (i, tt) y q → (y ≡ rule i) × (q ≡ f))
  where
    made_at : (n i k : ℕ) (ys : List B) (d : B) → IsFromFnResultFrom g f ys i n → k < n → get_or ys (i + k) d ≡ rule (i + k)
    made_at zero i k ys d h l = absurd (omega arith)
    made_at (suc n) i zero ys d h l = rw add-zero (h.2.1 d ∙ (step i h.0 h.1 h.3).0)
    made_at (suc n) i (suc k) ys d h l =
        let e : i + suc k ≡ i + 1 + k = omega arith in
        let rest = subst (λ (p : F). IsFromFnResultFrom g p ys (i + 1) n) (step i h.0 h.1 h.3).1 h.4 in
        rw e (made_at n (i + 1) k ys d rest (omega arith))

    pub made : {ys : List B} {n : ℕ} (d : B) → IsFromFnResult g f ys n → ys ≡ map rule (range_with_len 0 n)
    made {ys} {n} d h = fill_by_all rule ys n d h.long (λ k l. rw zero-add at (made_at n 0 k ys d h.each l))
