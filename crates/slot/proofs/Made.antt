-- An array that a function makes of the entries of another one.
use Prim.Native.Nat.{ℕ}
use mathlib.Core.Path.{◌≡◌, ◌∙◌, sym}
use mathlib.Core.List.{List, map}
use lib.ListN.{length}
use native.Mathlib.Omega.{arith}
use denote.Param.Members.{Mut, Called}
use Rattle.std.specs.Array.{IsMapOf}
use Rattle.std.proofs.lemmas.List.{get_or-map, length-map, same_lists}

pub mapped :
    {F A B : Type 0} (g : Mut F (A × Unit {0}) B) (rule : A → B) →
    ((p q : F) (x : A) (y : B) → Called g p (x, tt) y q → y ≡ rule x) →
    {f : F} {xs : List A} {ys : List B} {n : ℕ} (a : A) → length xs ≡ n → IsMapOf g f xs ys n → ys ≡ map rule xs
mapped g rule step {f} {xs} {ys} {n} a len h =
    same_lists ys (map rule xs) (h.long ∙ sym (length-map xs rule ∙ len))
    (λ k d l.
    let at = h.at k a d (omega (arith, h.long)) in
    step at.0 at.1 _ _ at.2 ∙ sym (get_or-map rule xs k a d (omega (arith, len, h.long))))
