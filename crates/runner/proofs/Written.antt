-- A text is written by its parts, one right behind the other.
use Prim.Native.Nat.{ℕ, ◌+◌, ◌≤◌, ◌<◌}
use native.Mathlib.Nat.{add_assoc, add-zero}
use native.Mathlib.Numerals.{add-one}
use mathlib.Core.Path.{◌≡◌, refl, sym, ap, ◌∙◌}
use mathlib.Core.List.{List, [], ◌∷◌, ◌++◌, append_assoc}
use lib.ListN.{length, take, drop, set, length-append, take-append-drop}
use borrow.Rule.Slice.PartMut.{put_mid}
use lib.Seq.{length-take-le, take_at, drop-append-add, drop-drop, set_split}
use Rattle.runner.specs.Line.{written, Wrote}

-- behind a list that ends at the place
written_behind : (p rest b : List ℕ) (n : ℕ) → length p ≡ n → written (p ++ rest) n b ≡ p ++ (b ++ drop (length b) rest)
unfolding written
written_behind p rest b n e =
    ap (λ l. l ++ (b ++ drop (n + length b) (p ++ rest))) (take_at p rest n e) ∙
    ap (λ k. p ++ (b ++ drop (k + length b) (p ++ rest))) (sym e) ∙
    ap (λ l. p ++ (b ++ l)) (drop-append-add p rest (length b))

written_append :
    (l : List ℕ) (at : ℕ) (a b : List ℕ) → at ≤ length l →
    written (written l at a) (at + length a) b ≡ written l at (a ++ b)
unfolding written
written_append l at a b h =
    let p = take at l ++ a in
    let rest = drop (at + length a) l in
    let ends : length p ≡ at + length a =
    length-append (take at l) a ∙ ap (λ k. k + length a) (length-take-le at l h) in
    ap (λ w. written w (at + length a) b) (sym (append_assoc (take at l) a rest)) ∙
    written_behind p rest b (at + length a) ends ∙
    ap (λ w. p ++ (b ++ w)) (drop-drop (length b) (at + length a) l ∙ ap (λ k. drop k l) (add_assoc at (length a) (length b) ∙ ap (λ k. at + k) (sym (length-append a b)))) ∙
    append_assoc (take at l) a (b ++ drop (at + length (a ++ b)) l) ∙
    ap (λ w. take at l ++ w) (sym (append_assoc a b (drop (at + length (a ++ b)) l)))

-- nothing
pub wrote_none : (l : List ℕ) (at : ℕ) → Wrote l at [] l at
unfolding written
wrote_none l at =
    record { bytes = sym (ap (λ k. take at l ++ drop k l) (add-zero at) ∙ take-append-drop at l); next_is = sym (add-zero at) }

-- one byte
pub wrote_byte : (l : List ℕ) (at x : ℕ) → at < length l → Wrote l at (x ∷ []) (set l at x) (at + 1)
unfolding written
wrote_byte l at x h =
    record { bytes = set_split l at x h ∙ ap (λ k. take at l ++ x ∷ drop k l) (sym (add-one at)); next_is = refl }

-- a part of the list
pub wrote_part :
    {l mid : List ℕ} {at k : ℕ} {text : List ℕ} → at + length text ≤ length l → k ≡ length text → mid ≡ text →
    Wrote l at text (put_mid at k l mid) (at + length text)
unfolding written
wrote_part {l} {at = at} {text = text} h e same =
    record { bytes = rw (same, e) (ap (λ r. take at l ++ (text ++ r)) (drop-drop (length text) at l)); next_is = refl }

-- ## Two texts, one behind the other

pub wrote_behind :
    {old mid new : List ℕ} {at r e : ℕ} {a b : List ℕ} →
    at ≤ length old → Wrote old at a mid r → Wrote mid r b new e → Wrote old at (a ++ b) new e
wrote_behind {old} {mid} {new} {at} {r} {e} {a} {b} within first second =
    record {
      bytes =
          second.bytes ∙ ap (λ l. written l r b) first.bytes ∙ ap (λ k. written (written old at a) k b) first.next_is ∙
          written_append old at a b within;
      next_is = second.next_is ∙ ap (λ k. k + length b) first.next_is ∙ add_assoc at (length a) (length b) ∙ ap (λ k. at + k) (sym (length-append a b));
    }
