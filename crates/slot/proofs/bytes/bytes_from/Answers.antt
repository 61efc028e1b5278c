-- `bytes::bytes_from` meets its contract: each byte is read at its place.
use Rattle.std.proofs.Common.{rules, ℕ, zero, suc, ◌+◌, ◌≡◌, ◌∙◌, List, ◌∷◌, map, refl, ap, add-one, add-zero}
use native.Mathlib.Nat.{add-suc}
use Rattle.std.specs.List.{range_with_len}
use Rattle.numbers.proofs.Made.{made}
use Rattle.slot.specs.Record.{at, bytes_from}
use Rattle.slot.proofs.bytes.bytes_from.Goals as goal

places : (n k i : ℕ) (b : List ℕ) → map (λ j. at (k + j) b) (range_with_len i n) ≡ bytes_from n (k + i) b
places zero k i b = refl
places (suc n) k i b = ap (λ (l : List ℕ). at (k + i) b ∷ l) (places n k (i + 1) b ∙ rw (add-one, add-suc))

pub returns : goal.returns
returns g c =
    let b = c.args.part.now in
    let k = c.args.place in
    made _ (λ i. at (k + i) b) _ (λ i q y s. search rules) 0 c.from_fn.ensures.items ∙ rw add-zero at (places g.row.N k 0 b)
