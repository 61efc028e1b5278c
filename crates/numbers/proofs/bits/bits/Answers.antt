-- `bits::bits` meets its contract: each bit is told from its place.
use Rattle.std.proofs.Common.{rules, ℕ, zero, suc, ◌+◌, ◌≡◌, ◌∙◌, List, ◌∷◌, map, refl, ap, false}
use Rattle.std.specs.List.{range_with_len}
use Rattle.numbers.proofs.Made.{made}
use Rattle.numbers.specs.Bits.{bit_at, bits_from}
use Rattle.numbers.proofs.bits.bits.Goals as goal

places : (n i x : ℕ) → map (λ j. bit_at x j) (range_with_len i n) ≡ bits_from n i x
places zero i x = refl
places (suc n) i x = ap (λ (l : List _). bit_at x i ∷ l) (places n (i + 1) x)

pub returns : goal.returns
returns c =
    let x = c.args.byte in
    made _ (λ i. bit_at x i) _ (λ i q y s. search rules) false c.from_fn.ensures.items ∙ places 8 0 x
