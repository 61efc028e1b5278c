-- `image::numbers_bytes` meets its contract: four bytes, and six numbers of two bytes behind them.
use Rattle.std.proofs.Common.{◌%◌, ◌/◌, [], ◌∷◌, refl, ap, ◌∙◌, rules}
use Rattle.std.specs.List.{flat_map}
use Rattle.slot.proofs.Made.{mapped}
use Rattle.slot.proofs.Puts.{high_byte}
use Rattle.slot.proofs.image.numbers_bytes.Goals as goal

pub returns : goal.returns
returns c =
    let words = c.as_flattened.ensures.value ∙ ap (flat_map (λ x. x)) (mapped _ (λ n. n % 256 ∷ n / 256 % 256 ∷ []) (λ p q x y k. search rules) 0 refl c.map-words.ensures.items) in
    let limits = c.args.gear.colour.limits in
    rw (
      c.copy_from_slice-2.ensures.after,
      c.copy_from_slice.ensures.after,
      words,
      high_byte c.args.gear.condition.faults.drop (search rules),
      high_byte c.unwrap_or-frame.result (search rules),
      high_byte limits.stored.coolest (search rules),
      high_byte limits.stored.warmest (search rules),
      high_byte limits.physical.coolest (search rules),
      high_byte limits.physical.warmest (search rules),
    ) (rw c.unwrap_or-frame.ensures refl)
