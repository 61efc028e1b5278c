-- `image::colour_bytes` meets its contract: three numbers of two bytes, the levels behind them, the control and the type.
use Rattle.std.proofs.Common.{◌≡◌, ◌%◌, ◌/◌, [], ◌∷◌, length, refl, ap, ◌∙◌, rules}
use Rattle.std.specs.List.{flat_map}
use Rattle.slot.proofs.Made.{mapped}
use Rattle.slot.proofs.Puts.{bytes_cells, high_byte, in_full}
use Rattle.slot.proofs.image.colour_bytes.Goals as goal

pub returns : goal.returns
returns c =
    let s = c.args.setting in
    let values = c.as_flattened.ensures.value ∙ ap (flat_map (λ x. x)) (mapped _ (λ n. n % 256 ∷ n / 256 % 256 ∷ []) (λ p q x y k. search rules) 0 refl c.map-values.ensures.items) in
    let six : length s.levels ≡ 6 = search rules in
    let levels = in_full 6 s.levels six ∙ bytes_cells 6 s.levels [] in
    rw (c.copy_from_slice-2.ensures.after, c.copy_from_slice.ensures.after, values, levels, high_byte s.x (search rules), high_byte s.y (search rules), high_byte s.tc (search rules)) refl
