-- `image::groups_bytes` meets its contract: each flag is one byte.
use Rattle.std.proofs.Common.{◌≡◌, length, false, sym, ◌∙◌, rules}
use Rattle.slot.proofs.Made.{mapped}
use Rattle.slot.proofs.Puts.{all_single}
use Rattle.slot.specs.Image.{flag_byte}
use Rattle.slot.proofs.image.groups_bytes.Goals as goal

pub returns : goal.returns
returns c =
    let known : length c.args.groups ≡ 16 = search rules in
    mapped _ flag_byte (λ p q x y k. search rules) false known c.map.ensures.items ∙ sym (all_single flag_byte false 16 c.args.groups known)
