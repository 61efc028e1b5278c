-- `image::marks_bytes` meets its contract: the byte of a flag is 1 or 0.
use Rattle.std.proofs.Common.{false, refl, ◌∙◌, rules}
use Rattle.slot.proofs.Made.{mapped}
use Rattle.slot.specs.Image.{flag_byte}
use Rattle.slot.proofs.image.marks_bytes.Goals as goal

pub returns : goal.returns
returns c = mapped _ flag_byte (λ p q x y k. search rules) false refl c.map.ensures.items ∙ rw c.is_some.ensures
