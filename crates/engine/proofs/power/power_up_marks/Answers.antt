-- `power::power_up_marks` meets its contract: the stores are those of the image.
use Rattle.slot.specs.Image.{image_of}
use Rattle.engine.proofs.power.power_up_marks.Goals as goal

pub returns : goal.returns
unfolding image_of
returns c = λ g h. (rw (c.fill-2.ensures.after (λ y e. e), c.fill.ensures.after (λ y e. e), h.0), h.1)
