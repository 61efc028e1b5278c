-- `reset::reset_colour` meets its contract: the stores are those of the image.
use mathlib.Core.Path.{refl}
use Rattle.colour.specs.Record.{reset}
use Rattle.slot.specs.Image.{image_of}
use Rattle.engine.proofs.reset.reset_colour.Goals as goal

pub returns : goal.returns
unfolding image_of reset
returns c = λ g h. rw (c.fill-2.ensures.after (λ y e. e), c.fill.ensures.after (λ y e. e), c.copy_within.ensures.after, h.0) (refl, (h.1.0, h.1.1, (h.1.2.0, refl, refl), h.1.3, h.1.4, h.1.5))
