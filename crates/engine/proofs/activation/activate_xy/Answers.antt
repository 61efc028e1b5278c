-- `activation::activate_xy` meets its contract: the stores are those of the image.
use mathlib.Core.Path.{refl}
use Rattle.colour.specs.Activation.{activate, activated, strays}
use Rattle.slot.specs.Image.{image_of}
use Rattle.engine.proofs.activation.activate_xy.Goals as goal

pub returns : goal.returns
unfolding image_of activate activated strays
returns c = λ g h m. rw (c.unstage.ensures, c.unlinked.ensures, c.copy_within.ensures.after, h.0, m) (refl, h.1)
