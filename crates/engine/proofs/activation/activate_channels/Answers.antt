-- `activation::activate_channels` meets its contract: the stores are those of the image.
use mathlib.Core.Path.{refl}
use Rattle.colour.specs.Activation.{activate, activated, strays}
use Rattle.slot.specs.Image.{image_of}
use Rattle.engine.proofs.activation.activate_channels.Goals as goal

pub returns : goal.returns
unfolding image_of activate activated strays
returns c = λ g h m. rw (c.unstage.ensures, c.chosen.ensures, c.copy_within.ensures.after, h.0, m) (refl, (h.1.0, h.1.1, (h.1.2.1, h.1.2.1, h.1.2.2), h.1.3, h.1.4, h.1.5))
