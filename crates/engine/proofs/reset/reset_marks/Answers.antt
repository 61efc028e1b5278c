-- `reset::reset_marks` meets its contract: the stores are those of the image.
use mathlib.Core.Path.{refl}
use Rattle.gear.specs.Marks.{walk_fit}
use Rattle.slot.specs.Image.{image_of}
use Rattle.engine.proofs.reset.reset_marks.Goals as goal

pub returns : goal.returns
unfolding image_of walk_fit
returns c = λ g h. rw (c.fill-2.ensures.after (λ y e. e), c.fill.ensures.after (λ y e. e), h.0) (refl, (h.1.0, refl, h.1.2, h.1.3, h.1.4, h.1.5))
