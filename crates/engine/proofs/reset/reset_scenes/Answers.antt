-- `reset::reset_scenes` meets its contract: an unset scene is fifteen bytes of 255.
use mathlib.Core.Path.{refl}
use Rattle.engine.proofs.Scenes.{all_unset}
use Rattle.slot.specs.Image.{image_of}
use Rattle.engine.proofs.reset.reset_scenes.Goals as goal

pub returns : goal.returns
unfolding image_of
returns c = λ g h. rw (c.fill.ensures.after (λ y e. e), h.0) (refl, (h.1.0, h.1.1, h.1.2, h.1.3, (refl, all_unset 16), h.1.5))
