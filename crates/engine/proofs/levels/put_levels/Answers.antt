-- `levels::put_levels` meets its contract: the stores are those of the image.
use mathlib.Core.Path.{refl}
use Rattle.slot.proofs.Puts.{flag_stored}
use Rattle.slot.specs.Image.{image_of}
use Rattle.engine.proofs.levels.put_levels.Goals as goal

pub returns : goal.returns
unfolding image_of
returns c = λ g h. rw (c.from.ensures, flag_stored, h.0) (refl, h.1)
