-- `reply::put_walk` meets its contract: the store is that of the image.
use Rattle.slot.specs.Image.{image_of}
use Rattle.engine.proofs.reply.put_walk.Goals as goal

pub returns : goal.returns
unfolding image_of
returns c = λ fit g h. (rw (h.0, c.unwrap_or.ensures), (h.1.0, fit, h.1.2, h.1.3, h.1.4, h.1.5))
