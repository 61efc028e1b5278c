-- `power::power_up_colour` meets its contract: the stores are those of the image.
use mathlib.Core.Path.{refl}
use Rattle.colour.specs.Record.{power_up}
use Rattle.slot.specs.Image.{image_of}
use Rattle.engine.proofs.power.power_up_colour.Goals as goal

pub returns : goal.returns
unfolding image_of power_up
returns c =
    λ g h. (
      rw (c.fill-3.ensures.after (λ y e. e), c.fill-2.ensures.after (λ y e. e), c.fill.ensures.after (λ y e. e), h.0),
      (h.1.0, h.1.1, (refl, refl, refl), h.1.3, h.1.4, h.1.5),
    )
