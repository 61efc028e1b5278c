-- `reset::reset_settings` meets its contract: the stores are those of the image.
use mathlib.Core.Path.{refl}
use Rattle.colour.specs.Setting.{factory}
use Rattle.slot.specs.Calls.{colour_put}
use Rattle.slot.specs.Image.{image_of}
use Rattle.engine.proofs.reset.reset_settings.Goals as goal

pub returns : goal.returns
unfolding image_of factory colour_put
returns c =
    λ g h.
    rw (c.put_setting-2.ensures, c.put_setting.ensures, c.fill.ensures.after (λ y e. e), c.factory_colour.ensures g h, h.0)
    (refl, (h.1.0, h.1.1, h.1.2, (refl, refl, refl), h.1.4, h.1.5))
