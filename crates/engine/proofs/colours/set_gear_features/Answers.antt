-- `colours::set_gear_features` meets its contract: on an image of a fit record it is the store of the byte.
use Rattle.std.proofs.Common.{rules}
use mathlib.Core.Path.{◌≡◌}
use lib.ListN.{set}
use Rattle.calls.specs.Colours.{set_features_call, recoloured}
use Rattle.colour.specs.Record.{with_features}
use Rattle.slot.specs.Image.{image_of}
use Rattle.engine.proofs.colours.set_gear_features.Goals as goal

pub returns : goal.returns
unfolding set_features_call recoloured with_features image_of
returns c =
    c.change.ensures _
    (λ l k.
    let b = c.args.slot.now in
    let put : l ≡ set b 67 c.args.features = search rules in
    λ g h. (rw (put, h.0), h.1))
