-- `staging::stage_channels` meets its contract: the stores are those of the image, level by level.
use mathlib.Core.Path.{◌≡◌}
use Rattle.colour.specs.Staging.{load, load_temporaries_from}
use Rattle.slot.specs.Image.{image_of}
use lib.ListN.{length}
use Rattle.engine.proofs.Blocks.{six}
use Rattle.std.proofs.Common.{rules}
use Rattle.engine.proofs.staging.stage_channels.Goals as goal

pub returns : goal.returns
unfolding image_of load load_temporaries_from
returns c =
    λ g h k.
    let levels = c.args.setting.levels in
    let many : length levels ≡ 6 = search rules in
    rw (c.copy_from_slice.ensures.after, h.0, k) (rw (six levels many), (h.1.0, h.1.1, (h.1.2.0, many, h.1.2.2), h.1.3, h.1.4, h.1.5))
