-- `power::power_up_levels` meets its contract: the levels and the stored level are the record's.
use mathlib.Core.Path.{◌≡◌}
use Rattle.level.specs.Levels.{power_up}
use Rattle.slot.proofs.Read.{part}
use Rattle.slot.specs.Image.{image_of}
use Rattle.slot.specs.Record.{gear_of}
use Rattle.engine.proofs.power.power_up_levels.Goals as goal

pub returns : goal.returns
unfolding image_of gear_of
returns c =
    λ g h.
    let b = c.args.slot.now in
    let next : c.power_up-levels.result ≡ power_up g.levels g.settings.on.level =
    rw (c.power_up-levels.ensures, c.levels_of.ensures, part b g h (λ x. x.levels), h.0)
    in
    rw (← next) (c.put_levels.ensures g h)
