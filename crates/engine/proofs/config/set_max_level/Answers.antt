-- `config::set_max_level` meets its contract: the levels are read, changed and put back.
use mathlib.Core.Path.{◌≡◌, ◌∙◌}
use Rattle.slot.proofs.Read.{part}
use Rattle.slot.specs.Record.{gear_of}
use Rattle.engine.proofs.config.set_max_level.Goals as goal

pub returns : goal.returns
unfolding gear_of
returns c =
    λ g h.
    let b = c.args.slot.now in
    let levels : c.levels_of.result ≡ g.levels = c.levels_of.ensures ∙ part b g h (λ x. x.levels) in
    rw (c.set_max_level-levels.ensures, levels) at (c.put_levels.ensures g h)
