-- `config::set_min_level` meets its contract: the levels are read, changed and put back; the codes behind the list of types decide nothing.
use mathlib.Core.Path.{◌≡◌, ◌∙◌}
use Rattle.engine.proofs.Querying.{listed_min}
use Rattle.gear.specs.Write.{set_min}
use Rattle.slot.proofs.Read.{part}
use Rattle.slot.specs.Record.{gear_of, listed}
use Rattle.engine.proofs.config.set_min_level.Goals as goal

pub returns : goal.returns
unfolding gear_of
returns c =
    λ g h.
    let b = c.args.slot.now in
    let levels : c.levels_of.result ≡ g.levels = c.levels_of.ensures ∙ part b g h (λ x. x.levels) in
    let unit : c.unit_of.result ≡ (listed g).unit = c.unit_of.ensures ∙ part b g h (λ x. x.unit) in
    let lowest = c.set_min-levels.ensures ∙ (λ i. set_min (unit i) (levels i) c.args.level) ∙ listed_min g h.1 c.args.level in
    rw lowest at (c.put_levels.ensures g h)
