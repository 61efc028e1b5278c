-- `write::arc_write` meets its contract: levels, marks and colour, each by its own rule.
use mathlib.Core.Path.{◌≡◌, ◌∙◌}
use Rattle.gear.specs.Write.{arc_write}
use Rattle.slot.proofs.Read.{part}
use Rattle.slot.specs.Record.{gear_of}
use Rattle.engine.proofs.write.arc_write.Goals as goal

pub returns : goal.returns
unfolding arc_write gear_of
returns c =
    λ g h.
    let b = c.args.slot.now in
    let levels : c.levels_of-levels.result ≡ g.levels = c.levels_of-levels.ensures ∙ part b g h (λ x. x.levels) in
    rw (c.apply_arc.ensures, c.keeps_identify.ensures, levels) at (c.activate_by_arc.ensures _ (c.ask.ensures _ (c.put_levels.ensures g h)))
