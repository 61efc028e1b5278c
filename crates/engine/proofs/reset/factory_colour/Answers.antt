-- `reset::factory_colour` meets its contract: what is read is the record's; the codes behind the list of types decide nothing.
use mathlib.Core.Path.{◌≡◌, ap, ◌∙◌}
use Rattle.colour.specs.declared.record.Colour.{Colour}
use Rattle.colour.specs.Setting.{factory}
use Rattle.slot.proofs.Passes.{listed_type}
use Rattle.slot.proofs.Read.{part}
use Rattle.slot.specs.Record.{gear_of}
use Rattle.engine.proofs.reset.factory_colour.Goals as goal

pub returns : goal.returns
unfolding gear_of factory
returns c =
    λ g h.
    let b = c.args.slot.now in
    let can : c.colour_of.result.can ≡ g.colour.can = ap (λ (x : Colour). x.can) c.colour_of.ensures ∙ part b g h (λ x. x.colour.can) in
    rw (c.factory.ensures, c.is_dt8.ensures, c.unit_of.ensures ∙ part b g h (λ x. x.unit), can, listed_type g 8 h.1)
