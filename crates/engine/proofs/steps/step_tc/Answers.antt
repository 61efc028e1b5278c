-- `steps::step_tc` meets its contract: another mode has nothing to step.
use mathlib.Core.Path.{◌≡◌, refl, ap, ◌∙◌}
use mathlib.Core.Bool.{not}
use Rattle.colour.specs.Steps.{tc_step}
use Rattle.engine.proofs.Blocks.{cct_told, active_tc}
use Rattle.slot.proofs.Read.{part}
use Rattle.slot.specs.Image.{image_of}
use Rattle.slot.specs.Record.{gear_of}
use Rattle.engine.proofs.steps.step_tc.Goals as goal

pub returns-then-ne : goal.returns-then-ne
unfolding tc_step
returns-then-ne c = λ g h. rw (cct_told c.args.slot.now g h _ _ c.from.ensures c.ne.ensures ∙ ap not c.if-ne.true) h

pub returns : goal.returns
unfolding image_of gear_of tc_step
returns c =
    λ g h.
    let b = c.args.slot.now in
    let limits : c.limits_of.result ≡ g.colour.limits = c.limits_of.ensures ∙ part b g h (λ x. x.colour.limits) in
    let tc : c.word.result ≡ g.colour.active.tc = c.word.ensures ∙ active_tc b g h in
    rw (cct_told b g h _ _ c.from.ensures c.ne.ensures ∙ ap not c.if-ne.false, c.put_word.ensures, c.stepped_tc-tc.ensures, limits, tc, h.0) (refl, h.1)
