-- `steps::step_xy` meets its contract: another mode has nothing to step, and one axis moves.
use mathlib.Core.Path.{◌≡◌, refl, ap, ◌∙◌}
use mathlib.Core.Bool.{not}
use Rattle.colour.specs.Steps.{moved, xy_step}
use Rattle.engine.proofs.Blocks.{active_x, xy_told, active_y}
use Rattle.slot.specs.Image.{image_of}
use Rattle.engine.proofs.steps.step_xy.Goals as goal
use Rattle.engine.proofs.steps.step_xy.Goals.{then-y_axis, else-y_axis}

pub returns-then-ne : goal.returns-then-ne
unfolding xy_step
returns-then-ne c = λ g h. rw (xy_told c.args.slot.now g h _ _ c.from.ensures c.ne.ensures ∙ ap not c.if-ne.true) h

pub returns : goal.returns
unfolding image_of xy_step moved
returns c =
    λ g h.
    let b = c.args.slot.now in
    let mode = xy_told b g h _ _ c.from.ensures c.ne.ensures ∙ ap not c.if-ne.false in
    elim c.if-y_axis.branch [
      | then-y_axis w ↦
          let at : c.word.result ≡ g.colour.active.y = rw w.axis-is at c.word.ensures ∙ active_y b g h in
          rw (mode, w.if-y_axis.true, c.put_word.ensures, w.axis-is, c.stepped_xy-moved.ensures, at, h.0) (refl, h.1)
      | else-y_axis w ↦
          let at : c.word.result ≡ g.colour.active.x = rw w.axis-is at c.word.ensures ∙ active_x b g h in
          rw (mode, w.if-y_axis.false, c.put_word.ensures, w.axis-is, c.stepped_xy-moved.ensures, at, h.0) (refl, h.1)
    ]
