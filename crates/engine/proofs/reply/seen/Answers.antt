-- `reply::seen` meets its contract: each part is read at its place.
use Prim.Native.Nat.{ℕ, ◌+◌}
use mathlib.Core.Path.{ap, sym, ◌∙◌}
use lib.Seq.{get_or-drop}
use Rattle.engine.proofs.Places.{scene_level}
use Rattle.slot.specs.Record.{at, gear_of}
use Rattle.engine.proofs.reply.seen.Goals as goal

pub returns : goal.returns
unfolding gear_of
returns c =
    let b = c.args.slot.now in
    λ i.
    record {
      unit = c.unit_of.ensures i;
      levels = c.levels_of.ensures i;
      marks = c.marks_of.ensures i;
      on = sym (get_or-drop 125 b 14 0) i;
      failure = sym (get_or-drop 140 b 14 0) i;
      fades = c.fades_of.ensures i;
      groups = c.groups_of.ensures i;
      scene = (ap (λ (k : ℕ). at (k + 14) b) c.scene_place.ensures ∙ scene_level c.args.byte b) i;
      condition = c.condition_of.ensures i;
      active = c.tint_at.ensures i;
    }
