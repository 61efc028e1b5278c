-- `report::shown` meets its contract: each arm reads the block of its level.
use Prim.Native.Nat.{ℕ}
use mathlib.Core.Path.{ap, ◌∙◌}
use lib.ListN.{drop}
use Rattle.engine.proofs.Reporting.{scene_shown}
use Rattle.slot.specs.Record.{colour_in}
use Rattle.engine.proofs.report.shown.Goals as goal

pub returns-in_default : goal.returns-in_default
returns-in_default c =
    let b = c.args.slot.now in
    let other = c.in_default.in_default-own.rest in
    c.colour_at-in_default.ensures ∙ ap (λ (k : ℕ). colour_in (drop k b)) c.scene_place.ensures ∙
    scene_shown c.args.byte b other.0.0.1 other.0.1 other.1
