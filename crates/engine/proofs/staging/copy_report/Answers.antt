-- `staging::copy_report` meets its contract: the report is read and staged.
use mathlib.Core.Path.{◌∙◌}
use Rattle.colour.specs.Staging.{copy_report}
use Rattle.slot.proofs.Read.{part}
use Rattle.slot.specs.Record.{gear_of}
use Rattle.engine.proofs.staging.copy_report.Goals as goal

pub returns : goal.returns
unfolding copy_report gear_of
returns c = λ g h. rw (c.colour_at-report.ensures ∙ part c.args.slot.now g h (λ x. x.colour.report)) at (c.stage.ensures g h)
