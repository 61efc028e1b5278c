-- `colours::copy_report_to_temporary` meets its contract: on an image of a fit record it is copying the report.
use Rattle.std.proofs.Common.{rules}
use Rattle.calls.specs.Colours.{copy_report_call, recoloured}
use Rattle.engine.proofs.colours.copy_report_to_temporary.Goals as goal

pub returns : goal.returns
unfolding copy_report_call recoloured
returns c = c.change.ensures _ (λ l k. search rules)
