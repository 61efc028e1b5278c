-- `colours::xy_step` meets its contract: on an image of a fit record it is the step.
use Rattle.std.proofs.Common.{rules}
use Rattle.calls.specs.Colours.{xy_step_call, recoloured}
use Rattle.engine.proofs.colours.xy_step.Goals as goal

pub returns : goal.returns
unfolding xy_step_call recoloured
returns c = c.change.ensures _ (λ l k. search rules)
