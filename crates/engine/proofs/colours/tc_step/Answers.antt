-- `colours::tc_step` meets its contract: on an image of a fit record it is the step.
use Rattle.std.proofs.Common.{rules}
use Rattle.calls.specs.Colours.{tc_step_call, recoloured}
use Rattle.engine.proofs.colours.tc_step.Goals as goal

pub returns : goal.returns
unfolding tc_step_call recoloured
returns c = c.change.ensures _ (λ l k. search rules)
