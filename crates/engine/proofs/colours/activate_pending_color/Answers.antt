-- `colours::activate_pending_color` meets its contract: on an image of a fit record it is activation.
use Rattle.std.proofs.Common.{rules}
use Rattle.calls.specs.Colours.{activate_call, recoloured}
use Rattle.engine.proofs.colours.activate_pending_color.Goals as goal

pub returns : goal.returns
unfolding activate_call recoloured
returns c = c.change.ensures _ (λ l k. search rules)
