-- `colours::store_tc_limit` meets its contract: on an image of a fit record it is the limit store.
use Rattle.std.proofs.Common.{rules}
use Rattle.calls.specs.Colours.{store_tc_limit_call, recoloured}
use Rattle.engine.proofs.colours.store_tc_limit.Goals as goal

pub returns : goal.returns
unfolding store_tc_limit_call recoloured
returns c = c.change.ensures _ (λ l k. search rules)
