-- `colours::load_temporaries_from` meets its contract: on an image of a fit record it is staging.
use Rattle.std.proofs.Common.{rules}
use Rattle.calls.specs.Colours.{stage_call, recoloured}
use Rattle.engine.proofs.colours.load_temporaries_from.Goals as goal

pub returns : goal.returns
unfolding stage_call recoloured
returns c = c.change.ensures _ (λ l k. search rules)
