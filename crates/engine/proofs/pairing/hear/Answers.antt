-- `pairing::hear` meets its contract: a held record is heard.
use Rattle.std.proofs.Common.{rules}
use Rattle.calls.specs.Pairing.{hear_call}
use Rattle.engine.proofs.pairing.hear.Goals as goal

pub returns : goal.returns
unfolding hear_call
returns c = c.serve.ensures _ (λ a l k. search rules)
