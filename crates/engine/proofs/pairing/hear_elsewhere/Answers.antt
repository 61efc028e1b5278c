-- `pairing::hear_elsewhere` meets its contract: a held record is heard.
use Rattle.std.proofs.Common.{rules}
use Rattle.calls.specs.Pairing.{hear_elsewhere_call}
use Rattle.engine.specs.Works.{hear_elsewhere}
use Rattle.engine.proofs.pairing.hear_elsewhere.Goals as goal

pub returns : goal.returns
unfolding hear_elsewhere_call hear_elsewhere
returns c = c.serve.ensures _ (λ a l k. search rules)
