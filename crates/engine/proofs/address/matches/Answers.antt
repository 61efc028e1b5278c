-- `address::matches` meets its contract: a held record is asked.
use Rattle.std.proofs.Common.{rules}
use Rattle.calls.specs.Address.{matches_call}
use Rattle.engine.proofs.address.matches.Goals as goal

pub returns : goal.returns
unfolding matches_call
returns c = c.tell.ensures _ (λ a k h. search rules)
