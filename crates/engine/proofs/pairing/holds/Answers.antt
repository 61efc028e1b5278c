-- `pairing::holds` meets its contract: the frame of a held record is compared.
use Rattle.std.proofs.Common.{rules}
use Rattle.calls.specs.Pairing.{holds_call}
use Rattle.engine.proofs.Waiting.{waits_is}
use Rattle.engine.proofs.pairing.holds.Goals as goal

pub returns : goal.returns
unfolding holds_call
returns c = c.tell.ensures _ (λ a k h. rw waits_is (search rules))
