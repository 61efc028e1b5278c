-- `reads::status_byte` meets its contract: what is read off the bytes is the rule's answer.
use Rattle.std.proofs.Common.{rules}
use Rattle.calls.specs.Reads.{status_call}
use Rattle.slot.specs.Record.{gear_of}
use Rattle.engine.proofs.reads.status_byte.Goals as goal

pub returns : goal.returns
unfolding status_call gear_of
returns c = c.tell.ensures _ (λ a k h. rw (← k.2) (search rules))
