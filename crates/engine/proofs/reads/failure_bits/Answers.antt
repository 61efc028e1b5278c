-- `reads::failure_bits` meets its contract: what is read off the bytes is the rule's answer.
use Rattle.std.proofs.Common.{rules}
use Rattle.calls.specs.Reads.{failure_bits_call}
use Rattle.slot.specs.Record.{gear_of}
use Rattle.engine.proofs.reads.failure_bits.Goals as goal

pub returns : goal.returns
unfolding failure_bits_call gear_of
returns c = c.tell.ensures _ (λ a k h. search rules)
