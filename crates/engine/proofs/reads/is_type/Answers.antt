-- `reads::is_type` meets its contract: what is read off the bytes is the rule's answer.
use Rattle.calls.specs.Reads.{type_call}
use Rattle.slot.specs.Record.{gear_of}
use Rattle.engine.proofs.reads.is_type.Goals as goal

pub returns : goal.returns
unfolding type_call gear_of
returns c = c.tell.ensures _ (λ a k h. cc)
