-- `reads::actual_level_answer` meets its contract: what is read off the bytes is the rule's answer.
use Rattle.std.proofs.Common.{rules}
use Rattle.calls.specs.Reads.{actual_level_call}
use Rattle.slot.specs.Record.{gear_of}
use Rattle.engine.proofs.reads.actual_level_answer.Goals as goal

pub returns : goal.returns
unfolding actual_level_call gear_of
returns c = c.tell.ensures _ (λ a k h. rw (← k.2) (search rules))
