-- `reads::thermal_shut_down` meets its contract: what is read off the bytes is the rule's answer.
use Rattle.calls.specs.Reads.{thermal_call}
use Rattle.slot.specs.Record.{gear_of}
use Rattle.engine.proofs.reads.thermal_shut_down.Goals as goal

pub returns : goal.returns
unfolding thermal_call gear_of
returns c = c.tell.ensures _ (λ a k h. cc)
