-- `colours::automatic_activation` meets its contract: what is read off the bytes is the rule's answer.
use Rattle.std.proofs.Common.{rules}
use Rattle.calls.specs.Colours.{automatic_call}
use Rattle.slot.specs.Record.{gear_of}
use Rattle.engine.proofs.colours.automatic_activation.Goals as goal

pub returns : goal.returns
unfolding automatic_call gear_of
returns c = c.tell.ensures _ (λ a k h. search rules)
