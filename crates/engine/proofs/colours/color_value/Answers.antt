-- `colours::color_value` meets its contract: what is read off the bytes is the rule's answer.
use Rattle.std.proofs.Common.{rules}
use Rattle.calls.specs.Colours.{color_value_call}
use Rattle.slot.specs.Record.{gear_of}
use Rattle.engine.proofs.colours.color_value.Goals as goal

pub returns : goal.returns
unfolding color_value_call gear_of
returns c = c.tell.ensures _ (λ a k h. search rules)
