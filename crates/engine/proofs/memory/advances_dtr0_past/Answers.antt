-- `memory::advances_dtr0_past` meets its contract: a held record is asked.
use Rattle.std.proofs.Common.{rules}
use Rattle.calls.specs.Memory.{advances_call}
use Rattle.engine.proofs.memory.advances_dtr0_past.Goals as goal

pub returns : goal.returns
unfolding advances_call
returns c = c.tell.ensures _ (λ a k h. search rules)
