-- `memory::implements_bank` meets its contract: which banks there are is the same for every record.
use Rattle.std.proofs.Common.{rules}
use Rattle.calls.specs.Memory.{implements_call}
use Rattle.engine.proofs.memory.implements_bank.Goals as goal

pub returns : goal.returns
unfolding implements_call
returns c = c.tell.ensures _ (λ a k h. search rules)
