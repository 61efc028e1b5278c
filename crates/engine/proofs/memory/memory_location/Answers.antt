-- `memory::memory_location` meets its contract: a held record's location is read.
use Rattle.std.proofs.Common.{rules}
use Rattle.calls.specs.Memory.{memory_location_call}
use Rattle.engine.proofs.memory.memory_location.Goals as goal

pub returns : goal.returns
unfolding memory_location_call
returns c = c.tell.ensures _ (λ a k h. search rules)
