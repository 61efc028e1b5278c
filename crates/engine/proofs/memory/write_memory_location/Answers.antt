-- `memory::write_memory_location` meets its contract: a held record's location is written.
use Rattle.std.proofs.Common.{rules}
use Rattle.calls.specs.Memory.{rebanked, write_memory_call}
use Rattle.engine.specs.Works.{write_location}
use Rattle.engine.proofs.memory.write_memory_location.Goals as goal

pub returns : goal.returns
unfolding write_memory_call rebanked write_location
returns c = c.serve.ensures _ (λ a l k. search rules)
