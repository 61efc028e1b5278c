-- `memory::clear_identification_number` meets its contract: the eight bytes are stored in bank 0.
use Rattle.std.proofs.Common.{rules}
use Rattle.calls.specs.Memory.{clear_number_call, rebanked}
use Rattle.engine.proofs.memory.clear_identification_number.Goals as goal

pub returns : goal.returns
unfolding clear_number_call rebanked
returns c = c.change.ensures _ (λ l k. search rules)
