-- `memory::set_bank1_location` meets its contract: the location is stored.
use Rattle.std.proofs.Common.{rules}
use Rattle.calls.specs.Memory.{rebanked, set_location_call}
use Rattle.engine.proofs.memory.set_bank1_location.Goals as goal

pub returns : goal.returns
unfolding set_location_call rebanked
returns c = c.change.ensures _ (λ l k. search rules)
