-- `memory::set_bank1_lock_byte` meets its contract: the lock byte is stored.
use Rattle.std.proofs.Common.{rules}
use Rattle.bank.specs.Memory.{store_profile}
use Rattle.bank.specs.Setters.{set_bank1_location, set_bank1_lock_byte}
use Rattle.calls.specs.Memory.{rebanked, set_lock_call}
use Rattle.engine.proofs.memory.set_bank1_lock_byte.Goals as goal

pub returns : goal.returns
unfolding set_lock_call rebanked set_bank1_lock_byte set_bank1_location store_profile
returns c = c.change.ensures _ (λ l k. search rules)
