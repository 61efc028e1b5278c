-- `memory::store_profile` meets its contract: past the bank nothing is stored, within it the byte is the bank's.
use borrow.Author.Tests.{lt-leb}
use Rattle.bank.specs.Memory.{store_profile}
use Rattle.bank.specs.Setters.{set_bank1_location}
use Rattle.slot.proofs.Indexed.{profile_stored}
use Rattle.engine.proofs.memory.store_profile.Goals as goal

pub returns-then-offset-lt-PROFILE_LEN : goal.returns-then-offset-lt-PROFILE_LEN
unfolding set_bank1_location store_profile
returns-then-offset-lt-PROFILE_LEN c =
    λ g h.
    rw (lt-leb _ _ c.if-offset-lt-PROFILE_LEN.true, c.from.ensures) (profile_stored c.args.slot.now g h c.args.offset c.args.value c.if-offset-lt-PROFILE_LEN.true)
