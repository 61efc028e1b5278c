-- `storing::set_system_failure_level` meets its contract: the level is stored at its place.
use Rattle.engine.proofs.Taking.{failure_put}
use Rattle.engine.proofs.storing.set_system_failure_level.Goals as goal

pub returns : goal.returns
returns c = λ g h. rw c.store_level.ensures (failure_put c.args.slot.now g h c.args.level)
