-- `config::set_member` meets its contract: the group's own flag.
use borrow.Author.Tests.{lt-leb}
use Rattle.gear.specs.Scene.{stored}
use Rattle.slot.proofs.Indexed.{group_stored}
use Rattle.slot.proofs.Puts.{flag_stored}
use Rattle.engine.proofs.config.set_member.Goals as goal

pub returns-then-group-lt16 : goal.returns-then-group-lt16
unfolding stored
returns-then-group-lt16 c =
    λ g h.
    let low = c.if-group-lt16.true in
    rw (lt-leb _ _ low, c.from-then-group-lt16.ensures, c.from.ensures, flag_stored) (group_stored c.args.slot.now g h c.args.group c.args.member low)
