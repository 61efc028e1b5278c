-- `test::is_list_quiet` meets its contract: the highest of the codes behind the list is 0.
use Rattle.std.proofs.Common.{◌≡◌, ◌≤◌, arith}
use Rattle.slot.proofs.Limited.{list_quiet_lem}
use Rattle.slot.specs.Record.{at}
use Rattle.slot.proofs.test.is_list_quiet.Goals as goal

pub returns-else-count-gt16 : goal.returns-else-count-gt16
returns-else-count-gt16 c =
    let b = c.args.slot.now in
    let count : c.from-count.result ≡ at 7 b = omega (arith, c.byte.ensures, c.from-count.ensures) in
    let few : at 7 b ≤ 16 = omega (arith, c.if-count-gt16.false) in
    rw (c.highest.ensures, count, list_quiet_lem b few)
