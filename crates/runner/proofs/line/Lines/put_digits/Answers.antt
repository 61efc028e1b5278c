-- `line::Lines::put_digits` meets its contract: one digit after the other, and the last one.
use mathlib.Core.Path.{◌≡◌, ◌∙◌, ap}
use native.Mathlib.Omega.{arith}
use Prim.Native.Nat.{◌%◌}
use Rattle.runner.proofs.Digits.{rest_digit, rest_more, rest_same, unit}
use Rattle.runner.proofs.Put.{digit_last, digit_more, digit_none, digit_room, front_put}
use Rattle.runner.proofs.line.Lines.put_digits.Goals as goal
use Rattle.runner.proofs.line.Lines.put_digits.Goals.{then-unit-n, else-unit-n}

pub loop-unit-init : goal.loop-unit-init
loop-unit-init c = record { put = front_put c.args.n (omega (arith, c.requires)); rest = omega arith }

pub digit-requires : goal.digit-requires
digit-requires c = rw c.loop-unit.invariant.rest (rest_digit c.loop-unit.unit-index c.args.n c.loop-unit-test.true)

pub put-requires : goal.put-requires
put-requires c = digit_room c.loop-unit.unit-index c.args.n 0 (omega arith) c.requires c.loop-unit.invariant.put

pub loop-unit-preserved : goal.loop-unit-preserved
loop-unit-preserved c =
    let i = c.loop-unit.unit-index in
    let n = c.args.n in
    let low = c.loop-unit-test.true in
    let so_far = c.loop-unit.invariant in
    elim c.if-unit-n.branch [
      | then-unit-n w ↦ record {
        put = rw w.self-is (digit_more i n low w.if-unit-n.true so_far.put so_far.rest w.digit.ensures w.put.ensures);
        rest = w.rest-is ∙ ap (λ r. r % unit i) so_far.rest ∙ rest_more i n low;
      }
      | else-unit-n w ↦ record {
        put = rw w.self-is (digit_none i n low w.if-unit-n.false so_far.put);
        rest = w.rest-is ∙ so_far.rest ∙ rest_same i n low w.if-unit-n.false;
      }
    ]

pub put-requires-2 : goal.put-requires-2
put-requires-2 c = digit_room c.loop-unit.unit-index c.args.n 0 (omega arith) c.requires c.loop-unit.invariant.put

pub returns : goal.returns
returns c =
    let so_far = c.loop-unit.invariant in
    let ended : c.loop-unit.unit-index ≡ 4 = omega arith in
    digit_last c.args.n (rw ended at so_far.put) (rw ended at so_far.rest) c.digit-2.ensures c.put-2.ensures
