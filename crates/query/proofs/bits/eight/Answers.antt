-- `bits::eight` meets its contract: the fold runs over the eight marks that were taken, the last first (`folded`).
use Rattle.std.proofs.Common.{rules, ◌≡◌, ◌∙◌, ap, sym, arith}
use Rattle.numbers.specs.Numbers.{pick}
use Rattle.query.specs.Bits.{weight}
use Rattle.query.proofs.Octets.{joined, folded}
use Rattle.query.proofs.bits.eight.Goals as goal
use Rattle.query.proofs.bits.eight.Goals.{then-high, else-high}

pub returns : goal.returns
unfolding weight
returns c =
    let half : pick c.args.high 8 0 ≡ c.if-high.from =
    elim c.if-high.branch [
      | then-high w ↦ rw w.if-high.true (sym w.from-is)
      | else-high w ↦ rw w.if-high.false (sym w.from-is)
    ]
    in
    let run = c.fold.ensures.runs in
    let back = c.rev.ensures.runs run.0 run.0.seen run.1 in
    let same = back.2.0.1 in
    let steps = run.3 (λ sum mark. joined sum mark.now) (λ x y r f z. search rules) in
    let marks = (c.iter.ensures.runs_back back.0 back.0.seen).5 joined 0 (back.2.1 ∙ run.2) in
    let taken = ap (λ (i : _). i.rest.now) back.1 ∙ c.iter.ensures.rest in
    let byte = folded c.args.marks back.0.from.rest.now c.if-high.from (omega arith) taken in
    rw half (cc)
