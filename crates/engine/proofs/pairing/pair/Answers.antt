-- `pairing::pair` meets its contract: what is read is the record's.
use Rattle.slot.proofs.Read.{part}
use Rattle.slot.specs.Record.{gear_of}
use Rattle.engine.proofs.pairing.pair.Goals as goal

pub returns : goal.returns
unfolding gear_of
returns c = λ g h. rw c.marks_of.ensures (part c.args.slot.now g h (λ x. x.marks.pair))
