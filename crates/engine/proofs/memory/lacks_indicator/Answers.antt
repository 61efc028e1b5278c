-- `memory::lacks_indicator` meets its contract: the flag at 58 is the record's.
use Rattle.slot.proofs.Read.{part}
use Rattle.slot.specs.Record.{gear_of}
use Rattle.engine.proofs.memory.lacks_indicator.Goals as goal

pub returns : goal.returns
unfolding gear_of
returns c = λ g h. rw (c.lacks_indicator_byte.ensures, c.flag.ensures, part c.args.slot.now g h (λ x. x.unit.bare))
