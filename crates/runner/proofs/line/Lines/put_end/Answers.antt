-- `line::Lines::put_end` meets its contract: four texts, one behind the other.
use Rattle.runner.specs.Line.{end_text}
use Rattle.runner.proofs.Put.{put_then}
use Rattle.runner.proofs.line.Lines.put_end.Goals as goal

pub returns : goal.returns
unfolding end_text
returns c =
    let level = rw c.from.ensures at c.put_number.ensures in
    let min = rw c.from-2.ensures at c.put_number-2.ensures in
    let max = rw c.from-3.ensures at c.put_number-3.ensures in
    put_then c.put_text.ensures (put_then level (put_then min max))
