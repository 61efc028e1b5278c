-- `line::Lines::end_line` meets its contract: where there is a buffer, the answer is put, and a line feed.
use Rattle.runner.proofs.Put.{put_then}
use Rattle.runner.proofs.line.Lines.end_line.Goals as goal

pub returns-then-wanted-clause-lines : goal.returns-then-wanted-clause-lines
returns-then-wanted-clause-lines c = λ here. put_then c.put_answer.ensures c.put.ensures
