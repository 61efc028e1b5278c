-- `line::Lines::start_line` meets its contract: where there is a buffer, the number is put.
use Rattle.runner.proofs.line.Lines.start_line.Goals as goal

pub returns-then-wanted-clause-lines : goal.returns-then-wanted-clause-lines
returns-then-wanted-clause-lines c = λ here. c.put_number.ensures
