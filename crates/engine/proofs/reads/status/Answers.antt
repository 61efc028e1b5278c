-- `reads::status` meets its contract: each part is read at its place.
use Rattle.engine.proofs.reads.status.Goals as goal

pub returns : goal.returns
returns c = simp (c.status_byte.ensures, c.unit_of.ensures, c.levels_of.ensures, c.marks_of.ensures, c.condition_of.ensures)
