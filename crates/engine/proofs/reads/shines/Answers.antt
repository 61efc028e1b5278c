-- `reads::shines` meets its contract: each part is read at its place.
use Rattle.engine.proofs.reads.shines.Goals as goal

pub returns : goal.returns
returns c = simp (c.lamp_on.ensures, c.unit_of.ensures, c.levels_of.ensures, c.condition_of.ensures)
