-- `parts::gear_of` meets its contract: part by part.
use Rattle.slot.specs.Record.{gear_of}
use Rattle.slot.proofs.parts.gear_of.Goals as goal

pub returns : goal.returns
unfolding gear_of
returns c =
    rw (c.unit_of.ensures, c.levels_of.ensures, c.marks_of.ensures, c.colour_of.ensures, c.settings_of.ensures, c.scenes_of.ensures, c.condition_of.ensures, c.banks_of.ensures)
