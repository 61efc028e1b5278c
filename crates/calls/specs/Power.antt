-- A power cycle (part 102, 9.13; part 209, table 8).
use Rattle.colour.specs.Record.{power_up as power_up_colour}
use Rattle.gear.specs.Answer.{done}
use Rattle.gear.specs.declared.answer.Outcome.{Outcome}
use Rattle.gear.specs.declared.record.Gear.{Gear}
use Rattle.gear.specs.Marks.{power_up_marks}
use Rattle.gear.specs.Parts.{with_light}
use Rattle.gear.specs.Serve.{serve}
use Rattle.level.specs.Levels.{power_up}

-- the level is the stored one, unclamped, unless that is 255
unfoldable pub power_cycle : Gear → Gear
power_cycle g = with_light g (power_up g.levels g.settings.on.level) (power_up_marks g.marks) (power_up_colour g.colour)

unfoldable pub power_cycle_call : Gear → Outcome
power_cycle_call g = serve g (done (power_cycle g))
