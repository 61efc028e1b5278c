-- Setters of what no bus command sets.
use Rattle.std.specs.Prelude.{Bool}
use Rattle.gear.specs.Answer.{done}
use Rattle.gear.specs.declared.answer.Outcome.{Outcome}
use Rattle.gear.specs.declared.condition.Faults.{Faults}
use Rattle.gear.specs.declared.record.Gear.{Gear}
use Rattle.gear.specs.declared.condition.Lamp.{Lamp}
use Rattle.gear.specs.Parts.{with_condition}
use Rattle.gear.specs.Serve.{serve}

abbrev pub conditioned : Gear → Bool → Lamp → Faults → Outcome
conditioned g enabled lamp faults = serve g (done (with_condition g (record { enabled = enabled; lamp = lamp; faults = faults })))

unfoldable pub set_enabled_call : Gear → Bool → Outcome
set_enabled_call g b = conditioned g b g.condition.lamp g.condition.faults

unfoldable pub set_lamp_failure_call : Gear → Bool → Outcome
set_lamp_failure_call g b =
    conditioned g g.condition.enabled (record { failure = b; starting = g.condition.lamp.starting }) g.condition.faults

unfoldable pub set_lamp_starting_call : Gear → Bool → Outcome
set_lamp_starting_call g b =
    conditioned g g.condition.enabled (record { failure = g.condition.lamp.failure; starting = b }) g.condition.faults

unfoldable pub set_faults_call : Gear → Faults → Outcome
set_faults_call g f = conditioned g g.condition.enabled g.condition.lamp f
