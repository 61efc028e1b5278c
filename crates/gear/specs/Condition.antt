-- What no bus command sets.
use Rattle.std.specs.Prelude.{true, false}
use Rattle.gear.specs.declared.condition.Condition.{Condition}
use Rattle.gear.specs.declared.condition.Lamp.{Lamp}

abbrev pub fresh_lamp : Lamp
fresh_lamp = record { failure = false; starting = false }

abbrev pub fresh_condition : Condition
fresh_condition =
    record { enabled = true; lamp = fresh_lamp; faults = record { drop = 0; forced = 0; failure = 0; unstored = false; holds = false } }

-- enabled and the faults stay
abbrev pub reset_condition : Condition → Condition
reset_condition k = record { enabled = k.enabled; lamp = fresh_lamp; faults = k.faults }
