-- What some colour values need of a gear, and the number of each such need.
use Rattle.std.specs.Prelude.{ℕ, Bool, ltb}
use Rattle.colour.specs.declared.capability.Capability.{Capability}
use Rattle.colour.specs.declared.capability.Capability.TheVariants.{Xy, Tc, Channels}
use Rattle.colour.specs.declared.record.Capabilities.{Capabilities}

abbrev pub has : Capabilities → Capability → Bool
has can Xy = can.xy
has can Tc = can.tc
has can Channels = ltb 0 can.channels

abbrev pub capability_number : Capability → ℕ
capability_number Xy = 1
capability_number Tc = 2
capability_number Channels = 3
