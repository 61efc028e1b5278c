-- `write::direct_arc_power` meets its contract: on an image of a fit record it is the arc write.
use Rattle.std.proofs.Common.{rules}
use Rattle.gear.specs.Write.{direct_arc_power}
use Rattle.engine.proofs.write.direct_arc_power.Goals as goal

pub returns : goal.returns
unfolding direct_arc_power
returns c = c.change.ensures _ (λ l k. search rules)
