-- `power::power_cycle` meets its contract: a held record is power-cycled.
use Rattle.std.proofs.Common.{rules}
use Rattle.calls.specs.Power.{power_cycle_call}
use Rattle.engine.proofs.power.power_cycle.Goals as goal

pub returns : goal.returns
unfolding power_cycle_call
returns c = c.change.ensures _ (λ l k. search rules)
