-- One outcome of every public function of borrowed, by its own promise (`Post`, the function's `ensures`).
use Rattle.demands.specs.Outcome.{OneOutcome, OneSeen}
use Rattle.demands.proofs.Outcome.{determined}
use Rattle.borrowed.proofs.power_cycle
use Rattle.borrowed.proofs.write

pub borrowed::write : OneOutcome write.Reads.Post
borrowed::write κs args r r' e e' p q = determined p.0 q.0

pub borrowed::write_gear : OneSeen (λ κs r e. e.0.now) write.Reads.Post
borrowed::write_gear κs args r r' e e' p q = determined p.1 q.1

pub borrowed::power_cycle : OneOutcome power_cycle.Reads.Post
borrowed::power_cycle κs args r r' e e' p q = determined p.0 q.0

pub borrowed::power_cycle_gear : OneSeen (λ κs r e. e.0.now) power_cycle.Reads.Post
borrowed::power_cycle_gear κs args r r' e e' p q = determined p.1 q.1
