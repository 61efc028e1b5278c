-- One outcome of every public function of runner, by its own promise (`Post`, the function's `ensures`).
-- `run` and `report` write to a lent buffer too: what it holds at exit is an outcome besides.
use Rattle.demands.specs.Outcome.{OneOutcome, OneSeen}
use Rattle.demands.proofs.Outcome.{determined}
use Rattle.runner.proofs.ask
use Rattle.runner.proofs.run

pub «ask::ask» : OneOutcome ask.ask.Reads.Post
«ask::ask» κs args r r' e e' = determined

pub «run::room» : OneOutcome run.room.Reads.Post
«run::room» κs args r r' e e' = determined

pub «run::RunErrorFromMalformed::from» : OneOutcome run.RunErrorFromMalformed.from.Reads.Post
«run::RunErrorFromMalformed::from» κs args r r' e e' = determined

pub «run::run» : OneOutcome run.run.Reads.Post
«run::run» κs args r r' e e' p q = determined p.0 q.0

pub «run::run-out» : OneSeen (λ κs r e. e.1.0.now) run.run.Reads.Post
«run::run-out» κs args r r' e e' p q = determined p.1.0 q.1.0

pub «run::report» : OneOutcome run.report.Reads.Post
«run::report» κs args r r' e e' p q = determined p.0 q.0

pub «run::report-out» : OneSeen (λ κs r e. e.1.0.now) run.report.Reads.Post
«run::report-out» κs args r r' e e' p q = determined p.1.0 q.1.0
