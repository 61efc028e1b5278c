-- One outcome of every public function of step, by its own promise (`Post`, the function's `ensures`).
use Rattle.demands.specs.Outcome.{OneOutcome}
use Rattle.demands.proofs.Outcome.{determined}
use Rattle.step.proofs.kind
use Rattle.step.proofs.step
use Rattle.step.proofs.temperature

pub «step::temperature» : OneOutcome temperature.Reads.Post
«step::temperature» κs args r r' e e' = determined

pub «step::step» : OneOutcome step.Reads.Post
«step::step» κs args r r' e e' = determined

pub kind::step_of : OneOutcome kind.step_of.Reads.Post
kind::step_of κs args r r' e e' = determined
