-- One outcome of every public function of level, by its own promise (`Post`, the function's `ensures`).
use Rattle.demands.specs.Outcome.{OneOutcome}
use Rattle.demands.proofs.Outcome.{determined}
use Rattle.level.proofs.arc
use Rattle.level.proofs.levels

pub arc::apply_arc : OneOutcome arc.apply_arc.Reads.Post
arc::apply_arc κs args r r' e e' = determined

pub «levels::Levels::fresh» : OneOutcome levels.Levels.fresh.Reads.Post
«levels::Levels::fresh» κs args r r' e e' = determined

pub levels::Levels::power_up : OneOutcome levels.Levels.power_up.Reads.Post
levels::Levels::power_up κs args r r' e e' = determined

pub levels::Levels::set_level : OneOutcome levels.Levels.set_level.Reads.Post
levels::Levels::set_level κs args r r' e e' = determined

pub levels::Levels::set_min_level : OneOutcome levels.Levels.set_min_level.Reads.Post
levels::Levels::set_min_level κs args r r' e e' = determined

pub levels::Levels::set_max_level : OneOutcome levels.Levels.set_max_level.Reads.Post
levels::Levels::set_max_level κs args r r' e e' = determined

pub «levels::Levels::fit» : OneOutcome levels.Levels.fit.Reads.Post
«levels::Levels::fit» κs args r r' e e' = determined
