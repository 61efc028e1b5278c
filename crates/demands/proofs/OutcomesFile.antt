-- One outcome of every public function of file, by its own promise (`Post`, the function's `ensures`).
-- A section is a part of the lent file, a reference: its bytes (`now`) are the outcome, since a promise can't say which of several places
-- with the same bytes is shown.
use Rattle.demands.specs.Outcome.{OneOutcome, OneSeen}
use Rattle.demands.proofs.Outcome.{determined}
use Rattle.file.proofs.check
use Rattle.file.proofs.profile
use Rattle.file.proofs.profile_of
use Rattle.file.proofs.steps
use Rattle.file.proofs.types

pub «file::check» : OneOutcome check.Reads.Post
«file::check» κs args r r' e e' = determined

pub «file::types» : OneSeen (λ κs r e. r.now) types.Reads.Post
«file::types» κs args r r' e e' = determined

pub «file::profile» : OneSeen (λ κs r e. r.now) profile.Reads.Post
«file::profile» κs args r r' e e' = determined

pub «file::steps» : OneSeen (λ κs r e. r.now) steps.Reads.Post
«file::steps» κs args r r' e e' = determined

pub file::profile_of : OneOutcome profile_of.Reads.Post
file::profile_of κs args r r' e e' = determined
