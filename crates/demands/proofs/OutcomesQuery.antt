-- One outcome of every public function of query, by its own promise (`Post`, the function's `ensures`).
use Rattle.demands.specs.Outcome.{OneOutcome}
use Rattle.demands.proofs.Outcome.{determined}
use Rattle.query.proofs.bits
use Rattle.query.proofs.heard
use Rattle.query.proofs.lamp
use Rattle.query.proofs.reply
use Rattle.query.proofs.status
use Rattle.query.proofs.told

pub «bits::eight» : OneOutcome bits.eight.Reads.Post
«bits::eight» κs args r r' e e' = determined

pub «heard::walked» : OneOutcome heard.walked.Reads.Post
«heard::walked» κs args r r' e e' = determined

pub «heard::reports» : OneOutcome heard.reports.Reads.Post
«heard::reports» κs args r r' e e' = determined

pub «heard::shown» : OneOutcome heard.shown.Reads.Post
«heard::shown» κs args r r' e e' = determined

pub «heard::level_told» : OneOutcome heard.level_told.Reads.Post
«heard::level_told» κs args r r' e e' = determined

pub lamp::thermal_shut_down : OneOutcome lamp.thermal_shut_down.Reads.Post
lamp::thermal_shut_down κs args r r' e e' = determined

pub lamp::lamp_failure_from_207 : OneOutcome lamp.lamp_failure_from_207.Reads.Post
lamp::lamp_failure_from_207 κs args r r' e e' = determined

pub lamp::lamp_on : OneOutcome lamp.lamp_on.Reads.Post
lamp::lamp_on κs args r r' e e' = determined

pub lamp::actual_level_answer : OneOutcome lamp.actual_level_answer.Reads.Post
lamp::actual_level_answer κs args r r' e e' = determined

pub reply::gear_query_reply : OneOutcome reply.gear_query_reply.Reads.Post
reply::gear_query_reply κs args r r' e e' = determined

pub status::status_byte : OneOutcome status.status_byte.Reads.Post
status::status_byte κs args r r' e e' = determined

pub «told::Seen::of» : OneOutcome told.Seen.of.Reads.Post
«told::Seen::of» κs args r r' e e' = determined

pub told::query_answer : OneOutcome told.query_answer.Reads.Post
told::query_answer κs args r r' e e' = determined
