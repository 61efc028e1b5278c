-- One outcome of every function that a host calls, by its own promise (`Post`, the function's `ensures`): the code, and what the
-- detail and the buffer hold at exit.
use Rattle.demands.specs.Outcome.{OneOutcome, OneSeen}
use Rattle.demands.proofs.Outcome.{determined}
use Rattle.dali_gear.proofs.dali_gear_ask
use Rattle.dali_gear.proofs.dali_gear_check
use Rattle.dali_gear.proofs.dali_gear_report
use Rattle.dali_gear.proofs.dali_gear_room
use Rattle.dali_gear.proofs.dali_gear_run

pub dali_gear::dali_gear_check : OneOutcome dali_gear_check.Reads.Post
dali_gear::dali_gear_check κs args r r' e e' p q = determined p.0 q.0

pub dali_gear::dali_gear_check_detail : OneSeen (λ κs r e. e.1.0.now) dali_gear_check.Reads.Post
dali_gear::dali_gear_check_detail κs args r r' e e' p q = determined p.1 q.1

pub dali_gear::dali_gear_room : OneOutcome dali_gear_room.Reads.Post
dali_gear::dali_gear_room κs args r r' e e' = determined

pub dali_gear::dali_gear_run : OneOutcome dali_gear_run.Reads.Post
dali_gear::dali_gear_run κs args r r' e e' p q = determined p.0 q.0

pub dali_gear::dali_gear_run_out : OneSeen (λ κs r e. e.1.0.now) dali_gear_run.Reads.Post
dali_gear::dali_gear_run_out κs args r r' e e' p q = determined p.1.1 q.1.1

pub dali_gear::dali_gear_run_detail : OneSeen (λ κs r e. e.1.1.0.now) dali_gear_run.Reads.Post
dali_gear::dali_gear_run_detail κs args r r' e e' p q = determined p.1.0 q.1.0

pub dali_gear::dali_gear_report : OneOutcome dali_gear_report.Reads.Post
dali_gear::dali_gear_report κs args r r' e e' p q = determined p.0 q.0

pub dali_gear::dali_gear_report_out : OneSeen (λ κs r e. e.1.0.now) dali_gear_report.Reads.Post
dali_gear::dali_gear_report_out κs args r r' e e' p q = determined p.1.1 q.1.1

pub dali_gear::dali_gear_report_detail : OneSeen (λ κs r e. e.1.1.0.now) dali_gear_report.Reads.Post
dali_gear::dali_gear_report_detail κs args r r' e e' p q = determined p.1.0 q.1.0

pub dali_gear::dali_gear_ask : OneOutcome dali_gear_ask.Reads.Post
dali_gear::dali_gear_ask κs args r r' e e' p q = determined p.0 q.0

pub dali_gear::dali_gear_ask_detail : OneSeen (λ κs r e. e.1.1.1.1.1.0.now) dali_gear_ask.Reads.Post
dali_gear::dali_gear_ask_detail κs args r r' e e' p q = determined p.1 q.1
