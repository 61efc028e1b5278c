-- The statements of specs/Demands, proved.
use mathlib.Core.Path.{subst, sym, fun_ext}
use Rattle.demands.specs.Absent.{Absent}
use Rattle.demands.specs.Calls.{Behaviour, Call, perform}
use Rattle.demands.specs.Demands.{Demanded, Demands}
use Rattle.demands.specs.LastOffset.{LastOffset}
use Rattle.demands.specs.Promises.{Promised}
use Rattle.demands.specs.Scenes.{TwoArrays}
use Rattle.demands.proofs.Absent.{absent, host_absent}
use Rattle.demands.proofs.Blind.{keeps_blind}
use Rattle.demands.proofs.Exactly.{exactly}
use Rattle.demands.proofs.Fit.{accepted_exactly, fit_exactly}
use Rattle.demands.proofs.Given.{refusals}
use Rattle.demands.proofs.Host.{host}
use Rattle.demands.proofs.Impostors.{caught}
use Rattle.demands.proofs.Kept.{keeps_fit, keeps_bounds}
use Rattle.demands.proofs.LastOffset.{bank_reads, last_offset}
use Rattle.demands.proofs.PowerCycle.{power_cycle_breaks}
use Rattle.demands.proofs.Promises.{promised_rule, rule_promised}
use Rattle.demands.proofs.Readings.{readings}
use Rattle.demands.proofs.Runs.{runs}
use Rattle.demands.proofs.Scenes.{fresh_arrays, paired, two_arrays}
use Rattle.demands.proofs.Sessions.{sessions}
use Rattle.demands.proofs.Steps.{stepped, step_exactly, unlisted_exactly}
use Rattle.gear.specs.declared.record.Gear.{Gear}

pub rules_demanded : Demanded perform
rules_demanded =
    record {
      exactly = exactly;
      refusals = refusals;
      keeps_fit = keeps_fit;
      keeps_bounds = keeps_bounds;
      power_cycle = power_cycle_breaks;
      keeps_blind = keeps_blind;
      readings = readings;
    }

-- functions that meet their promises give what the rules give, on every call and record; so what is true of the rules is true of them
by_promise : (Claim : Behaviour → Type 0) → Claim perform → (f : Behaviour) → ((c : Call) (g : Gear) → Promised c g (f c g)) → Claim f
by_promise Claim true-of-rules f promised =
    subst Claim (sym (fun_ext (λ c. fun_ext (λ g. promised_rule c g (f c g) (promised c g))))) true-of-rules

pub promised_demanded : (f : Behaviour) → ((c : Call) (g : Gear) → Promised c g (f c g)) → Demanded f
promised_demanded = by_promise Demanded rules_demanded

pub promised_last_offset : (f : Behaviour) → ((c : Call) (g : Gear) → Promised c g (f c g)) → LastOffset f
promised_last_offset = by_promise LastOffset last_offset

pub promised_absent : (f : Behaviour) → ((c : Call) (g : Gear) → Promised c g (f c g)) → Absent f
promised_absent = by_promise Absent absent

pub promised_two_arrays : (f : Behaviour) → ((c : Call) (g : Gear) → Promised c g (f c g)) → TwoArrays f
promised_two_arrays = by_promise TwoArrays two_arrays

pub demands : Demands
demands =
    record {
      by_the_rules =
          record {
            demanded = rules_demanded;
            accepted_exactly = accepted_exactly;
            fit_exactly = fit_exactly;
            steps = stepped;
            step_kinds = unlisted_exactly;
            step_exactly = step_exactly;
            sessions = sessions;
            impostors = caught;
            last_offset = last_offset;
            absent = absent;
            two_arrays = two_arrays;
            fresh_arrays = fresh_arrays;
            paired = paired;
          };
      by_the_promises =
          record {
            demanded = promised_demanded;
            rule = rule_promised;
            new = λ p o promise. promise;
            step_exactly = λ g kind a b c o promise. rw promise (step_exactly g kind a b c);
            runs = runs;
            host = host;
            last_offset = promised_last_offset;
            bank_reads = bank_reads;
            absent = promised_absent;
            host_absent = host_absent;
            two_arrays = promised_two_arrays;
          };
    }
