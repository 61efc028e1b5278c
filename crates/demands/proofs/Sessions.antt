-- The statements of specs/Sessions, proved.
use Prim.Native.Nat.{ℕ, ◌<◌}
use mathlib.Core.Path.{◌≡◌, ap}
use mathlib.Core.Bool.{true}
use mathlib.Core.List.{List}
use Rattle.demands.specs.Sessions.{Sessions, start_in, steps_in}
use Rattle.demands.proofs.Example.{example, only_step_one_caught}
use Rattle.demands.proofs.Fit.{accepted_exactly}
use Rattle.demands.proofs.ProfileAndFile.{profile_judged}
use Rattle.demands.proofs.StepByStep.{file_steps, one_outcome, rules_step_by_step}
use Rattle.file.specs.File.{byte, steps_of, well_formed}
use Rattle.file.specs.Profile.{profile_in}
use Rattle.file.proofs.Accepted.{file_accepted}
use Rattle.gear.specs.declared.answer.Outcome.{Outcome}
use Rattle.gear.specs.Record.{fresh_gear}

start_fresh : (s : List ℕ) → ((i : ℕ) → byte s i < 256) → well_formed s ≡ true → start_in s ≡ fresh_gear (profile_in s)
start_fresh s small h = ap (λ (o : Outcome). o.gear) ((profile_judged (profile_in s)).built ((accepted_exactly (profile_in s)).1 (file_accepted s small h)))

pub sessions : Sessions
sessions =
    record {
      rules = rules_step_by_step;
      steps = λ s h. (steps_in (steps_of s), file_steps s h);
      start = start_fresh;
      one_outcome = one_outcome;
      impostor = only_step_one_caught;
      example = example;
    }
