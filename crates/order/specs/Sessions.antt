-- A session of public calls, by what each of them promises.
use Rattle.std.specs.Prelude.{List, [], ◌∷◌}
use Rattle.demands.specs.Calls.{Call}
use Rattle.demands.specs.Promises.{Promised}
use Rattle.gear.specs.declared.answer.Outcome.{Outcome}
use Rattle.gear.specs.declared.record.Gear.{Gear}

-- the calls one after the other, each on the record that the one before handed back, and what each of them gave
pub data Session : List Call → Gear → List Outcome → Type 0 where
  end : {g : Gear} → Session [] g []
  step : {c : Call} {cs : List Call} {g : Gear} {os : List Outcome} (o : Outcome) → Promised c g o → Session cs o.gear os → Session (c ∷ cs) g (o ∷ os)
