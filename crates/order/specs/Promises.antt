-- What the Rattle call of each write promises, as its own `ensures` says it, and a run through the calls.
use Rattle.std.specs.Prelude.{◌≡◌, List, [], ◌∷◌}
use Rattle.order.specs.Writes.{Write, call_of}
use Rattle.demands.specs.Promises.{Promised as PromisedCall}
use Rattle.gear.specs.declared.answer.Outcome.{Outcome}
use Rattle.gear.specs.declared.record.Gear.{Gear}

-- o is a result that the call may hand back
abbrev pub Promised : Write → Gear → Outcome → Type 0
Promised w g o = PromisedCall (call_of w) g o

-- from g, the calls of the list performed one after the other, each on the record that the one before handed back, end in h
pub data Performed : List Write → Gear → Gear → Type 0 where
  end : {g h : Gear} → g ≡ h → Performed [] g h
  step : {w : Write} {ws : List Write} {g h : Gear} (o : Outcome) → Promised w g o → Performed ws o.gear h → Performed (w ∷ ws) g h
