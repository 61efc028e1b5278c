-- Demand 3: writes without a common key may be sent in any order. The statement; proofs/EveryOrder.antt proves it twice.
use Rattle.std.specs.Prelude.{◌≡◌}
use mathlib.Core.List.{List, Permᴰ, map}
use Rattle.order.specs.Later.{outcomes}
use Rattle.demands.specs.Calls.{Call}
use Rattle.order.specs.Lists.{run}
use Rattle.order.specs.Premises.{Listed}
use Rattle.order.specs.Promises.{Performed}
use Rattle.order.specs.Sessions.{Session}
use Rattle.order.specs.Writes.{Write, after, perform, replies}
use Rattle.gear.specs.declared.answer.Outcome.{Outcome}
use Rattle.gear.specs.declared.record.Gear.{Gear}

-- For every record and every list that meet the premise, where each write of the list has a key and no two share one, and
-- for every order of the list:
pub record AnyOrder (Premise : Gear → List Write → Type 0) : Type 0 where
  -- the record in the end is the same
  pub record_same : (g : Gear) (ws vs : List Write) → Premise g ws → Listed ws → Permᴰ ws vs → run after ws g ≡ run after vs g
  -- every later query and call gives the same answer and leaves the same record, for any sequence of them
  pub later_same :
      (g : Gear) (ws vs : List Write) → Premise g ws → Listed ws → Permᴰ ws vs → (later : List Call) →
      outcomes later (run after ws g) ≡ outcomes later (run after vs g)
  -- each write of the list answers as it would first, wherever it stands
  pub replies_same : (g : Gear) (ws : List Write) → Premise g ws → Listed ws → replies ws g ≡ map (λ w. (perform w g).answer) ws
  -- for the Rattle calls themselves, by their own promises: the list performed through them hands back equal records
  pub calls_same :
      (g h k : Gear) (ws vs : List Write) → Premise g ws → Listed ws → Permᴰ ws vs → Performed ws g h → Performed vs g k → h ≡ k
  -- and after it every session of later calls through them gives equal results, one by one
  pub sessions_same :
      (g h k : Gear) (ws vs : List Write) → Premise g ws → Listed ws → Permᴰ ws vs → Performed ws g h → Performed vs g k →
      (later : List Call) (os ps : List Outcome) → Session later h os → Session later k ps → os ≡ ps
