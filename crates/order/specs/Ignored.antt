-- An impostor that ignores writes satisfies any claim about orders (document 01, 'What each call owes'). So demand 3 says nothing by
-- itself: it is stated over the rules, and demand 2 holds the calls to these.
use Rattle.std.specs.Prelude.{◌≡◌, Bool, true}
use mathlib.Core.List.{List, Permᴰ}
use Rattle.order.specs.Lists.{run}
use Rattle.order.specs.Premises.{Listed, Ready}
use Rattle.order.specs.Writes.{Write, call_of}
use Rattle.demands.specs.Calls.{Behaviour, Call, perform}
use Rattle.demands.specs.Impostors.{ignores}
use Rattle.gear.specs.declared.record.Gear.{Gear}

-- demand 3 of calls that behave in some way
abbrev pub after_by : Behaviour → Write → Gear → Gear
after_by f w g = (f (call_of w) g).gear

abbrev pub OrdersAgree : Behaviour → Type 0
OrdersAgree f =
    (g : Gear) (ws vs : List Write) → Ready g → Listed ws → Permᴰ ws vs → run (after_by f) ws g ≡ run (after_by f) vs g

pub record OrdersAlone : Type 0 where
  pub rules : OrdersAgree perform
  -- whatever else it ignores
  pub ignoring : (which : Call → Bool) → ((w : Write) → which (call_of w) ≡ true) → OrdersAgree (ignores which)
