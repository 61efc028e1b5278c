-- The rules satisfy demand 3, and so does an impostor that ignores writes.
use mathlib.Core.Path.{◌≡◌, refl, sym, ◌∙◌}
use mathlib.Core.Bool.{Bool, true}
use mathlib.Core.List.{List, [], ◌∷◌}
use Rattle.order.specs.Ignored.{OrdersAlone, after_by}
use Rattle.order.specs.Lists.{run}
use Rattle.order.specs.Writes.{Write, call_of, perform}
use Rattle.order.proofs.EveryOrder.{any_order}
use Rattle.demands.specs.Calls.{Call}
use Rattle.demands.specs.Impostors.{ignores}
use Rattle.gear.specs.declared.record.Gear.{Gear}

stays :
    (which : Call → Bool) → ((w : Write) → which (call_of w) ≡ true) → (ws : List Write) (g : Gear) → run (after_by (ignores which)) ws g ≡ g
unfolding run
stays which all [] g = refl
stays which all (w ∷ ws) g = rw (all w) (stays which all ws g)

pub orders_alone : OrdersAlone
unfolding perform
orders_alone =
    record {
      rules = any_order.record_same;
      ignoring = λ which all g ws vs h l p. stays which all ws g ∙ sym (stays which all vs g);
    }
