-- Demand 3: every order of a list without a shared key leaves the same record.
use mathlib.Core.Path.{◌≡◌, ◌∙◌, ap, sym, subst₂}
use mathlib.Core.List.{List, Permᴰ}
use Rattle.order.specs.Carry.{carry}
use Rattle.order.specs.Keys.{Disjoint, Keyed, NoSharedKey}
use Rattle.order.specs.Later.{outcomes}
use Rattle.order.specs.Lists.{All, run}
use Rattle.order.specs.Order.{AnyOrder}
use Rattle.order.specs.Premises.{Listed, Ready, Strong, Worded}
use Rattle.order.specs.Promises.{Performed}
use Rattle.order.specs.Table.{row}
use Rattle.order.specs.Writes.{Write, after}
use Rattle.order.proofs.Columns.{turned}
use Rattle.order.proofs.Kept.{ready_kept}
use Rattle.order.proofs.Orders.{run_kept, same_end}
use Rattle.order.proofs.Promises.{performed_run}
use Rattle.order.proofs.Replies.{replies_alone}
use Rattle.order.proofs.Rowed.{rowed}
use Rattle.order.proofs.Sessions.{session_rules}
use Rattle.order.proofs.Swap.{carry_swap}
use Rattle.order.proofs.Tied.{tied}
use Rattle.gear.specs.declared.record.Gear.{Gear}

-- two writes without a shared key swap: each is its row, and the rows swap
pub swap : (v w : Write) (g : Gear) → Keyed v → Keyed w → NoSharedKey v w → Ready g → after w (after v g) ≡ after v (after w g)
swap v w g k m d h =
    rowed w (after v g) m (ready_kept v g k h) ∙
    ap (carry (row w)) (rowed v g k h) ∙
    carry_swap (row v) (row w) g (subst₂ Disjoint (tied v) (tied w) d) ∙
    ap (carry (row v)) (sym (rowed w g m h)) ∙
    sym (rowed v (after w g) k (ready_kept w g m h))

every_order : (g : Gear) (ws vs : List Write) → Ready g → Listed ws → Permᴰ ws vs → run after ws g ≡ run after vs g
every_order g ws vs h l p =
    same_end after Ready Keyed NoSharedKey (λ v w. turned) ready_kept swap p l.keyed l.apart g h

through_calls :
    (g x y : Gear) (ws vs : List Write) → Ready g → Listed ws → Permᴰ ws vs → Performed ws g x → Performed vs g y → x ≡ y
through_calls g x y ws vs h l p a b = performed_run a ∙ every_order g ws vs h l p ∙ sym (performed_run b)

-- no mode staged and activation on are enough
pub any_order : AnyOrder Strong
any_order =
    record {
      record_same = every_order;
      later_same = λ g ws vs h l p later. ap (outcomes later) (every_order g ws vs h l p);
      replies_same = λ g ws h l. replies_alone g ws h l.keyed l.apart;
      calls_same = through_calls;
      sessions_same =
          λ g x y ws vs h l p a b later os ps m n.
          session_rules m ∙ ap (outcomes later) (through_calls g x y ws vs h l p a b) ∙ sym (session_rules n);
    }

-- document 01's premises are stronger
pub worded_ready : (g : Gear) (ws : List Write) → Worded g ws → Ready g
worded_ready g ws h = record { fit = h.fit; unstaged = ap (λ p. p.mode) h.nothing.pending; activates = h.activates }

pub any_order_as_worded : AnyOrder Worded
any_order_as_worded =
    record {
      record_same = λ g ws vs h. any_order.record_same g ws vs (worded_ready g ws h);
      later_same = λ g ws vs h. any_order.later_same g ws vs (worded_ready g ws h);
      replies_same = λ g ws h. any_order.replies_same g ws (worded_ready g ws h);
      calls_same = λ g x y ws vs h. any_order.calls_same g x y ws vs (worded_ready g ws h);
      sessions_same = λ g x y ws vs h. any_order.sessions_same g x y ws vs (worded_ready g ws h);
    }

-- the record is ready again after the list, so that another list may follow
pub stays_ready : (g : Gear) (ws : List Write) → Ready g → All Keyed ws → Ready (run after ws g)
stays_ready g ws h k = run_kept after Ready Keyed NoSharedKey (λ v w. turned) ready_kept swap ws g k h
