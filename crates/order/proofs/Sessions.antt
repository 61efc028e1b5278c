-- What a call promises is what its rule says, so a session through the calls gives what the rules give.
use mathlib.Core.Path.{◌≡◌, refl, ◌∙◌, ap}
use mathlib.Core.List.{List, [], ◌∷◌}
use Rattle.order.specs.Later.{outcomes}
use Rattle.order.specs.Sessions.{Session}
use Rattle.demands.proofs.Promises.{promised_rule, rule_promised}
use Rattle.demands.specs.Calls.{Call, perform}
use Rattle.gear.specs.declared.answer.Outcome.{Outcome}
use Rattle.gear.specs.declared.record.Gear.{Gear}

pub session_rules : {cs : List Call} {g : Gear} {os : List Outcome} → Session cs g os → os ≡ outcomes cs g
unfolding outcomes
session_rules Session.end = refl
session_rules (Session.step {c = c} {cs = cs} {g = g} o p rest) =
    ap (λ os. o ∷ os) (session_rules rest) ∙ ap (λ (x : Outcome). x ∷ outcomes cs x.gear) (promised_rule c g o p)

-- the rules' own session is one, so that nothing is said of an empty set
pub rules_session : (cs : List Call) (g : Gear) → Session cs g (outcomes cs g)
unfolding outcomes
rules_session [] g = Session.end
rules_session (c ∷ cs) g = Session.step (perform c g) (rule_promised c g) (rules_session cs (perform c g).gear)
