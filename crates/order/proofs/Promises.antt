-- What a call promises is what its rule says, so a run through the calls ends in the record that the rules give.
use mathlib.Core.Path.{◌≡◌, refl, ◌∙◌, sym, ap}
use mathlib.Core.List.{List, [], ◌∷◌}
use Rattle.order.specs.Lists.{run}
use Rattle.order.specs.Promises.{Performed, Promised}
use Rattle.order.specs.Writes.{Write, after, call_of, perform}
use Rattle.demands.proofs.Promises.{promised_rule as rule-of-call, rule_promised as call-of-rule}
use Rattle.gear.specs.declared.answer.Outcome.{Outcome}
use Rattle.gear.specs.declared.record.Gear.{Gear}

pub promised_rule : (w : Write) (g : Gear) (o : Outcome) → Promised w g o → o ≡ perform w g
unfolding perform
promised_rule w g o p = rule-of-call (call_of w) g o p

pub performed_run : {ws : List Write} {g h : Gear} → Performed ws g h → h ≡ run after ws g
unfolding run
performed_run (Performed.end e) = sym e
performed_run (Performed.step {w = w} {ws = ws} {g = g} o p rest) = performed_run rest ∙ ap (λ x. run after ws x.gear) (promised_rule w g o p)

-- the rules' own run is one, so that the statement is not empty
pub rule_promised : (w : Write) (g : Gear) → Promised w g (perform w g)
unfolding perform
rule_promised w g = call-of-rule (call_of w) g

pub run_performed : (ws : List Write) (g : Gear) → Performed ws g (run after ws g)
unfolding run
run_performed [] g = Performed.end refl
run_performed (w ∷ ws) g = Performed.step (perform w g) (rule_promised w g) (run_performed ws (after w g))
