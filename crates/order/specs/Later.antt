-- Whatever follows: any sequence of the public calls that take a record, and what each of them gives.
use Rattle.std.specs.Prelude.{List, [], ◌∷◌}
use Rattle.demands.specs.Calls.{Call, perform}
use Rattle.gear.specs.declared.answer.Outcome.{Outcome}
use Rattle.gear.specs.declared.record.Gear.{Gear}

-- for each its answer, and the record that it leaves
unfoldable pub outcomes : List Call → Gear → List Outcome
outcomes [] g = []
outcomes (c ∷ cs) g = perform c g ∷ outcomes cs (perform c g).gear
