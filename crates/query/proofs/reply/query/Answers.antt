-- `reply::query` meets its contract: `query_tells` says what is answered, and `query_walks` what the parts of the record become.
use mathlib.Core.Path.{ap₂, sym}
use Rattle.gear.specs.declared.record.Gear.{Gear}
use Rattle.gear.specs.Answer.{Answer}
use Rattle.query.proofs.Parts.{query_tells, query_walks}
use Rattle.query.proofs.reply.query.Goals as goal

pub returns : goal.returns
returns c =
    let args = c.args in
    simp (c.query_answer.ensures, c.of.ensures, c.scene_at-scene.ensures, c.reported.ensures, c.walked.ensures)
    (ap₂ (λ (a : Answer) (x : Gear). record { answer = a; gear = x }) (sym (query_tells args.gear args.byte)) (sym (query_walks args.gear args.byte)))
