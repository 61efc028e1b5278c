-- `ask::ask` meets its contract: the steps run on the record of the profile, and one more on what they leave.
use native.Mathlib.Omega.{arith}
use mathlib.Core.Path.{◌≡◌, ap, ◌∙◌}
use lib.ListN.{length}
use Rattle.std.proofs.Common.{rules}
use Rattle.gear.specs.declared.record.Gear.{Gear}
use Rattle.runner.specs.Ask.{asked}
use Rattle.runner.specs.Run.{answer_after, last_of, performed, state_after}
use Rattle.runner.proofs.Whole.{count_most}
use Rattle.step.specs.Step.{step}
use Rattle.runner.proofs.ask.ask.Goals as goal

pub follow-requires : goal.follow-requires
follow-requires c = record {
  fit = c.first-gear.ensures.fit;
  few = omega (arith, ap length c.steps.ensures, count_most c.args.file.now);
  room = λ wanted. absurd (omega arith);
}

pub returns : goal.returns
unfolding answer_after state_after performed asked
returns c =
    let a = c.args in
    let last : c.follow.new.gear ≡ last_of a.file.now = rw (← c.steps.ensures, ← c.first-gear.ensures.first) c.follow.ensures.gear in
    let answer : c.follow-2.result.0 ≡ (step (last_of a.file.now) a.kind a.a a.b a.c).answer =
    c.follow-2.ensures.answer (omega arith) ∙ ap (λ (g : Gear). (step g a.kind a.a a.b a.c).answer) last in
    search rules
