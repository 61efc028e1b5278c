-- `follow::follow` meets its contract: after k turns the record is that of k steps, and fit, and the buffer has their lines.
use mathlib.Core.Path.{◌≡◌, refl, sym, ap, ◌∙◌}
use native.Mathlib.Omega.{arith}
use Prim.Native.Nat.{◌<◌}
use lib.ListN.{length}
use Rattle.std.proofs.lemmas.Bool.{lt-ltb}
use Rattle.gear.specs.Record.{fitb}
use Rattle.gear.specs.declared.answer.Outcome.{Outcome}
use Rattle.step.specs.Kinds.{taken}
use Rattle.runner.specs.Run.{answer_after, performed, state_after}
use Rattle.runner.proofs.Running.{told, turn, turn_fit, state_more, answer_more, line_more, line_none, number_room, answer_room}
use Rattle.runner.proofs.follow.follow.Goals as goal
use Rattle.runner.proofs.follow.follow.Goals.{After-perform-answer}

-- what the rule makes of step k on the record so far
done :
    (c : After-perform-answer) →
    taken c.loop-k.gear c.step_of.result ≡
    performed c.args.steps.now (state_after c.args.steps.now c.args.gear.now c.loop-k.k) c.loop-k.k
done c =
    turn c.args.steps.now c.args.gear.now c.loop-k.k c.as_chunks.ensures.front (omega (arith, c.as_chunks.ensures.front_len))
    c.loop-k.invariant.state refl c.step_of.ensures

answered : (c : After-perform-answer) → 0 < length c.args.out.now → c.perform-answer.result ≡ told c.args.steps.now c.args.gear.now c.loop-k.k
answered c some =
    c.perform-answer.ensures.answer (c.wanted.ensures ∙ lt-ltb 0 _ (omega (arith, some, c.start_line.ensures.size, c.loop-k.invariant.size))) ∙
    ap (λ (o : Outcome). o.answer) (done c)

pub loop-k-init : goal.loop-k-init
unfolding state_after answer_after
loop-k-init c = record {
  state = refl;
  answer = λ wanted. refl;
  fit = c.requires.fit;
  lines = λ wanted. line_none c.args.steps.now c.args.gear.now (let room = c.requires.room wanted in omega arith);
  size = refl;
}

pub start_line-requires : goal.start_line-requires
start_line-requires c =
    λ here.
    let wanted : 0 < length c.args.out.now = omega (arith, here, c.loop-k.invariant.size) in
    number_room c.args.steps.now c.args.gear.now c.loop-k.k (omega (arith, c.as_chunks.ensures.front_len)) c.requires.few
    (let room = c.requires.room wanted in omega arith) (c.loop-k.invariant.lines wanted)

pub end_line-requires : goal.end_line-requires
end_line-requires c =
    λ here.
    let size = c.start_line.ensures.size in
    let before : 0 < length c.loop-k.lines.out.now = omega (arith, here, size) in
    let wanted : 0 < length c.args.out.now = omega (arith, before, c.loop-k.invariant.size) in
    rw (answered (goal.at.end_line-requires c).After-perform-answer wanted)
    (answer_room c.args.steps.now c.args.gear.now c.loop-k.k (omega (arith, c.as_chunks.ensures.front_len)) c.requires.few
    (let room = c.requires.room wanted in omega arith) (c.loop-k.invariant.lines wanted) (c.start_line.ensures.lines before))

pub loop-k-preserved : goal.loop-k-preserved
loop-k-preserved c =
    let steps = c.args.steps.now in
    let g = c.args.gear.now in
    let k = c.loop-k.k in
    let so_far = c.loop-k.invariant in
    let at = (goal.at.loop-k-preserved c).After-perform-answer in
    let left = c.perform-answer.ensures.gear ∙ ap (λ (o : Outcome). o.gear) (done at) in
    record {
      state = left ∙ sym (state_more steps g k);
      answer = λ wanted. answered at wanted ∙ sym (answer_more steps g k);
      fit =
          ap fitb c.perform-answer.ensures.gear ∙
          turn_fit steps g k (λ i. omega (arith, c.type_inv.steps i)) so_far.fit so_far.state (done at);
      lines =
          λ wanted.
          let before : 0 < length c.loop-k.lines.out.now = omega (arith, wanted, so_far.size) in
          let middle : 0 < length c.start_line.new.self.out.now = omega (arith, before, c.start_line.ensures.size) in
          line_more steps g k (so_far.lines wanted) (c.start_line.ensures.lines before) (rw (answered at wanted) at (c.end_line.ensures.lines middle));
      size = c.end_line.ensures.size ∙ c.start_line.ensures.size ∙ so_far.size;
    }
