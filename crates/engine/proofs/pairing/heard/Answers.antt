-- `pairing::heard` meets its contract: the frame completes the pair that waits for it, or waits itself.
use Rattle.calls.specs.Pairing.{hear}
use Rattle.engine.proofs.Waiting.{is_open_is, waiting_is, waits_is}
use Rattle.engine.proofs.pairing.heard.Goals as goal

pub returns-then-eq : goal.returns-then-eq
unfolding hear
returns-then-eq c =
    let at = c in
    record {
      does = λ g h. rw (waits_is, ← at.pair-waiting.ensures g h, ← at.eq.ensures, at.if-eq.true) (c.put_pair.ensures g h);
      tells = λ g h. rw (waits_is, ← at.pair-waiting.ensures g h, ← at.eq.ensures, at.if-eq.true);
    }

pub returns : goal.returns
unfolding hear
returns c =
    let at = c in
    record {
      does =
          λ g h.
          rw (waits_is, waiting_is, ← at.pair-waiting.ensures g h, ← at.eq.ensures, at.if-eq.false)
          (rw c.then_some.ensures at c.put_pair-2.ensures g h);
      tells =
          λ g h.
          rw (waits_is, is_open_is, ← at.pair-waiting.ensures g h, ← at.eq.ensures, at.if-eq.false)
          (rw (at.heard_answer-answer.ensures, at.is_some.ensures));
    }
