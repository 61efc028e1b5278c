use Rattle.std.proofs.Common.{◌≡◌, ◌<◌, length, true}
use Rattle.gear.specs.Record.{fitb}
use Rattle.runner.specs.Lines.{Put}
use Rattle.runner.specs.Run.{answer_after, state_after, text_after}
use Rattle.runner.proofs.follow.follow.Given as goal

-- the record is that of the steps so far, and fit, and their lines are put, where there is a buffer
abbrev pub invariant-loop-k : goal.invariant-loop-k
invariant-loop-k l = record {
  state : l.gear ≡ state_after l.steps l.fn.gear l.k;
  answer : 0 < length l.initial.lines.out.now → l.answer ≡ answer_after l.steps l.fn.gear l.k;
  fit : fitb l.gear ≡ true;
  lines : 0 < length l.initial.lines.out.now → Put l.initial.lines (text_after l.steps l.fn.gear l.k) l.lines;
  size : length l.lines.out.now ≡ length l.initial.lines.out.now;
}
