-- `run::put_lines` meets its contract: the steps run on the record of the profile, and the last line stands behind theirs.
use mathlib.Core.Path.{ap}
use native.Mathlib.Omega.{arith}
use Prim.Native.Nat.{◌<◌}
use lib.ListN.{length}
use Rattle.std.proofs.Common.{rules}
use Rattle.file.specs.File.{steps_of}
use Rattle.runner.specs.Line.{Wrote}
use Rattle.runner.specs.Run.{count_of, first_of, text_after}
use Rattle.runner.proofs.Whole.{count_most, room_is, end_room, end_more}
use Rattle.runner.proofs.run.put_lines.Goals as goal
use Rattle.runner.proofs.run.put_lines.Goals.{After-follow-at}

pub follow-at-requires : goal.follow-at-requires
follow-at-requires c =
    let s = c.args.file.now in
    record {
      fit = c.first-gear.ensures.fit;
      few = omega (arith, ap length c.steps.ensures, count_most s);
      room = λ wanted. omega (arith, ap length c.steps.ensures, c.requires.1, room_is s);
    }

-- the lines of the steps
put :
    (c : After-follow-at) →
    Wrote c.args.out.now 0 (text_after (steps_of c.args.file.now) (first_of c.args.file.now) (count_of c.args.file.now)) c.follow-at.new.out c.follow-at.result.1
put c =
    let wanted : 0 < length c.args.out.now = omega (arith, c.requires.1, room_is c.args.file.now) in
    rw (c.steps.ensures, c.first-gear.ensures.first) at c.follow-at.ensures.lines wanted

pub put_end-requires : goal.put_end-requires
put_end-requires c = end_room c.args.file.now c.requires.1 c.follow-at.auto.out (put (goal.at.put_end-requires c).After-follow-at)

pub returns : goal.returns
returns c =
    let last = rw (c.follow-at.ensures.gear, c.steps.ensures, c.first-gear.ensures.first) at c.put_end.ensures in
    let all = end_more c.args.file.now (put (goal.at.returns c).After-follow-at) last.wrote in
    let same = c.put_end.ensures.same in
    search rules
