-- `pairing::heard_elsewhere` meets its contract: the walk ends, then the pair; what was open is read before.
use mathlib.Core.Path.{refl}
use Rattle.std.specs.Prelude.{None}
use Rattle.engine.proofs.Waiting.{is_open_is}
use Rattle.engine.specs.Works.{hear_elsewhere}
use Rattle.gear.specs.Marks.{walk_fit, with_walk}
use Rattle.gear.specs.Parts.{with_marks}
use Rattle.slot.specs.Image.{image_of}
use Rattle.engine.proofs.pairing.heard_elsewhere.Goals as goal

pub returns : goal.returns
unfolding image_of walk_fit hear_elsewhere
returns c =
    record {
      does =
          λ g h.
          c.put_pair.ensures (with_marks g (with_walk g.marks None))
          (rw h.0, (h.1.0, refl, h.1.2, h.1.3, h.1.4, h.1.5));
      tells = λ g h. rw (c.flag-answer.ensures, c.is_some.ensures, is_open_is, c.pair.ensures g h);
    }
