-- `memory::clear_number` meets its contract: the eight bytes are stored in bank 0.
use mathlib.Core.Path.{◌≡◌}
use borrow.Rule.Slice.PartMut.{mid_of, put_mid}
use lib.ListN.{length, replicate}
use lib.Seq.{sets}
use native.Mathlib.Omega.{arith}
use Rattle.bank.specs.Setters.{clear_identification_number}
use Rattle.slot.proofs.Indexed.{identity_row}
use Rattle.slot.specs.Image.{image_of}
use Rattle.engine.proofs.memory.clear_number.Goals as goal

pub returns : goal.returns
unfolding image_of clear_identification_number
returns c =
    λ g h.
    let b = c.args.slot.now in
    let same : put_mid 406 8 b (replicate (length (mid_of 406 8 b)) 255) ≡ sets b 406 (replicate 8 255) = rw h.0 in
    rw (c.fill.ensures.after (λ y e. e), same) (identity_row (replicate 8 255) b g 11 h (omega arith))
