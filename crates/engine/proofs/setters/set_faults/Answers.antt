-- `setters::set_faults` meets its contract: the five faults are stored.
use Rattle.std.proofs.Common.{rules}
use Prim.Native.Nat.{◌/◌, ◌%◌}
use mathlib.Core.Path.{◌≡◌}
use lib.ListN.{set}
use Rattle.calls.specs.Setters.{set_faults_call}
use Rattle.slot.specs.Image.{flag_byte, image_of}
use Rattle.engine.proofs.setters.set_faults.Goals as goal

pub returns : goal.returns
unfolding set_faults_call image_of
returns c =
    c.change.ensures _
    (λ l k.
    let b = c.args.slot.now in
    let put : l ≡ set (set (set (set (set (set b 65 (flag_byte c.args.faults.unstored)) 66 (flag_byte c.args.faults.holds)) 69 c.args.faults.forced) 70 c.args.faults.failure) 71 (c.args.faults.drop % 256)) 72 (c.args.faults.drop / 256) = search rules in
    λ g h. (rw (put, h.0), h.1))
