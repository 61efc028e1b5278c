-- `setters::set_enabled` meets its contract: the flag is stored.
use Rattle.std.proofs.Common.{rules}
use mathlib.Core.Path.{◌≡◌}
use lib.ListN.{set}
use Rattle.calls.specs.Setters.{set_enabled_call}
use Rattle.slot.specs.Image.{flag_byte, image_of}
use Rattle.engine.proofs.setters.set_enabled.Goals as goal

pub returns : goal.returns
unfolding set_enabled_call image_of
returns c =
    c.change.ensures _
    (λ l k.
    let b = c.args.slot.now in
    let put : l ≡ set b 62 (flag_byte c.args.enabled) = search rules in
    λ g h. (rw (put, h.0), h.1))
