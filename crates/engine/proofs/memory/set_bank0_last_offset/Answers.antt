-- `memory::set_bank0_last_offset` meets its contract: the byte is stored in bank 0.
use Rattle.std.proofs.Common.{rules}
use mathlib.Core.Path.{◌≡◌}
use lib.ListN.{set}
use native.Mathlib.Omega.{arith}
use Rattle.bank.specs.Setters.{set_bank0_last_offset}
use Rattle.calls.specs.Memory.{rebanked, set_last_call}
use Rattle.slot.proofs.Indexed.{identity_stored}
use Rattle.engine.proofs.memory.set_bank0_last_offset.Goals as goal

pub returns : goal.returns
unfolding set_last_call rebanked set_bank0_last_offset
returns c =
    c.change.ensures _
    (λ l k.
    let b = c.args.slot.now in
    let put : l ≡ set b 395 c.args.last = search rules in
    λ g h. rw put (identity_stored b g h 0 c.args.last (omega arith)))
