-- `memory::set_logical_gear_unit` meets its contract: both bytes are stored in bank 0.
use Rattle.std.proofs.Common.{rules}
use mathlib.Core.List.{[], ◌∷◌}
use mathlib.Core.Path.{◌≡◌}
use lib.ListN.{set}
use native.Mathlib.Omega.{arith}
use Rattle.bank.specs.Setters.{set_logical_gear_unit}
use Rattle.calls.specs.Memory.{rebanked, set_unit_call}
use Rattle.slot.proofs.Indexed.{identity_row}
use Rattle.engine.proofs.memory.set_logical_gear_unit.Goals as goal

pub returns : goal.returns
unfolding set_unit_call rebanked set_logical_gear_unit
returns c =
    c.change.ensures _
    (λ l k.
    let b = c.args.slot.now in
    let put : l ≡ set (set b 420 c.args.units) 421 c.args.index = search rules in
    λ g h. rw put (identity_row (c.args.units ∷ c.args.index ∷ []) b g 25 h (omega arith)))
