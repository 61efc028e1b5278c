-- `memory::advances` meets its contract: past a location that answers, or past any of a bank.
use mathlib.Core.Path.{ap, sym, ◌∙◌}
use Rattle.std.specs.Prelude.{is_some}
use Rattle.bank.specs.Memory.{advances_dtr0_past}
use Rattle.slot.proofs.Read.{part}
use Rattle.slot.specs.Record.{gear_of}
use Rattle.engine.proofs.memory.advances.Goals as goal

pub returns-else-not-flag : goal.returns-else-not-flag
unfolding advances_dtr0_past gear_of
returns-else-not-flag c =
    λ g h.
    let held = part c.args.slot.now g h (λ x. x.unit.holds) in
    let tested = sym c.flag.ensures ∙ c.if-not-flag.false in
    rw (← c.implements_bank.ensures, c.if-implements_bank.true, ← held, tested) (c.is_some.ensures ∙ ap is_some (c.found.ensures g h))

pub returns-then-not-flag : goal.returns-then-not-flag
unfolding advances_dtr0_past gear_of
returns-then-not-flag c =
    λ g h.
    let held = part c.args.slot.now g h (λ x. x.unit.holds) in
    rw (← c.implements_bank.ensures, c.if-implements_bank.true, ← held, ← c.flag.ensures, c.if-not-flag.true)
