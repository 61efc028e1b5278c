-- `address::judged` meets its contract: a gear that is not enabled is addressed by nothing.
use Prim.Native.Nat.{ℕ}
use mathlib.Core.Path.{◌≡◌, ap, sym, ◌∙◌}
use mathlib.Core.Bool.{Bool, true, false}
use mathlib.Core.List.{List}
use Rattle.calls.specs.Address.{addressed, judged, matching}
use Rattle.calls.specs.declared.address.Address.{Address}
use Rattle.gear.specs.Answer.{flag}
use Rattle.numbers.specs.Numbers.{pick}
use Rattle.slot.specs.Record.{flag_at, gear_of}
use Rattle.engine.proofs.address.judged.Goals as goal
use Rattle.engine.proofs.address.judged.Goals.{then-flag, else-flag}

-- whether the gear is enabled
matching-read :
    (b : List ℕ) (a : Address) (on : Bool) → on ≡ flag_at 62 b → flag (pick on (addressed (gear_of b) a) false) ≡ matching (gear_of b) a
unfolding matching gear_of
matching-read b a on e = ap (λ (yes : Bool). flag (pick yes (addressed (gear_of b) a) false)) e

pub returns : goal.returns
unfolding judged
returns c =
    let b = c.args.slot.now in
    let a = c.args.address in
    let told : flag c.if-flag.flag ≡ matching (gear_of b) a =
    elim c.if-flag.branch [
      | then-flag w ↦ ap flag (w.flag-is ∙ w.is_addressed.ensures) ∙ matching-read b a true (sym w.if-flag.true ∙ c.flag.ensures)
      | else-flag w ↦ ap flag (w.flag-is ∙ w.if-flag.false) ∙ matching-read b a false (sym w.if-flag.false ∙ c.flag.ensures)
    ]
    in
    rw (← c.is_group_beyond.ensures, c.if-is_group_beyond.false) (c.flag-2.ensures ∙ told)
