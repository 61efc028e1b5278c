-- `serve::tell` meets its contract: the two refusals, and the call on the image of a fit record.
use Prim.Native.Nat.{ℕ}
use mathlib.Core.Path.{◌≡◌, refl, ◌∙◌}
use lib.ListN.{get_or}
use mir.Syntax.{w8}
use mir.Val.{Fits}
use Rattle.std.proofs.Common.{rules}
use Rattle.std.specs.declared.result.Result.TheVariants.{Err}
use Rattle.engine.proofs.Serving.{answered, holds, lent_slot, told_not_lent}
use Rattle.engine.proofs.Telling.{told_read}
use Rattle.engine.proofs.serve.tell.Goals as goal

pub returns-in_err-tested : goal.returns-in_err-tested
returns-in_err-tested g c =
    λ rule tells.
    let refused : c.from_residual.result ≡ Err c.in_err-tested.field-0.0 = search rules in
    refused ∙ told_not_lent _ c.args.slot.now _ (rw (c.in_err-tested.was) at c.tested.ensures)

pub returns : goal.returns
returns g c =
    λ rule tells.
    let b = c.args.slot.now in
    let fits : (i : ℕ) → Fits w8 (get_or b i 0) = search rules in
    let lent = lent_slot b _ (rw (c.in_ok-tested.was) at c.tested.ensures) in
    let read = tells _ (c.in_ok-tested.field-0, c.call.ensures, lent.same) (holds b lent.long fits lent.held) in
    answered b lent.long fits lent.held (λ g. c.call.result) _ (λ g h fit. refl) ∙ told_read rule b _ read
