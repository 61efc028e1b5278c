-- `serve::change` meets its contract: the refusals, and the call on the image of a fit record.
use Prim.Native.Nat.{ℕ}
use mathlib.Core.Path.{◌≡◌, refl}
use lib.ListN.{get_or}
use mir.Syntax.{w8}
use mir.Val.{Fits}
use Rattle.std.proofs.Common.{rules}
use Rattle.std.specs.declared.result.Result.TheVariants.{Err}
use Rattle.gear.specs.Answer.{done}
use Rattle.engine.proofs.Serving.{by_works, lent_slot, not_lent, served}
use Rattle.engine.proofs.serve.change.Goals as goal

pub returns-in_err-run : goal.returns-in_err-run
returns-in_err-run g c =
    λ rule works.
    let refused : c.from_residual.result ≡ Err c.in_err-run.field-0.0 = search rules in
    rw (refused, c.in_err-run.ensures.1) (not_lent _ c.args.slot.now _ c.in_err-run.ensures.0)

pub returns : goal.returns
returns g c =
    λ rule works.
    let b = c.args.slot.now in
    let fits : (i : ℕ) → Fits w8 (get_or b i 0) = search rules in
    let lent = lent_slot b b c.in_ok-run.ensures.0 in
    served b lent.long fits lent.held _ _ _
    (by_works (λ x. done (rule x)) b _ _ (record { does = works _ c.in_ok-run.ensures.1; tells = λ x h. refl }))
