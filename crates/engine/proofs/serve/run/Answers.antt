-- `serve::run` meets its contract: the two refusals, and the call on the image of a fit record.
use mathlib.Core.Path.{◌≡◌, refl, sym, ◌∙◌}
use lib.ListN.{length}
use Rattle.std.proofs.Common.{rules}
use Rattle.std.specs.declared.result.Result.TheVariants.{Err}
use Rattle.engine.proofs.Serving.{held_tested, length_tested, unfit_tested}
use Rattle.gear.specs.declared.answer.Refusal.TheVariants.{Length}
use Rattle.engine.proofs.serve.run.Goals as goal

pub returns-in_err-slot : goal.returns-in_err-slot
returns-in_err-slot g c =
    let b = c.args.slot.now in
    let other : length b ≡ 512 → ⊥ = search rules in
    let refused : c.from_residual.result ≡ Err Length = search rules in
    rw refused (length_tested b other, refl)

pub returns-then-not-is_held : goal.returns-then-not-is_held
returns-then-not-is_held g c =
    let b = c.args.slot.now in
    let same : c.in_ok-slot.slot.now ≡ b = search rules in
    let long : length b ≡ 512 = search rules in
    (unfit_tested b long (rw same at (sym c.is_held.ensures ∙ c.if-not-is_held.true)), same)

pub returns : goal.returns
returns g c =
    let b = c.args.slot.now in
    let same : c.in_ok-slot.slot.now ≡ b = search rules in
    let long : length b ≡ 512 = search rules in (
      held_tested b long (rw same at (sym c.is_held.ensures ∙ c.if-not-is_held.false)),
      record { shown = c.in_ok-slot.slot; shows = same; left = _; met = c.call.ensures; leaves = refl },
    )
