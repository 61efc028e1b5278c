-- `test::is_fit` meets its contract: what the limits leave is tested in its order.
use Rattle.std.proofs.Common.{◌≡◌, true, false, sym, ap, ◌∙◌, refl, arith}
use Rattle.std.proofs.lemmas.Bool.{le-leb, leb-true, lt-leb}
use Rattle.colour.specs.Record.{fitb as colour_fit}
use Rattle.gear.specs.Profile.{floor}
use Rattle.level.specs.Levels.{levels_fit}
use Rattle.slot.proofs.Limited.{fails, fit_left, passes}
use Rattle.slot.proofs.Lists.{all_bytes}
use Rattle.slot.specs.Record.{levels_of, unit_of}
use Rattle.slot.proofs.test.is_fit.Goals as goal
use Rattle.slot.proofs.test.is_fit.Goals.{then-byte-ge1, else-byte-ge1}

pub returns-then-fit : goal.returns-then-fit
returns-then-fit c =
    let b = c.args.slot.now in
    let left = fit_left b (all_bytes b c.type_inv.slot) c.requires in
    elim c.if-byte-ge1.branch [
      | then-byte-ge1 w ↦
          let levels : levels_fit (floor (unit_of b)) (levels_of b) ≡ true = cc in
          c.fit-then-fit.ensures ∙ ap colour_fit c.colour_of.ensures ∙
          sym (left ∙ passes (rw c.byte.ensures at (le-leb 1 c.byte.result w.if-byte-ge1.true)) (passes levels refl))
      | else-byte-ge1 w ↦ absurd (omega (arith, leb-true 1 c.byte.result (sym w.value-is ∙ c.if-fit.true)))
    ]

pub returns-else-fit : goal.returns-else-fit
returns-else-fit c =
    let b = c.args.slot.now in
    let left = fit_left b (all_bytes b c.type_inv.slot) c.requires in
    elim c.if-byte-ge1.branch [
      | then-byte-ge1 w ↦
          let levels : levels_fit (floor (unit_of b)) (levels_of b) ≡ false = cc in
          c.if-fit.false ∙ sym (left ∙ passes (rw c.byte.ensures at (le-leb 1 c.byte.result w.if-byte-ge1.true)) (fails _ levels))
      | else-byte-ge1 w ↦ c.if-fit.false ∙ sym (left ∙ fails _ (rw c.byte.ensures at (lt-leb 1 c.byte.result w.if-byte-ge1.false)))
    ]
