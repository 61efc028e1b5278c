-- Levels that are fit for a floor, in facts and as the test, and that every call keeps them so.
use Prim.Native.Nat.{ℕ, ◌≤◌, min}
use mathlib.Core.Path.{◌≡◌}
use mathlib.Core.Bool.{true}
use lib.Dec.{eqb, leb, ltb}
use native.Mathlib.Omega.{arith}
use borrow.Author.Tests.{le-leb, leb-true, leb-false}
use Rattle.level.specs.declared.arc.ArcCommand.{ArcCommand}
use Rattle.level.specs.declared.arc.ArcCommand.TheVariants.{DirectArcPower, Off, Up, Down, StepUp, StepDown, RecallMaxLevel, RecallMinLevel, StepDownAndOff, OnAndStepUp, GoToLastActiveLevel}
use Rattle.level.specs.declared.levels.Levels.{Levels}
use Rattle.level.specs.Arc.{level_up, level_down, step_down_and_off, on_and_step_up, arc_power, arc_levels}
use Rattle.level.specs.Levels.{set_level, readjust, set_min_level, set_max_level, power_up, levels_fit, fresh, with_limits}
use Rattle.numbers.specs.Numbers.{pick}
use Rattle.numbers.proofs.Logic.{by_cases, both_true, both_three}

pub record Fit (floor : ℕ) (l : Levels) : Type 0 where
  pub low : floor ≤ l.min
  pub order : l.min ≤ l.max
  pub high : l.max ≤ 254

pub facts : (floor : ℕ) (l : Levels) → levels_fit floor l ≡ true → Fit floor l
unfolding levels_fit
facts floor l e =
    let t = both_three (leb floor l.min) (leb l.min l.max) (leb l.max 254) e in
    record { low = leb-true _ _ t.0; order = leb-true _ _ t.1; high = leb-true l.max 254 t.2 }

pub fit : {floor : ℕ} {l : Levels} → Fit floor l → levels_fit floor l ≡ true
unfolding levels_fit
fit {floor} {l} f =
    both_true (le-leb floor l.min f.low) (both_true (le-leb l.min l.max f.order) (le-leb l.max 254 f.high))

-- ---- what keeps the limits keeps the fit

pub set_level_kept : {floor : ℕ} {l : Levels} (v : ℕ) → Fit floor l → Fit floor (set_level l v)
unfolding set_level
set_level_kept v f = record { low = f.low; order = f.order; high = f.high }

readjust_kept : {floor : ℕ} (l : Levels) → Fit floor l → Fit floor (readjust l)
unfolding readjust
readjust_kept l f = record { low = f.low; order = f.order; high = f.high }

pub power_up_kept : {floor : ℕ} {l : Levels} (stored : ℕ) → Fit floor l → Fit floor (power_up l stored)
unfolding power_up
power_up_kept stored f = record { low = f.low; order = f.order; high = f.high }

pub fresh_fit : (floor minimum : ℕ) → floor ≤ minimum → minimum ≤ 254 → Fit floor (fresh minimum)
fresh_fit floor minimum a b = record { low = a; order = b; high = omega arith }

pub set_min_kept : {floor : ℕ} {l : Levels} (v : ℕ) → Fit floor l → Fit floor (set_min_level l floor v)
unfolding set_min_level
set_min_kept {floor} {l} v f =
    readjust_kept
    (with_limits l (pick (leb v floor) floor (min v l.max)) l.max)
    (by_cases (leb v floor) (λ e. simp e (record { low = omega arith; order = omega (arith, f.low, f.order); high = f.high }))
    (λ e.
    let h = leb-false v floor e in
    simp e (record { low = omega (arith, f.low, f.order); order = omega arith; high = f.high })))

pub set_max_kept : {floor : ℕ} {l : Levels} (v : ℕ) → Fit floor l → Fit floor (set_max_level l v)
unfolding set_max_level
set_max_kept {floor} {l} v f =
    readjust_kept
    (with_limits l l.min (pick (leb v l.min) l.min (min v 254)))
    (by_cases (leb v l.min) (λ e. simp e (record { low = f.low; order = omega arith; high = omega (arith, f.order, f.high) }))
    (λ e.
    let h = leb-false v l.min e in
    simp e (record { low = f.low; order = omega (arith, f.order, f.high); high = omega arith })))

up_kept : {floor : ℕ} {l : Levels} (delta : ℕ) → Fit floor l → Fit floor (level_up l delta)
unfolding level_up
up_kept {l = l} delta f = by_cases (ltb 0 l.level) (λ e. rw e (set_level_kept _ f)) (λ e. rw e f)

down_kept : {floor : ℕ} {l : Levels} (delta : ℕ) → Fit floor l → Fit floor (level_down l delta)
unfolding level_down
down_kept {l = l} delta f = by_cases (ltb 0 l.level) (λ e. rw e (set_level_kept _ f)) (λ e. rw e f)

dapc_kept : {floor : ℕ} {l : Levels} (v : ℕ) → Fit floor l → Fit floor (arc_power l v)
unfolding arc_power
dapc_kept v f = by_cases (eqb v 255) (λ e. rw e f) (λ e. rw e (set_level_kept v f))

pub arc_kept : {floor : ℕ} {l : Levels} (a : ArcCommand) → Fit floor l → Fit floor (arc_levels l a)
unfolding arc_levels step_down_and_off on_and_step_up
arc_kept (DirectArcPower v) f = dapc_kept v f
arc_kept Off f = set_level_kept 0 f
arc_kept Up f = up_kept 8 f
arc_kept Down f = down_kept 8 f
arc_kept StepUp f = up_kept 1 f
arc_kept StepDown f = down_kept 1 f
arc_kept {l = l} RecallMaxLevel f = set_level_kept l.max f
arc_kept {l = l} RecallMinLevel f = set_level_kept l.min f
arc_kept StepDownAndOff f = set_level_kept _ f
arc_kept OnAndStepUp f = set_level_kept _ f
arc_kept {l = l} GoToLastActiveLevel f = set_level_kept l.last f
