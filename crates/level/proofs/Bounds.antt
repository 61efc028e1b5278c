-- 'Level is 0 or within min..max' after every change of level and limits, from limits in order.
use Prim.Native.Nat.{ℕ, ◌≤◌, min}
use mathlib.Core.Path.{◌≡◌, refl}
use mathlib.Core.Bool.{Bool, true, false, not}
use mathlib.Core.Logic.{◌⊎◌, inl, inr}
use lib.Dec.{eqb, leb, ltb}
use native.Mathlib.Omega.{arith}
use borrow.Author.Tests.{eqb-true}
use Rattle.level.specs.declared.arc.ArcCommand.{ArcCommand}
use Rattle.level.specs.declared.arc.ArcCommand.TheVariants.{DirectArcPower, Off, Up, Down, StepUp, StepDown, RecallMaxLevel, RecallMinLevel, StepDownAndOff, OnAndStepUp, GoToLastActiveLevel}
use Rattle.level.specs.declared.levels.Levels.{Levels}
use Rattle.level.specs.Arc.{level_up, level_down, step_down_and_off, on_and_step_up, arc_power, arc_levels}
use Rattle.level.specs.Levels.{Bounded, held, set_level, readjusts, readjust, set_min_level, set_max_level, with_limits}
use Rattle.numbers.specs.Numbers.{both, pick, clamp_to}
use Rattle.numbers.proofs.Logic.{by_cases}
use Rattle.level.proofs.Fit.{Fit}

pub set_level_bounded : (l : Levels) (v : ℕ) → l.min ≤ l.max → Bounded (set_level l v)
unfolding held set_level
set_level_bounded l v h = by_cases (eqb v 0) (λ e. rw e (inl refl)) (λ e. rw e (inr (omega arith, omega arith)))

-- a level pulled into limits, on plain numbers
abbrev pulled : ℕ → ℕ → ℕ → ℕ
pulled x low high = pick (both (not (eqb x 0)) (not (eqb (clamp_to x low high) x))) (clamp_to x low high) x

pulled_bounded : (x low high : ℕ) → low ≤ high → (pulled x low high ≡ 0) ⊎ ((low ≤ pulled x low high) × (pulled x low high ≤ high))
pulled_bounded x low high h =
    by_cases (eqb x 0) (λ e. simp e (inl (eqb-true x 0 e)))
    (λ e.
    by_cases (eqb (clamp_to x low high) x)
    (λ t. let q = eqb-true (clamp_to x low high) x t in simp (e, t) (inr (omega arith, omega arith)))
    (λ t. simp (e, t) (inr (omega arith, omega arith))))

readjust_bounded : (l : Levels) → l.min ≤ l.max → Bounded (readjust l)
unfolding readjusts readjust
readjust_bounded l h = pulled_bounded l.level l.min l.max h

pub set_min_bounded : {floor : ℕ} (l : Levels) (v : ℕ) → Fit floor (set_min_level l floor v) → Bounded (set_min_level l floor v)
unfolding set_min_level readjust
set_min_bounded {floor} l v f = readjust_bounded (with_limits l (pick (leb v floor) floor (min v l.max)) l.max) f.order

pub set_max_bounded : {floor : ℕ} (l : Levels) (v : ℕ) → Fit floor (set_max_level l v) → Bounded (set_max_level l v)
unfolding set_max_level readjust
set_max_bounded l v f = readjust_bounded (with_limits l l.min (pick (leb v l.min) l.min (min v 254))) f.order

-- a command that asks for no level keeps it
maybe_bounded : (b : Bool) (l : Levels) (v : ℕ) → l.min ≤ l.max → Bounded l → Bounded (pick b (set_level l v) l)
maybe_bounded true l v h k = set_level_bounded l v h
maybe_bounded false l v h k = k

dapc_bounded : (l : Levels) (v : ℕ) → l.min ≤ l.max → Bounded l → Bounded (arc_power l v)
unfolding arc_power
dapc_bounded l v h k = by_cases (eqb v 255) (λ e. rw e k) (λ e. rw e (set_level_bounded l v h))

pub arc_bounded : (l : Levels) (a : ArcCommand) → l.min ≤ l.max → Bounded l → Bounded (arc_levels l a)
unfolding arc_levels level_up level_down step_down_and_off on_and_step_up
arc_bounded l (DirectArcPower v) h k = dapc_bounded l v h k
arc_bounded l Off h k = set_level_bounded l 0 h
arc_bounded l Up h k = maybe_bounded (ltb 0 l.level) l _ h k
arc_bounded l Down h k = maybe_bounded (ltb 0 l.level) l _ h k
arc_bounded l StepUp h k = maybe_bounded (ltb 0 l.level) l _ h k
arc_bounded l StepDown h k = maybe_bounded (ltb 0 l.level) l _ h k
arc_bounded l RecallMaxLevel h k = set_level_bounded l l.max h
arc_bounded l RecallMinLevel h k = set_level_bounded l l.min h
arc_bounded l StepDownAndOff h k = set_level_bounded l _ h
arc_bounded l OnAndStepUp h k = set_level_bounded l _ h
arc_bounded l GoToLastActiveLevel h k = set_level_bounded l l.last h
