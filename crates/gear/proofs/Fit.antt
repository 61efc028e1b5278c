-- What a fit record says of its parts, and the other way round.
use Prim.Native.Nat.{ℕ, ◌≤◌}
use mathlib.Core.Path.{◌≡◌}
use mathlib.Core.Bool.{true}
use lib.Dec.{leb}
use native.Mathlib.Omega.{arith}
use borrow.Author.Tests.{leb-true}
use Rattle.gear.specs.declared.profile.Unit.{Unit}
use Rattle.gear.specs.declared.record.Gear.{Gear}
use Rattle.gear.specs.Marks.{walk_fit}
use Rattle.gear.specs.Profile.{floor, is_type, short_fit, unit_fit}
use Rattle.gear.specs.Record.{fitb}
use Rattle.colour.specs.Record.{fitb as colour_fit}
use Rattle.colour.proofs.Fit
use Rattle.level.specs.Levels.{levels_fit}
use Rattle.level.proofs.Fit as LevelFit
use Rattle.numbers.specs.Numbers.{both}
use Rattle.numbers.proofs.Logic.{by_cases, both_true, both_left, both_right, both_three}

pub record GearFit (g : Gear) : Type 0 where
  pub unit : unit_fit 16 g.unit ≡ true
  pub levels : LevelFit.Fit (floor g.unit) g.levels
  pub colour : Fit.Fit g.colour
  pub walk : walk_fit g.marks.walk ≡ true

pub facts : (g : Gear) → fitb g ≡ true → GearFit g
unfolding fitb
facts g e =
    let rest = both (colour_fit g.colour) (walk_fit g.marks.walk) in
    let t = both_three (unit_fit 16 g.unit) (levels_fit (floor g.unit) g.levels) rest e in
    record {
      unit = t.0;
      levels = LevelFit.facts (floor g.unit) g.levels t.1;
      colour = Fit.facts g.colour (both_left (colour_fit g.colour) (walk_fit g.marks.walk) t.2);
      walk = both_right (colour_fit g.colour) (walk_fit g.marks.walk) t.2;
    }

pub fit : {g : Gear} → GearFit g → fitb g ≡ true
unfolding fitb
fit f = both_true f.unit (both_true (LevelFit.fit f.levels) (both_true (Fit.fit f.colour) f.walk))

-- ---- the physical minimum of a fit unit

minimum_facts : (most : ℕ) (u : Unit) → unit_fit most u ≡ true → (1 ≤ u.minimum) × (u.minimum ≤ 254)
unfolding unit_fit
minimum_facts most u e =
    let low = leb 1 u.minimum in
    let high = leb u.minimum 254 in
    let t = both_three (leb u.count most) (leb u.random 16777215) (both low (both high (short_fit u.short))) e in
    let s = both_three low high (short_fit u.short) t.2 in
    (leb-true 1 u.minimum s.0, leb-true u.minimum 254 s.1)

-- the floor is at most the physical minimum, which is at most 254
pub floor_low : (most : ℕ) (u : Unit) → unit_fit most u ≡ true → (floor u ≤ u.minimum) × (u.minimum ≤ 254)
unfolding floor
floor_low most u e =
    let m = minimum_facts most u e in
    (by_cases (is_type u 7) (λ t. rw t m.0) (λ t. rw t (omega arith)), m.1)

-- a fit unit has at most so many types
pub count_most : (most : ℕ) (u : Unit) → unit_fit most u ≡ true → u.count ≤ most
unfolding unit_fit
count_most most u e = leb-true u.count most (both_left (leb u.count most) _ e)
