-- The tests of the code say what specs/Fit says: `accepted` of every profile, `fitb` of every record.
use Prim.Native.Nat.{ℕ, ◌≤◌}
use mathlib.Core.Path.{◌≡◌, refl, sym, ◌∙◌}
use mathlib.Core.Bool.{Bool, true, false}
use mathlib.Core.List.Memᴰ
use mathlib.Core.List.{List, [], ◌∷◌, Memᴰ as Among}
use mathlib.Core.Logic.{◌↔◌}
use lib.Dec.{eqb, leb}
use lib.ListN.{take}
use native.Mathlib.Omega.{arith}
use borrow.Author.Tests.{le-leb, eq-eqb, leb-true, eqb-true, eqb-false}
use Rattle.std.specs.Prelude.{Option, None, Some}
use Rattle.demands.specs.Fit.{Accepted, OfType, Floor, Effective, Fit}
use Rattle.colour.specs.declared.limits.Limits.{Limits}
use Rattle.colour.specs.declared.tint.ColorMode.{ColorMode}
use Rattle.colour.specs.declared.tint.ColorMode.TheVariants.{None as NoMode, Cct, Xy, Rgb}
use Rattle.colour.specs.declared.tint.Tint.{Tint}
use Rattle.colour.specs.Limits.{effective_coolest, effective_warmest}
use Rattle.colour.specs.Tint.{is_cct, lies_within}
use Rattle.gear.specs.declared.profile.Profile.{Profile}
use Rattle.gear.specs.declared.profile.Unit.{Unit}
use Rattle.gear.specs.declared.record.Gear.{Gear}
use Rattle.gear.specs.Marks.{walk_fit}
use Rattle.gear.specs.Profile.{accepted, floor, is_type, short_fit, unit_fit}
use Rattle.gear.specs.Record.{fitb}
use Rattle.gear.specs.Types.{has_type, member}
use Rattle.gear.proofs.Fit.{facts, fit as gear-fit}
use Rattle.numbers.specs.Numbers.{both, pick}
use Rattle.numbers.proofs.Logic.{by_cases, both_true, both_left, both_right, no_false}

-- ## A test that holds exactly when

abbrev Exactly : Type 0 → Bool → Type 0
Exactly A test = A ↔ (test ≡ true)

at_most : (a b : ℕ) → Exactly (a ≤ b) (leb a b)
at_most a b = (le-leb a b, leb-true a b)

also : {A B : Type 0} {a b : Bool} → Exactly A a → Exactly B b → Exactly (A × B) (both a b)
also {a = a} {b = b} p q =
    (λ w. both_true (p.0 w.0) (q.0 w.1), λ e. (p.1 (both_left a b e), q.1 (both_right a b e)))

pub fails : {A : Type 0} {test : Bool} → A ↔ (test ≡ true) → (A → ⊥) → test ≡ false
fails {test = test} p n = by_cases test (λ e. absurd (n (p.1 e))) (λ e. e)

pub denies : {A : Type 0} {test : Bool} → A ↔ (test ≡ true) → test ≡ false → A → ⊥
denies p e a = no_false (sym e ∙ p.0 a)

-- ## The type list, the floor and the effective limits

member_tested : (code : ℕ) (xs : List ℕ) → Among code xs → member code xs ≡ true
unfolding member
member_tested code [] m = absurd (Memᴰ.not-nil m)
member_tested code (x ∷ xs) (Among.head e) = rw (eq-eqb x code (sym e))
member_tested code (x ∷ xs) (Among.tail m) = by_cases (eqb x code) (λ e. rw e) (λ e. rw e (member_tested code xs m))

member_found : (code : ℕ) (xs : List ℕ) → member code xs ≡ true → Among code xs
unfolding member
member_found code [] t = no_false t
member_found code (x ∷ xs) t =
    by_cases (eqb x code) (λ e. Among.head (sym (eqb-true x code e)))
    (λ e. Among.tail (member_found code xs (rw e at t)))

type_exactly : (u : Unit) (code : ℕ) → Exactly (OfType code u) (is_type u code)
unfolding is_type has_type
type_exactly u code =
    let codes = take u.count u.types in
    (member_tested code codes, member_found code codes)

module _ (u : Unit) where
  the_floor : Floor u (floor u)
  unfolding floor
  the_floor =
      by_cases (is_type u 7)
      (λ e. rw e (record { switching = λ m. refl; other = λ n. absurd (n ((type_exactly u 7).1 e)) }))
      (λ e. rw e (record { switching = λ m. absurd (denies (type_exactly u 7) e m); other = λ n. refl }))

  only_floor : {n : ℕ} → Floor u n → n ≡ floor u
  unfolding floor
  only_floor f =
      by_cases (is_type u 7) (λ e. rw e (f.switching ((type_exactly u 7).1 e)))
      (λ e. rw e (f.other (denies (type_exactly u 7) e)))

module _ (stored physical : ℕ) where
  abbrev chosen : ℕ
  chosen = pick (eqb stored 65535) physical stored

  the_effective : Effective stored physical chosen
  the_effective =
      by_cases (eqb stored 65535)
      (λ e. rw e (record { own = λ n. absurd (n (eqb-true stored 65535 e)); replaced = λ m. refl }))
      (λ e. rw e (record { own = λ n. refl; replaced = λ m. absurd (eqb-false stored 65535 e m) }))

  only_effective : {n : ℕ} → Effective stored physical n → n ≡ chosen
  only_effective f =
      by_cases (eqb stored 65535) (λ e. rw e (f.replaced (eqb-true stored 65535 e)))
      (λ e. rw e (f.own (eqb-false stored 65535 e)))

module _ (l : Limits) where
  the_coolest : Effective l.stored.coolest l.physical.coolest (effective_coolest l)
  unfolding effective_coolest
  the_coolest = the_effective l.stored.coolest l.physical.coolest

  the_warmest : Effective l.stored.warmest l.physical.warmest (effective_warmest l)
  unfolding effective_warmest
  the_warmest = the_effective l.stored.warmest l.physical.warmest

  only_coolest : {n : ℕ} → Effective l.stored.coolest l.physical.coolest n → n ≡ effective_coolest l
  unfolding effective_coolest
  only_coolest f = only_effective l.stored.coolest l.physical.coolest f

  only_warmest : {n : ℕ} → Effective l.stored.warmest l.physical.warmest n → n ≡ effective_warmest l
  unfolding effective_warmest
  only_warmest f = only_effective l.stored.warmest l.physical.warmest f

-- ## The clauses on an address, a walk, a colour and a unit

short_exactly : (s : Option ℕ) → Exactly ((a : ℕ) → s ≡ Some a → a ≤ 63) (short_fit s)
unfolding short_fit
short_exactly None = (λ h. refl, λ e a m. let no : ◌≡◌ {A = ℕ} 0 1 = cc in omega arith)
short_exactly (Some n) = (λ h. le-leb n 63 (h n refl), λ e a m. let same : n ≡ a = cc in omega (arith, leb-true n 63 e))

walk_exactly : (w : Option ℕ) → Exactly ((n : ℕ) → w ≡ Some n → n ≤ 16) (walk_fit w)
unfolding walk_fit
walk_exactly None = (λ h. refl, λ e n m. let no : ◌≡◌ {A = ℕ} 0 1 = cc in omega arith)
walk_exactly (Some k) = (λ h. le-leb k 16 (h k refl), λ e n m. let same : k ≡ n = cc in omega (arith, leb-true k 16 e))

mode_exactly : {A : Type 0} {test : Bool} (m : ColorMode) → Exactly A test → Exactly (m ≡ Cct → A) (pick (is_cct m) test true)
mode_exactly NoMode p = (λ h. refl, λ e z. let no : ◌≡◌ {A = ℕ} 0 1 = cc in absurd (omega arith))
mode_exactly Xy p = (λ h. refl, λ e z. let no : ◌≡◌ {A = ℕ} 0 1 = cc in absurd (omega arith))
mode_exactly Cct p = (λ h. p.0 (h refl), λ e z. p.1 e)
mode_exactly Rgb p = (λ h. refl, λ e z. let no : ◌≡◌ {A = ℕ} 0 1 = cc in absurd (omega arith))

active_exactly :
    (t : Tint) (l : Limits) →
    Exactly (t.mode ≡ Cct → (effective_coolest l ≤ t.tc) × (t.tc ≤ effective_warmest l)) (lies_within t l)
unfolding lies_within
active_exactly t l = mode_exactly t.mode (also (at_most (effective_coolest l) t.tc) (at_most t.tc (effective_warmest l)))

abbrev UnitSo : ℕ → Unit → Type 0
UnitSo most u =
    (u.count ≤ most) ×
    ((u.random ≤ 16777215) × ((1 ≤ u.minimum) × ((u.minimum ≤ 254) × ((a : ℕ) → u.short ≡ Some a → a ≤ 63))))

unit_exactly : (most : ℕ) (u : Unit) → Exactly (UnitSo most u) (unit_fit most u)
unfolding unit_fit
unit_exactly most u =
    also (at_most u.count most)
    (also (at_most u.random 16777215)
    (also (at_most 1 u.minimum) (also (at_most u.minimum 254) (short_exactly u.short))))

-- ## Accepted, and fit

accepted_tests :
    (p : Profile) →
    Exactly ((p.can.channels ≤ 6) × ((p.physical.coolest ≤ p.physical.warmest) × ((p.physical.warmest ≤ 65534) × UnitSo 13 p.unit))) (accepted p)
unfolding accepted
accepted_tests p =
    also (at_most p.can.channels 6)
    (also (at_most p.physical.coolest p.physical.warmest) (also (at_most p.physical.warmest 65534) (unit_exactly 13 p.unit)))

pub accepted_exactly : (p : Profile) → Accepted p ↔ (accepted p ≡ true)
accepted_exactly p = (so, worded)
  where
    so : Accepted p → accepted p ≡ true
    so a =
        let unit : UnitSo 13 p.unit = (omega arith, (omega arith, (omega arith, (omega arith, a.short)))) in
        (accepted_tests p).0 (omega arith, (omega arith, (omega arith, unit)))

    worded : accepted p ≡ true → Accepted p
    worded e =
        let t = (accepted_tests p).1 e in
        record {
          types = omega arith;
          channels = omega arith;
          short = t.1.1.1.1.1.1.1;
          random = omega arith;
          minimum = (omega arith, omega arith);
          limits = (omega arith, omega arith);
        }

module _ (g : Gear) where
  abbrev limits : Limits
  limits = g.colour.limits

  so : Fit g → fitb g ≡ true
  so f =
      let low = only_floor g.unit f.floor_is in
      let cool = only_coolest limits f.coolest_is in
      let warm = only_warmest limits f.warmest_is in
      gear-fit
      (record {
        unit =
            (unit_exactly 16 g.unit).0
            (omega arith, (omega arith, (omega arith, (omega arith, λ a m. omega (arith, f.profile.short a m)))));
        levels = record { low = omega arith; order = omega arith; high = omega arith };
        colour =
            record {
              channels = omega arith;
              limits = record { cool = omega arith; order = omega arith; warm = omega arith; below = omega arith };
              active =
                  (active_exactly g.colour.active limits).0
                  (λ m. (omega (arith, (f.active m).0), omega (arith, (f.active m).1)));
            };
        walk = (walk_exactly g.marks.walk).0 (λ n m. omega (arith, f.walk n m));
      })

  worded : fitb g ≡ true → Fit g
  worded e =
      let t = facts g e in
      let unit = (unit_exactly 16 g.unit).1 t.unit in
      let active = (active_exactly g.colour.active limits).1 t.colour.active in
      let walk = (walk_exactly g.marks.walk).1 t.walk in
      record {
        floor = floor g.unit;
        coolest = effective_coolest limits;
        warmest = effective_warmest limits;
        floor_is = the_floor g.unit;
        coolest_is = the_coolest limits;
        warmest_is = the_warmest limits;
        profile =
            record {
              types = omega arith;
              channels = omega arith;
              short = λ a m. omega (arith, unit.1.1.1.1 a m);
              random = omega arith;
              minimum = (omega arith, omega arith);
              limits = (omega arith, omega arith);
            };
        levels = (omega arith, omega arith, omega arith);
        limits = (omega arith, omega arith, omega arith);
        active = λ m. (omega (arith, (active m).0), omega (arith, (active m).1));
        walk = λ n m. omega (arith, walk n m);
      }

pub fit_exactly : (g : Gear) → Fit g ↔ (fitb g ≡ true)
fit_exactly g = (so g, worded g)
