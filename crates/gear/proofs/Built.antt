-- The gear of an accepted profile is fit, and the record that comes with refusal 1 is not: no call accepts it.
use mathlib.Core.Path.{◌≡◌, refl}
use mathlib.Core.Bool.{true, false}
use lib.Dec.{leb}
use native.Mathlib.Omega.{arith}
use borrow.Author.Tests.{le-leb, leb-true}
use Rattle.gear.specs.declared.profile.Profile.{Profile}
use Rattle.gear.specs.declared.profile.Unit.{Unit}
use Rattle.gear.specs.Marks.{walk_fit}
use Rattle.gear.specs.Profile.{accepted, floor, no_profile, short_fit, unit_fit}
use Rattle.gear.specs.Record.{fitb, fresh_gear}
use Rattle.gear.proofs.Fit.{fit, floor_low}
use Rattle.colour.proofs.KeptLimits as ColourLimits
use Rattle.level.proofs.Fit as LevelFit
use Rattle.numbers.specs.Numbers.{both}
use Rattle.numbers.proofs.Logic.{both_true, both_left, both_right, both_three}

-- 13 types are within the 16 of a record
wider : (u : Unit) → unit_fit 13 u ≡ true → unit_fit 16 u ≡ true
unfolding unit_fit
wider u e =
    let rest = both (leb u.random 16777215) (both (leb 1 u.minimum) (both (leb u.minimum 254) (short_fit u.short))) in
    let few = leb-true u.count 13 (both_left (leb u.count 13) rest e) in
    both_true (le-leb u.count 16 (omega arith)) (both_right (leb u.count 13) rest e)

pub fresh_fit : (p : Profile) → accepted p ≡ true → fitb (fresh_gear p) ≡ true
unfolding accepted fresh_gear walk_fit
fresh_fit p e =
    let below = leb p.physical.warmest 65534 in
    let t = both_three (leb p.can.channels 6) (leb p.physical.coolest p.physical.warmest) (both below (unit_fit 13 p.unit)) e in
    let most = leb-true p.physical.warmest 65534 (both_left below (unit_fit 13 p.unit) t.2) in
    let u = wider p.unit (both_right below (unit_fit 13 p.unit) t.2) in
    let m = floor_low 16 p.unit u in
    fit
    (record {
      unit = u;
      levels = LevelFit.fresh_fit (floor p.unit) p.unit.minimum m.0 m.1;
      colour =
          ColourLimits.fresh_fit p.can p.physical.coolest p.physical.warmest (leb-true p.can.channels 6 t.0)
          (leb-true p.physical.coolest p.physical.warmest t.1)
          (omega arith);
      walk = refl;
    })

pub none_unfit : fitb (fresh_gear no_profile) ≡ false
unfolding fitb fresh_gear short_fit unit_fit
none_unfit = refl
