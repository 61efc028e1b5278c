-- When a profile is accepted and when a record is fit: document 01, 'Profile and fit record', clause by clause.
-- proofs/Fit.antt shows that the tests of the code say the same of every profile and of every record.
-- `A → ⊥` reads 'not A', and `(n : ℕ) → A` reads 'A, for each number n'.
use Rattle.std.specs.Prelude.{ℕ, ◌≤◌, ◌<◌, ◌≡◌, take, Some}
use mathlib.Core.List.{Memᴰ as Among}
use Rattle.colour.specs.declared.tint.ColorMode.TheVariants.{Cct}
use Rattle.gear.specs.declared.profile.Profile.{Profile}
use Rattle.gear.specs.declared.profile.Unit.{Unit}
use Rattle.gear.specs.declared.record.Gear.{Gear}

-- ## 'A profile is accepted exactly when'

-- `most` is 13 for a profile, and 16 for that of a record
pub record AcceptedUpTo (most : ℕ) (p : Profile) : Type 0 where
  -- 'at most 13 device types'
  pub types : p.unit.count ≤ most
  -- 'channels 0 to 6'
  pub channels : p.can.channels ≤ 6
  -- 'short address 0 to 63 or none'
  pub short : (address : ℕ) → p.unit.short ≡ Some address → address ≤ 63
  -- 'random address at most 16,777,215'
  pub random : p.unit.random ≤ 16777215
  -- 'physical minimum 1 to 254'
  pub minimum : (1 ≤ p.unit.minimum) × (p.unit.minimum ≤ 254)
  -- 'coolest ≤ warmest < 65,535'
  pub limits : (p.physical.coolest ≤ p.physical.warmest) × (p.physical.warmest < 65535)

abbrev pub Accepted : Profile → Type 0
Accepted p = AcceptedUpTo 13 p

-- ## The floor and the effective limits

-- the codes of a gear are the first `count` entries of its list, or the whole of a list that is shorter
abbrev pub OfType : ℕ → Unit → Type 0
OfType code u = Among code (take u.count u.types)

-- 'The floor is 1 for a type 7 gear, else the physical minimum'
pub record Floor (u : Unit) (floor : ℕ) : Type 0 where
  pub switching : OfType 7 u → floor ≡ 1
  pub other : (OfType 7 u → ⊥) → floor ≡ u.minimum

-- 'Effective coolest is the stored limit, or the physical one where 65,535 is stored; warmest likewise'
pub record Effective (stored physical effective : ℕ) : Type 0 where
  pub own : (stored ≡ 65535 → ⊥) → effective ≡ stored
  pub replaced : stored ≡ 65535 → effective ≡ physical

-- the profile of a record
abbrev pub profile_of : Gear → Profile
profile_of g =
    record {
      unit = g.unit;
      can = g.colour.can;
      physical = g.colour.limits.physical;
    }

-- ## 'A record is fit when'

pub record Fit (g : Gear) : Type 0 where
  -- the floor and the effective limits of the record
  pub floor : ℕ
  pub coolest : ℕ
  pub warmest : ℕ
  pub floor_is : Floor g.unit floor
  pub coolest_is : Effective g.colour.limits.stored.coolest g.colour.limits.physical.coolest coolest
  pub warmest_is : Effective g.colour.limits.stored.warmest g.colour.limits.physical.warmest warmest
  -- 'its profile would be accepted (but its type list may reach 16)'
  pub profile : AcceptedUpTo 16 (profile_of g)
  -- 'floor ≤ min ≤ max ≤ 254'
  pub levels : (floor ≤ g.levels.min) × (g.levels.min ≤ g.levels.max) × (g.levels.max ≤ 254)
  -- 'physical coolest ≤ effective coolest ≤ effective warmest ≤ physical warmest'
  pub limits : ((profile_of g).physical.coolest ≤ coolest) × (coolest ≤ warmest) × (warmest ≤ (profile_of g).physical.warmest)
  -- 'an active Tc colour lies within the effective limits'
  pub active : g.colour.active.mode ≡ Cct → (coolest ≤ g.colour.active.tc) × (g.colour.active.tc ≤ warmest)
  -- 'the type walk is off or at most 16'
  pub walk : (place : ℕ) → g.marks.walk ≡ Some place → place ≤ 16
