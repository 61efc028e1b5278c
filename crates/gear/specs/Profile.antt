-- What a gear is built from, and when document 01 accepts it.
use Rattle.std.specs.Prelude.{ℕ, Bool, true, false, leb, replicate, Option, None, Some}
use Rattle.gear.specs.declared.profile.Profile.{Profile}
use Rattle.gear.specs.declared.profile.Unit.{Unit}
use Rattle.gear.specs.Types.{has_type}
use Rattle.numbers.specs.Numbers.{both, pick}

unfoldable pub is_type : Unit → ℕ → Bool
is_type u code = has_type u.types u.count code

-- 1 for a type 7 gear, else the physical minimum
unfoldable pub floor : Unit → ℕ
floor u = pick (is_type u 7) 1 u.minimum

-- the lowest level of a type 7 gear, unless it is adjustable
unfoldable pub fixed : Unit → Bool
fixed u = pick u.adjustable false (is_type u 7)

-- 0 to 63, or none
unfoldable pub short_fit : Option ℕ → Bool
short_fit None = true
short_fit (Some a) = leb a 63

-- at most so many types, a random address of 24 bits, a physical minimum of 1 to 254, a short address or none
unfoldable pub unit_fit : ℕ → Unit → Bool
unit_fit most u =
    both (leb u.count most)
    (both (leb u.random 16777215) (both (leb 1 u.minimum) (both (leb u.minimum 254) (short_fit u.short))))

-- 13 types; 0 to 6 channels; coolest ≤ warmest < 65,535
unfoldable pub accepted : Profile → Bool
accepted p =
    both (leb p.can.channels 6) (both (leb p.physical.coolest p.physical.warmest) (both (leb p.physical.warmest 65534) (unit_fit 13 p.unit)))

-- a profile that is not accepted, since its physical minimum is 0
abbrev pub no_profile : Profile
no_profile =
    record {
      unit =
          record {
            short = None;
            random = 0;
            types = replicate 16 0;
            count = 0;
            adjustable = false;
            holds = false;
            bare = false;
            minimum = 0;
          };
      can = record { tc = false; xy = false; channels = 0 };
      physical = record { coolest = 0; warmest = 0 };
    }
