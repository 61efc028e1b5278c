-- The profile that a session file holds, field by field.
use Rattle.std.specs.Prelude.{ℕ, ◌+◌, ◌*◌, ◌-◌, ◌/◌, ◌%◌, Bool, List, ◌++◌, eqb, length, replicate, Option, None, Some}
use Rattle.gear.specs.declared.profile.Profile.{Profile}
use Rattle.gear.specs.declared.profile.Unit.{Unit}
use Rattle.gear.specs.Profile.{no_profile}
use Rattle.file.specs.File.{byte, word, well_formed, types_of, profile_of}
use Rattle.numbers.specs.Numbers.{pick}

-- sixteen entries: the codes, and zeros
unfoldable pub padded : List ℕ → List ℕ
padded codes = codes ++ replicate (16 - length codes) 0

-- 255 is none
unfoldable pub short_of : ℕ → Option ℕ
short_of x = pick (eqb x 255) None (Some x)

-- the bit of this weight
abbrev pub bit : ℕ → ℕ → Bool
bit weight x = eqb (x / weight % 2) 1

-- three bytes, high byte first
abbrev pub random_of : List ℕ → ℕ
random_of p = byte p 1 * 65536 + byte p 2 * 256 + byte p 3

-- flags 2, 3 and 4: adjustable, holds DTR0, no indicator byte
unfoldable pub unit_from : List ℕ → List ℕ → Unit
unit_from codes p =
    record {
      short = short_of (byte p 0);
      random = random_of p;
      types = padded codes;
      count = length codes;
      adjustable = bit 4 (byte p 4);
      holds = bit 8 (byte p 4);
      bare = bit 16 (byte p 4);
      minimum = byte p 10;
    }

-- flags 0 and 1: Tc, xy
unfoldable pub profile_from : List ℕ → List ℕ → Profile
profile_from codes p =
    record {
      unit = unit_from codes p;
      can = record { tc = bit 1 (byte p 4); xy = bit 2 (byte p 4); channels = byte p 5 };
      physical = record { coolest = word p 6; warmest = word p 8 };
    }

-- what the type codes and the profile's eleven bytes say; of a malformed file a profile that no call accepts
unfoldable pub profile_in : List ℕ → Profile
profile_in s = pick (well_formed s) (profile_from (types_of s) (profile_of s)) no_profile
