-- Setting a level and its limits (part 102, 9.16.5 and 11.4).
use Rattle.std.specs.Prelude.{ℕ, ◌≤◌, min, ◌⊎◌, ◌≡◌, Bool, true, false, not, eqb, leb, ltb}
use Rattle.level.specs.declared.levels.Levels.{Levels}
use Rattle.numbers.specs.Numbers.{both, pick, clamp_to}

abbrev pub fresh : ℕ → Levels
fresh minimum = record { level = 0; last = 254; min = minimum; max = 254; error = false }

-- the stored level as it is, unless it is the mask
unfoldable pub power_up : Levels → ℕ → Levels
power_up l stored =
    record { level = pick (eqb stored 255) l.level stored; last = l.max; min = l.min; max = l.max; error = false }

-- 0 stays 0; else the level is held within min..max
unfoldable pub held : Levels → ℕ → ℕ
held l v = pick (eqb v 0) 0 (clamp_to v l.min l.max)

-- the mark: exactly where a level that is not 0 was moved. The last active level follows a level above 0
unfoldable pub set_level : Levels → ℕ → Levels
set_level l v =
    record {
      level = held l v;
      last = pick (ltb 0 (held l v)) (held l v) l.last;
      min = l.min;
      max = l.max;
      error = not (eqb (held l v) v);
    }

-- new limits move a level above 0 that lies outside
unfoldable pub readjusts : Levels → Bool
readjusts l = both (not (eqb l.level 0)) (not (eqb (clamp_to l.level l.min l.max) l.level))

unfoldable pub readjust : Levels → Levels
readjust l =
    record {
      level = pick (readjusts l) (clamp_to l.level l.min l.max) l.level;
      last = pick (readjusts l) (clamp_to l.level l.min l.max) l.last;
      min = l.min;
      max = l.max;
      error = pick (readjusts l) true l.error;
    }

abbrev pub with_limits : Levels → ℕ → ℕ → Levels
with_limits l low high = record { level = l.level; last = l.last; min = low; max = high; error = l.error }

-- not below the floor, not above max
unfoldable pub set_min_level : Levels → ℕ → ℕ → Levels
set_min_level l floor v = readjust (with_limits l (pick (leb v floor) floor (min v l.max)) l.max)

-- not below min, at most 254
unfoldable pub set_max_level : Levels → ℕ → Levels
set_max_level l v = readjust (with_limits l l.min (pick (leb v l.min) l.min (min v 254)))

-- floor ≤ min ≤ max ≤ 254
unfoldable pub levels_fit : ℕ → Levels → Bool
levels_fit floor l = both (leb floor l.min) (both (leb l.min l.max) (leb l.max 254))

-- 'level is 0 or within min..max'
abbrev pub Bounded : Levels → Type 0
Bounded l = (l.level ≡ 0) ⊎ ((l.min ≤ l.level) × (l.level ≤ l.max))
