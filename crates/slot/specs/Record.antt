-- What 512 bytes say, each at its place: the way back from an image to its record.
use Rattle.std.specs.Prelude.{ℕ, zero, suc, ◌+◌, ◌*◌, Bool, List, [], ◌∷◌, eqb, ltb, drop, get_or, take, Option}
use Rattle.std.specs.Bool.{then_some}
use Rattle.bank.specs.declared.build.Banks.{Banks}
use Rattle.colour.specs.declared.limits.Limits.{Limits}
use Rattle.colour.specs.declared.record.Colour.{Colour}
use Rattle.colour.specs.declared.setting.ColourSetting.{ColourSetting}
use Rattle.colour.specs.declared.tint.Tint.{Tint}
use Rattle.colour.specs.Limits.{range}
use Rattle.colour.specs.Tint.{mode_of}
use Rattle.gear.specs.declared.condition.Condition.{Condition}
use Rattle.gear.specs.declared.marks.Marks.{Marks}
use Rattle.gear.specs.declared.profile.Unit.{Unit}
use Rattle.gear.specs.declared.record.Gear.{Gear}
use Rattle.gear.specs.declared.settings.LevelSetting.{LevelSetting}
use Rattle.gear.specs.declared.settings.Settings.{Settings}
use Rattle.level.specs.declared.levels.Levels.{Levels}

-- ## Single values

abbrev pub at : ℕ → List ℕ → ℕ
at k b = get_or b k 0

abbrev pub flag_at : ℕ → List ℕ → Bool
flag_at k b = eqb (at k b) 1

-- two bytes, low byte first
abbrev pub word_at : ℕ → List ℕ → ℕ
word_at k b = at k b + 256 * at (k + 1) b

abbrev pub short_of : ℕ → Option ℕ
short_of n = then_some (ltb n 64) n

abbrev pub walk_of : ℕ → Option ℕ
walk_of n = then_some (ltb n 17) n

abbrev pub pair_of : Bool → ℕ → Option ℕ
pair_of waits frame = then_some waits frame

-- so many bytes from a place on, and so many flags
abbrev pub bytes_from : ℕ → ℕ → List ℕ → List ℕ
bytes_from zero k b = []
bytes_from (suc n) k b = at k b ∷ bytes_from n (suc k) b

abbrev pub flags_from : ℕ → ℕ → List ℕ → List Bool
flags_from zero k b = []
flags_from (suc n) k b = flag_at k b ∷ flags_from n (suc k) b

-- ## Colours, at the front of what is given

abbrev pub colour_in : List ℕ → ColourSetting
colour_in b =
    record {
      kind = at 13 b;
      control = at 12 b;
      x = word_at 0 b;
      y = word_at 2 b;
      tc = word_at 4 b;
      levels = bytes_from 6 6 b;
    }

abbrev pub tint_of : ColourSetting → Tint
tint_of s = record { mode = mode_of s.kind; x = s.x; y = s.y; tc = s.tc; levels = s.levels; control = s.control }

abbrev pub setting_in : List ℕ → LevelSetting
setting_in b = record { colour = colour_in b; level = at 14 b }

-- where a scene stands
abbrev pub scene_place : ℕ → ℕ
scene_place s = 155 + 15 * s

abbrev pub settings_in : ℕ → List ℕ → List LevelSetting
settings_in zero b = []
settings_in (suc n) b = setting_in b ∷ settings_in n (drop 15 b)

-- ## Parts of the record

abbrev pub unit_of : List ℕ → Unit
unit_of b =
    record {
      short = short_of (at 6 b);
      random = at 8 b + 256 * at 9 b + 65536 * at 10 b + 16777216 * at 11 b;
      types = bytes_from 16 16 b;
      count = at 7 b;
      adjustable = flag_at 56 b;
      holds = flag_at 57 b;
      bare = flag_at 58 b;
      minimum = at 4 b;
    }

abbrev pub levels_of : List ℕ → Levels
levels_of b = record { level = at 0 b; last = at 1 b; min = at 2 b; max = at 3 b; error = flag_at 48 b }

abbrev pub marks_of : List ℕ → Marks
marks_of b =
    record {
      walk = walk_of (at 5 b);
      pair = pair_of (flag_at 55 b) (word_at 73 b);
      reset = flag_at 49 b;
      cycled = flag_at 50 b;
      initialise = flag_at 51 b;
      withdrawn = flag_at 52 b;
      identifying = flag_at 53 b;
      writable = flag_at 54 b;
    }

abbrev pub limits_of : List ℕ → Limits
limits_of b = record { stored = range (word_at 75 b) (word_at 77 b); physical = range (word_at 79 b) (word_at 81 b) }

abbrev pub colour_of : List ℕ → Colour
colour_of b =
    record {
      can = record { tc = flag_at 59 b; xy = flag_at 60 b; channels = at 12 b };
      limits = limits_of b;
      active = tint_of (colour_in (drop 83 b));
      outside = flag_at 61 b;
      pending = tint_of (colour_in (drop 97 b));
      report = colour_in (drop 111 b);
      features = at 67 b;
    }

abbrev pub settings_of : List ℕ → Settings
settings_of b =
    record {
      on = setting_in (drop 125 b);
      failure = setting_in (drop 140 b);
      fades = record { time = at 13 b; rate = at 14 b; extended = at 15 b };
      groups = flags_from 16 32 b;
      curve = at 68 b;
    }

abbrev pub condition_of : List ℕ → Condition
condition_of b =
    record {
      enabled = flag_at 62 b;
      lamp = record { failure = flag_at 63 b; starting = flag_at 64 b };
      faults = record { drop = word_at 71 b; forced = at 69 b; failure = at 70 b; unstored = flag_at 65 b; holds = flag_at 66 b };
    }

abbrev pub banks_of : List ℕ → Banks
banks_of b = record { identity = bytes_from 29 395 b; profile = bytes_from 17 424 b }

unfoldable pub gear_of : List ℕ → Gear
gear_of b =
    record {
      unit = unit_of b;
      levels = levels_of b;
      marks = marks_of b;
      colour = colour_of b;
      settings = settings_of b;
      scenes = settings_in 16 (drop 155 b);
      condition = condition_of b;
      banks = banks_of b;
    }

-- Document 01's record has a list of types: in sixteen cells, those behind the list's length say nothing. Here they are 0.
abbrev pub listed : Gear → Gear
listed g =
    record {
      unit =
          record {
            short = g.unit.short;
            random = g.unit.random;
            types = bytes_from 16 0 (take g.unit.count g.unit.types);
            count = g.unit.count;
            adjustable = g.unit.adjustable;
            holds = g.unit.holds;
            bare = g.unit.bare;
            minimum = g.unit.minimum;
          };
      levels = g.levels;
      marks = g.marks;
      colour = g.colour;
      settings = g.settings;
      scenes = g.scenes;
      condition = g.condition;
      banks = g.banks;
    }
