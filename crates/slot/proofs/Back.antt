-- The record comes back from its image.
use Prim.Native.Nat.{ℕ, ◌+◌, ◌*◌, ◌/◌, ◌%◌}
use mathlib.Core.Path.{◌≡◌, refl, ap}
use mathlib.Core.Bool.{true}
use mathlib.Core.List.{List, []}
use lib.Dec.{eqb, leb}
use lib.ListN.{length, take}
use borrow.Author.Tests.{leb-true, lt-ltb}
use native.Mathlib.Omega.{arith}
use Rattle.std.specs.Prelude.{Option, None, Some}
use Rattle.colour.specs.declared.tint.ColorMode.{ColorMode}
use Rattle.colour.specs.declared.tint.ColorMode.TheVariants.{None as NoMode, Cct, Xy, Rgb}
use Rattle.colour.specs.declared.tint.Tint.{Tint}
use Rattle.colour.specs.Tint.{colour_type_byte, mode_of}
use Rattle.gear.specs.declared.profile.Unit.{Unit}
use Rattle.gear.specs.declared.record.Gear.{Gear}
use Rattle.gear.specs.Marks.{walk_fit}
use Rattle.gear.specs.Profile.{short_fit, unit_fit}
use Rattle.numbers.proofs.Logic.{both_right}
use Rattle.slot.proofs.Lists.{bytes_back, bytes_cut, colour_back, flag_back, flags_back, setting_back, settings_back, word_back}
use Rattle.slot.specs.Held.{Sound}
use Rattle.slot.specs.Image.{image_of, open_flag, open_frame, put_colour, short_byte, typed, walk_byte}
use Rattle.slot.specs.Record.{colour_in, gear_of, listed, pair_of, short_of, tint_of, walk_of}

pub image_length : (g : Gear) → length (image_of g) ≡ 512
unfolding image_of
image_length g = refl

-- ## Single values

pub short_back : (s : Option ℕ) → short_fit s ≡ true → short_of (short_byte s) ≡ s
unfolding short_fit
short_back None h = refl
short_back (Some a) h = rw (lt-ltb a 64 (omega (arith, leb-true a 63 h)))

pub walk_back : (w : Option ℕ) → walk_fit w ≡ true → walk_of (walk_byte w) ≡ w
unfolding walk_fit
walk_back None h = refl
walk_back (Some n) h = rw (lt-ltb n 17 (omega (arith, leb-true n 16 h)))

pub pair_back : (p : Option ℕ) → pair_of (eqb (open_flag p) 1) (open_frame p % 256 + 256 * (open_frame p / 256)) ≡ p
pair_back None = refl
pair_back (Some frame) = ap Some (word_back frame)

pub mode_back : (m : ColorMode) → mode_of (colour_type_byte m) ≡ m
mode_back NoMode = refl
mode_back Xy = refl
mode_back Cct = refl
mode_back Rgb = refl

random_back : (n : ℕ) → n % 256 + 256 * (n / 256 % 256) + 65536 * (n / 65536 % 256) + 16777216 * (n / 16777216) ≡ n
random_back n = omega arith

-- ## Parts

tint_back : (p : Tint) (t : List ℕ) → length p.levels ≡ 6 → tint_of (colour_in (put_colour (typed p) t)) ≡ p
tint_back p t h =
    λ i.
    record {
      mode = mode_back p.mode i;
      x = word_back p.x i;
      y = word_back p.y i;
      tc = word_back p.tc i;
      levels = bytes_back 6 p.levels [] h i;
      control = p.control;
    }

short_fit_lem : (u : Unit) → unit_fit 16 u ≡ true → short_fit u.short ≡ true
unfolding unit_fit
short_fit_lem u h =
    both_right (leb u.minimum 254) (short_fit u.short)
    (both_right (leb 1 u.minimum) _ (both_right (leb u.random 16777215) _ (both_right (leb u.count 16) _ h)))

-- ## The record

pub gear_back : (g : Gear) → Sound g → gear_of (image_of g) ≡ listed g
unfolding image_of gear_of
gear_back g (unit, walk, colour, settings, scenes, banks) =
    λ i.
    record {
      unit =
          record {
            short = short_back g.unit.short (short_fit_lem g.unit unit.0) i;
            random = random_back g.unit.random i;
            types = bytes_cut 16 (take g.unit.count g.unit.types) [] i;
            count = g.unit.count;
            adjustable = flag_back g.unit.adjustable i;
            holds = flag_back g.unit.holds i;
            bare = flag_back g.unit.bare i;
            minimum = g.unit.minimum;
          };
      levels =
          record {
            level = g.levels.level;
            last = g.levels.last;
            min = g.levels.min;
            max = g.levels.max;
            error = flag_back g.levels.error i;
          };
      marks =
          record {
            walk = walk_back g.marks.walk walk i;
            pair = pair_back g.marks.pair i;
            reset = flag_back g.marks.reset i;
            cycled = flag_back g.marks.cycled i;
            initialise = flag_back g.marks.initialise i;
            withdrawn = flag_back g.marks.withdrawn i;
            identifying = flag_back g.marks.identifying i;
            writable = flag_back g.marks.writable i;
          };
      colour =
          record {
            can =
                record {
                  tc = flag_back g.colour.can.tc i;
                  xy = flag_back g.colour.can.xy i;
                  channels = g.colour.can.channels;
                };
            limits =
                record {
                  stored =
                      record {
                        coolest = word_back g.colour.limits.stored.coolest i;
                        warmest = word_back g.colour.limits.stored.warmest i;
                      };
                  physical =
                      record {
                        coolest = word_back g.colour.limits.physical.coolest i;
                        warmest = word_back g.colour.limits.physical.warmest i;
                      };
                };
            active = tint_back g.colour.active [] colour.0 i;
            outside = flag_back g.colour.outside i;
            pending = tint_back g.colour.pending [] colour.1 i;
            report = colour_back g.colour.report [] colour.2 i;
            features = g.colour.features;
          };
      settings =
          record {
            on = setting_back g.settings.on [] settings.1 i;
            failure = setting_back g.settings.failure [] settings.2 i;
            fades =
                record {
                  time = g.settings.fades.time;
                  rate = g.settings.fades.rate;
                  extended = g.settings.fades.extended;
                };
            groups = flags_back 16 g.settings.groups [] settings.0 i;
            curve = g.settings.curve;
          };
      scenes = settings_back 16 g.scenes [] scenes.0 scenes.1 i;
      condition =
          record {
            enabled = flag_back g.condition.enabled i;
            lamp =
                record {
                  failure = flag_back g.condition.lamp.failure i;
                  starting = flag_back g.condition.lamp.starting i;
                };
            faults =
                record {
                  drop = word_back g.condition.faults.drop i;
                  forced = g.condition.faults.forced;
                  failure = g.condition.faults.failure;
                  unstored = flag_back g.condition.faults.unstored i;
                  holds = flag_back g.condition.faults.holds i;
                };
          };
      banks =
          record {
            identity = bytes_back 29 g.banks.identity [] banks.0 i;
            profile = bytes_back 17 g.banks.profile [] banks.1 i;
          };
    }
