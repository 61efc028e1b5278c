-- Two rows without a common key, carried out in either order, leave the same record: a line for each part.
use Prim.Native.Nat.{ℕ}
use mathlib.Core.Path.{◌≡◌, ◌∙◌, sym, ap}
use Rattle.std.specs.Prelude.{None}
use Rattle.order.specs.Keys.{Disjoint}
use Rattle.order.specs.Keys.Key.{Level, Colour as ColourKey, FadeTime, FadeRate, ExtendedFade, PowerOn, SystemFailure, Bank1}
use Rattle.order.specs.Carry.{carry, carry_settings, colour_step, does, level_step, marked, read_scene, set_level_of, set_number, settled, store_byte}
use Rattle.order.specs.Rows.{Row, columns, joined}
use Rattle.order.proofs.Columns.{Parted, does_swap, group_swap, parted, pick_swap, read_scene_lem, scene_swap, settled_does, settled_swap, turned}
use Rattle.colour.specs.declared.record.Colour.{Colour}
use Rattle.colour.specs.declared.setting.ColourSetting.{ColourSetting}
use Rattle.gear.specs.declared.marks.Marks.{Marks}
use Rattle.gear.specs.declared.record.Gear.{Gear}
use Rattle.gear.specs.declared.settings.Settings.{Settings}
use mathlib.Core.Bool.{true, false}

module _ (r q : Row) (d : Parted r q) (g : Gear) where
  levels_swap :
      (x y : ℕ) → does (level_step g.unit y) q.level (does (level_step g.unit x) r.level g.levels) ≡
      does (level_step g.unit x) r.level (does (level_step g.unit y) q.level g.levels)
  levels_swap x y = does_swap Level (level_step g.unit x) (level_step g.unit y) r.level q.level d.level g.levels

  colours_swap :
      (x y : ColourSetting) (c : Colour) →
      does (colour_step y) q.colour (settled q.settles (does (colour_step x) r.colour (settled r.settles c))) ≡
      does (colour_step x) r.colour (settled r.settles (does (colour_step y) q.colour (settled q.settles c)))
  colours_swap x y c =
      ap (does (colour_step y) q.colour) (sym (settled_does x r.colour q.settles (settled r.settles c))) ∙
      does_swap ColourKey (colour_step x) (colour_step y) r.colour q.colour d.colour (settled q.settles (settled r.settles c)) ∙
      ap (λ z. does (colour_step x) r.colour (does (colour_step y) q.colour z)) (settled_swap r.settles q.settles c) ∙
      ap (does (colour_step x) r.colour) (settled_does y q.colour r.settles (settled q.settles c))

  marks_swap :
      (m : Marks) → marked q.clears q.enables (marked r.clears r.enables m) ≡ marked r.clears r.enables (marked q.clears q.enables m)
  marks_swap m = λ i.
      record {
        walk = pick_swap r.clears.walk q.clears.walk None m.walk i;
        pair = m.pair;
        reset = pick_swap r.clears.reset q.clears.reset false m.reset i;
        cycled = pick_swap r.clears.cycled q.clears.cycled false m.cycled i;
        initialise = m.initialise;
        withdrawn = m.withdrawn;
        identifying = pick_swap r.clears.identifying q.clears.identifying false m.identifying i;
        writable = pick_swap r.enables q.enables true m.writable i;
      }

  settings_swap : (s : Settings) → carry_settings q (carry_settings r s) ≡ carry_settings r (carry_settings q s)
  settings_swap s = λ i.
      record {
        on = does_swap PowerOn set_level_of set_level_of r.power_on q.power_on d.power_on s.on i;
        failure = does_swap SystemFailure set_level_of set_level_of r.system_failure q.system_failure d.system_failure s.failure i;
        fades =
            record {
              time = does_swap FadeTime set_number set_number r.fade_time q.fade_time d.fade_time s.fades.time i;
              rate = does_swap FadeRate set_number set_number r.fade_rate q.fade_rate d.fade_rate s.fades.rate i;
              extended = does_swap ExtendedFade set_number set_number r.extended_fade q.extended_fade d.extended_fade s.fades.extended i;
            };
        groups = group_swap r.group q.group d.group s.groups i;
        curve = s.curve;
      }

  parts_swap : carry q (carry r g) ≡ carry r (carry q g)
  unfolding carry
  parts_swap =
      let one = read_scene r.scene g.scenes in
      let other = read_scene q.scene g.scenes in
      rw (read_scene_lem q.scene r.scene (turned d.scene) g.scenes, read_scene_lem r.scene q.scene d.scene g.scenes)
      (λ i.
      record {
        unit = g.unit;
        levels = levels_swap one.level other.level i;
        marks = marks_swap g.marks i;
        colour = colours_swap one.colour other.colour g.colour i;
        settings = settings_swap g.settings i;
        scenes = scene_swap r.scene q.scene d.scene g.scenes i;
        condition = g.condition;
        banks =
            does_swap Bank1 (store_byte g.condition.faults.unstored) (store_byte g.condition.faults.unstored) r.bank q.bank d.bank g.banks
            i;
      })

pub carry_swap : (r q : Row) (g : Gear) → Disjoint (joined (columns r)) (joined (columns q)) → carry q (carry r g) ≡ carry r (carry q g)
carry_swap r q g d = parts_swap r q (parted r q d) g
