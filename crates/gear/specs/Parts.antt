-- Parts of the record put back; the others stay.
use Rattle.std.specs.Prelude.{List}
use Rattle.gear.specs.declared.condition.Condition.{Condition}
use Rattle.gear.specs.declared.marks.Marks.{Marks}
use Rattle.gear.specs.declared.record.Gear.{Gear}
use Rattle.gear.specs.declared.settings.LevelSetting.{LevelSetting}
use Rattle.gear.specs.declared.settings.Settings.{Settings}
use Rattle.bank.specs.declared.build.Banks.{Banks}
use Rattle.colour.specs.declared.record.Colour.{Colour}
use Rattle.level.specs.declared.levels.Levels.{Levels}

-- all that a standard write may change; a reset makes the whole record anew
abbrev pub with_written : Gear → Levels → Marks → Colour → Settings → List LevelSetting → Gear
with_written g l m c s x =
    record { unit = g.unit; levels = l; marks = m; colour = c; settings = s; scenes = x; condition = g.condition; banks = g.banks }

-- what arc power commands and recalls change
abbrev pub with_light : Gear → Levels → Marks → Colour → Gear
with_light g l m c = with_written g l m c g.settings g.scenes

abbrev pub with_marks : Gear → Marks → Gear
with_marks g m = with_light g g.levels m g.colour

abbrev pub with_colour : Gear → Colour → Gear
with_colour g c = with_light g g.levels g.marks c

-- settings or scenes, with the colour that is left when a staged one went into them
abbrev pub with_settings : Gear → Settings → Colour → Gear
with_settings g s c = with_written g g.levels g.marks c s g.scenes

abbrev pub with_scenes : Gear → List LevelSetting → Colour → Gear
with_scenes g x c = with_written g g.levels g.marks c g.settings x

-- what no standard write but a reset changes
abbrev pub with_outside : Gear → Condition → Banks → Gear
with_outside g k b =
    record {
      unit = g.unit;
      levels = g.levels;
      marks = g.marks;
      colour = g.colour;
      settings = g.settings;
      scenes = g.scenes;
      condition = k;
      banks = b;
    }

abbrev pub with_condition : Gear → Condition → Gear
with_condition g k = with_outside g k g.banks

abbrev pub with_banks : Gear → Banks → Gear
with_banks g b = with_outside g g.condition b

-- what writes change, a power cycle of the levels too, and no other call
abbrev pub written : Gear → Levels × Settings × List LevelSetting
written g = (g.levels, g.settings, g.scenes)
