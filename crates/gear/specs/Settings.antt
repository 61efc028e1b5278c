-- What the settings store, fresh, and one of it put back.
use Rattle.std.specs.Prelude.{ℕ, Bool, false, List, replicate}
use Rattle.gear.specs.declared.profile.Unit.{Unit}
use Rattle.gear.specs.declared.settings.Fades.{Fades}
use Rattle.gear.specs.declared.settings.LevelSetting.{LevelSetting}
use Rattle.gear.specs.declared.settings.Settings.{Settings}
use Rattle.gear.specs.declared.settings.StoredLevel.{StoredLevel}
use Rattle.gear.specs.Profile.{is_type}
use Rattle.colour.specs.declared.record.Capabilities.{Capabilities}
use Rattle.colour.specs.declared.record.Colour.{Colour}
use Rattle.colour.specs.declared.setting.ColourSetting.{ColourSetting}
use Rattle.colour.specs.Setting.{mask, factory}
use Rattle.colour.specs.Staging.{take_staged_colour}

abbrev pub level_setting : ℕ → ColourSetting → LevelSetting
level_setting v colour = record { level = v; colour = colour }

-- the highest level with the factory's colour
abbrev pub factory_setting : Unit → Capabilities → LevelSetting
factory_setting u can = level_setting 254 (factory (is_type u 8) can)

-- a scene without a level and without a colour
abbrev pub unset : LevelSetting
unset = level_setting 255 mask

abbrev pub factory_settings : Unit → Capabilities → Settings
factory_settings u can =
    record {
      on = factory_setting u can;
      failure = factory_setting u can;
      fades = record { time = 0; rate = 7; extended = 0 };
      groups = replicate 16 false;
      curve = 0;
    }

-- the level, with the staged colour where there is one, which is then taken away
unfoldable pub store_level_setting : LevelSetting → ℕ → Colour → StoredLevel
store_level_setting x v c =
    record {
      setting = level_setting v (take_staged_colour c x.colour).setting;
      colour = (take_staged_colour c x.colour).colour;
    }

-- ---- one of them put back

abbrev pub with_on : Settings → LevelSetting → Settings
with_on s x = record { on = x; failure = s.failure; fades = s.fades; groups = s.groups; curve = s.curve }

abbrev pub with_failure : Settings → LevelSetting → Settings
with_failure s x = record { on = s.on; failure = x; fades = s.fades; groups = s.groups; curve = s.curve }

abbrev pub with_fades : Settings → Fades → Settings
with_fades s x = record { on = s.on; failure = s.failure; fades = x; groups = s.groups; curve = s.curve }

abbrev pub with_groups : Settings → List Bool → Settings
with_groups s x = record { on = s.on; failure = s.failure; fades = s.fades; groups = x; curve = s.curve }
