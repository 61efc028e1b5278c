-- Records for examples, each one that calls lead to.
use Rattle.std.specs.Prelude.{ℕ, true, false, ◌∷◌, replicate, None}
use Rattle.calls.specs.Colours.{activate_call, set_features_call, stage_call}
use Rattle.colour.specs.declared.setting.ColourSetting.{ColourSetting}
use Rattle.gear.specs.declared.profile.Profile.{Profile}
use Rattle.gear.specs.declared.record.Gear.{Gear}
use Rattle.gear.specs.Record.{fresh_gear}
use Rattle.gear.specs.Write.{apply_standard_write}

-- a colour gear with physical minimum 1 and the physical pair 153 to 400
abbrev pub profile : Profile
profile =
    record {
      unit =
          record {
            short = None;
            random = 0;
            types = 6 ∷ 8 ∷ replicate 14 0;
            count = 2;
            adjustable = false;
            holds = false;
            bare = false;
            minimum = 1;
          };
      can = record { tc = true; xy = false; channels = 0 };
      physical = record { coolest = 153; warmest = 400 };
    }

abbrev pub gear : Gear
gear = fresh_gear profile

abbrev pub tc : ℕ → ColourSetting
tc mirek = record { kind = 0x20; x = 0xFFFF; y = 0xFFFF; tc = mirek; levels = replicate 6 0xFF; control = 0xFF }

-- 300 staged
abbrev pub staged : Gear
staged = (stage_call gear (tc 300)).gear

-- 300 activated: it is left over under mode none
abbrev pub used : Gear
used = (activate_call staged).gear

-- Tc 0 in scene 0, by SetScene, and activation off
abbrev pub manual : Gear
manual = (set_features_call (apply_standard_write (stage_call gear (tc 0)).gear 64 254).gear 0).gear
