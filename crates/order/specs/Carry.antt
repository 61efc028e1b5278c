-- A row carried out, part by part.
use Rattle.std.specs.Prelude.{ℕ, Bool, true, false, List, eqb, None}
use Rattle.std.proofs.Math.Option.{Option, none, some}
use Rattle.order.specs.Rows.{BankStep, Clears, ColourStep, GroupSlot, LevelStep, Row, SceneSlot, SceneStep}
use Rattle.order.specs.Rows.BankStep.{Store}
use Rattle.order.specs.Rows.ColourStep.{Tc, Xy, Limit, Activated, SceneColour}
use Rattle.order.specs.Rows.GroupSlot.{NoGroup, Member}
use Rattle.order.specs.Rows.LevelStep.{ByCommand, Max, Min, SceneLevel}
use Rattle.order.specs.Rows.SceneSlot.{NoScene, At}
use Rattle.order.specs.Rows.SceneStep.{Put, Remove}
use Rattle.bank.specs.declared.build.Banks.{Banks}
use Rattle.bank.specs.Memory.{write_memory_location}
use Rattle.colour.specs.Activation.{activate}
use Rattle.colour.specs.declared.record.Colour.{Colour}
use Rattle.colour.specs.declared.setting.ColourSetting.{ColourSetting}
use Rattle.colour.specs.Staging.{load_temporaries_from, with_pending}
use Rattle.colour.specs.Steps.{store_tc_limit, tc_step, xy_step}
use Rattle.colour.specs.Tint.{unstaged}
use Rattle.gear.specs.declared.marks.Marks.{Marks}
use Rattle.gear.specs.declared.profile.Unit.{Unit as Profile}
use Rattle.gear.specs.declared.record.Gear.{Gear}
use Rattle.gear.specs.declared.settings.LevelSetting.{LevelSetting}
use Rattle.gear.specs.declared.settings.Settings.{Settings}
use Rattle.gear.specs.Profile.{fixed, floor}
use Rattle.gear.specs.Scene.{scene_at, stored}
use Rattle.gear.specs.Settings.{level_setting, unset}
use Rattle.gear.specs.Write.{recalled_levels}
use Rattle.level.specs.Arc.{arc_levels}
use Rattle.level.specs.declared.levels.Levels.{Levels}
use Rattle.level.specs.Levels.{set_max_level, set_min_level}
use Rattle.numbers.specs.Numbers.{pick}

-- what a step does, if there is one
abbrev pub does : {K A : Type 0} → (K → A → A) → Option K → A → A
does act none a = a
does act (some k) a = act k a

abbrev pub level_step : Profile → ℕ → LevelStep → Levels → Levels
level_step u v (ByCommand a) l = arc_levels l a
level_step u v (Max d) l = set_max_level l d
level_step u v (Min d) l = pick (fixed u) l (set_min_level l (floor u) d)
level_step u v SceneLevel l = recalled_levels l v

abbrev pub settled : Bool → Colour → Colour
settled true c = with_pending c (unstaged c.pending)
settled false c = c

abbrev pub colour_step : ColourSetting → ColourStep → Colour → Colour
colour_step s (Tc warmer) c = tc_step c warmer
colour_step s (Xy y up) c = xy_step c y up
colour_step s (Limit value selector) c = store_tc_limit c value selector
colour_step s Activated c = c
colour_step s SceneColour c = pick (eqb s.kind 0xFF) c (activate (load_temporaries_from c s))

abbrev pub set_level_of : ℕ → LevelSetting → LevelSetting
set_level_of d x = level_setting d x.colour

abbrev pub scene_step : SceneStep → LevelSetting → LevelSetting
scene_step (Put d) x = set_level_of d x
scene_step Remove x = unset

-- the scene that a row reads, before anything is stored
abbrev pub read_scene : SceneSlot → List LevelSetting → LevelSetting
read_scene NoScene scenes = unset
read_scene (At s step) scenes = scene_at scenes s

abbrev pub store : ℕ → Option SceneStep → List LevelSetting → List LevelSetting
store s none scenes = scenes
store s (some k) scenes = stored scenes s (scene_step k (scene_at scenes s))

abbrev pub store_scene : SceneSlot → List LevelSetting → List LevelSetting
store_scene NoScene scenes = scenes
store_scene (At s step) scenes = store s step scenes

abbrev pub store_group : GroupSlot → List Bool → List Bool
store_group NoGroup groups = groups
store_group (Member n b) groups = stored groups n b

abbrev pub store_byte : Bool → BankStep → Banks → Banks
store_byte unstored (Store bank offset value) b = (write_memory_location b unstored bank offset value).banks

abbrev pub set_number : ℕ → ℕ → ℕ
set_number d n = d

abbrev pub marked : Clears → Bool → Marks → Marks
marked k enables m =
    record {
      walk = pick k.walk None m.walk;
      pair = m.pair;
      reset = pick k.reset false m.reset;
      cycled = pick k.cycled false m.cycled;
      initialise = m.initialise;
      withdrawn = m.withdrawn;
      identifying = pick k.identifying false m.identifying;
      writable = pick enables true m.writable;
    }

abbrev pub carry_settings : Row → Settings → Settings
carry_settings r s =
    record {
      on = does set_level_of r.power_on s.on;
      failure = does set_level_of r.system_failure s.failure;
      fades =
          record {
            time = does set_number r.fade_time s.fades.time;
            rate = does set_number r.fade_rate s.fades.rate;
            extended = does set_number r.extended_fade s.fades.extended;
          };
      groups = store_group r.group s.groups;
      curve = s.curve;
    }

unfoldable pub carry : Row → Gear → Gear
carry r g =
    record {
      unit = g.unit;
      levels = does (level_step g.unit (read_scene r.scene g.scenes).level) r.level g.levels;
      marks = marked r.clears r.enables g.marks;
      colour = does (colour_step (read_scene r.scene g.scenes).colour) r.colour (settled r.settles g.colour);
      settings = carry_settings r g.settings;
      scenes = store_scene r.scene g.scenes;
      condition = g.condition;
      banks = does (store_byte g.condition.faults.unstored) r.bank g.banks;
    }
