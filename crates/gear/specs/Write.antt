-- Standard writes (part 102, 11.3 and 11.4; part 209, 9.11 and 9.12).
use Rattle.std.specs.Prelude.{ℕ, Bool, true, false, eqb, ltb, Option, Some, None}
use Rattle.gear.specs.declared.answer.Outcome.{Outcome}
use Rattle.gear.specs.declared.answer.Refusal.TheVariants.{Byte}
use Rattle.gear.specs.declared.command.ConfigCommand.{ConfigCommand}
use Rattle.gear.specs.declared.command.ConfigCommand.TheVariants.{SetMaxLevel, SetMinLevel, SetSystemFailureLevel, SetPowerOnLevel, SetFadeTime, SetFadeRate, SetExtendedFadeTime, SetScene, RemoveScene, AddToGroup, RemoveFromGroup}
use Rattle.gear.specs.declared.command.StandardCommand.{StandardCommand}
use Rattle.gear.specs.declared.command.StandardCommand.TheVariants.{Arc, GoToScene, Reset, IdentifyDevice, Config, EnableWriteMemory}
use Rattle.gear.specs.declared.profile.Unit.{Unit}
use Rattle.gear.specs.declared.record.Gear.{Gear}
use Rattle.gear.specs.declared.settings.LevelSetting.{LevelSetting}
use Rattle.gear.specs.declared.settings.StoredLevel.{StoredLevel}
use Rattle.gear.specs.Answer.{done, refused}
use Rattle.gear.specs.Command.{command_of}
use Rattle.gear.specs.Marks.{asked, configured, identified, enabled}
use Rattle.gear.specs.Parts.{with_light, with_marks, with_scenes, with_settings}
use Rattle.gear.specs.Profile.{floor, fixed}
use Rattle.gear.specs.Record.{reset_gear}
use Rattle.gear.specs.Scene.{scene_at, stored}
use Rattle.gear.specs.Serve.{serve}
use Rattle.gear.specs.Settings.{store_level_setting, unset, with_fades, with_failure, with_groups, with_on}
use Rattle.colour.specs.Activation.{arc_power, recall}
use Rattle.level.specs.Arc.{arc_levels}
use Rattle.level.specs.declared.arc.ArcCommand.{ArcCommand}
use Rattle.level.specs.declared.arc.ArcCommand.TheVariants.{DirectArcPower, Off, Up, Down, StepUp, StepDown, RecallMaxLevel, RecallMinLevel, StepDownAndOff, OnAndStepUp, GoToLastActiveLevel}
use Rattle.level.specs.declared.levels.Levels.{Levels}
use Rattle.level.specs.Levels.{set_level, set_min_level, set_max_level}
use Rattle.numbers.specs.Numbers.{pick}

-- the entry of a scene
abbrev pub scene : Gear → ℕ → LevelSetting
scene g s = scene_at g.scenes s

-- ---- commands that ask for a level

-- RecallMaxLevel and RecallMinLevel leave the identify mark
unfoldable pub keeps_identify : ArcCommand → Bool
keeps_identify (DirectArcPower v) = false
keeps_identify Off = false
keeps_identify Up = false
keeps_identify Down = false
keeps_identify StepUp = false
keeps_identify StepDown = false
keeps_identify RecallMaxLevel = true
keeps_identify RecallMinLevel = true
keeps_identify StepDownAndOff = false
keeps_identify OnAndStepUp = false
keeps_identify GoToLastActiveLevel = false

unfoldable pub arc_write : Gear → ArcCommand → Gear
arc_write g a = with_light g (arc_levels g.levels a) (asked g.marks (keeps_identify a)) (arc_power g.colour)

-- a scene level of 255 asks for none
unfoldable pub recalled_levels : Levels → ℕ → Levels
recalled_levels l v = pick (eqb v 255) l (set_level l v)

unfoldable pub recall_scene : Gear → ℕ → Gear
recall_scene g s = with_light g (recalled_levels g.levels (scene g s).level) (asked g.marks false) (recall g.colour (scene g s).colour)

-- ---- settings

-- a type 7 gear that is not adjustable keeps its lowest level
unfoldable pub set_min : Unit → Levels → ℕ → Levels
set_min u l v = pick (fixed u) l (set_min_level l (floor u) v)

-- above 79 it is 0
unfoldable pub extended_fade : ℕ → ℕ
extended_fade v = pick (ltb 79 v) 0 v

-- a level with the staged colour, in a scene or as another setting, with the colour record that is left
abbrev pub put_scene : Gear → ℕ → StoredLevel → Gear
put_scene g s x = with_scenes g (stored g.scenes s x.setting) x.colour

abbrev pub put_on : Gear → StoredLevel → Gear
put_on g x = with_settings g (with_on g.settings x.setting) x.colour

abbrev pub put_failure : Gear → StoredLevel → Gear
put_failure g x = with_settings g (with_failure g.settings x.setting) x.colour

unfoldable pub set_scene : Gear → ℕ → ℕ → Gear
set_scene g s v = put_scene g s (store_level_setting (scene g s) v g.colour)

unfoldable pub remove_scene : Gear → ℕ → Gear
remove_scene g s = with_scenes g (stored g.scenes s unset) g.colour

unfoldable pub set_power_on_level : Gear → ℕ → Gear
set_power_on_level g v = put_on g (store_level_setting g.settings.on v g.colour)

unfoldable pub set_system_failure_level : Gear → ℕ → Gear
set_system_failure_level g v = put_failure g (store_level_setting g.settings.failure v g.colour)

abbrev pub set_fades : Gear → ℕ → ℕ → ℕ → Gear
set_fades g time rate extended =
    with_settings g (with_fades g.settings (record { time = time; rate = rate; extended = extended })) g.colour

abbrev pub set_member : Gear → ℕ → Bool → Gear
set_member g n b = with_settings g (with_groups g.settings (stored g.settings.groups n b)) g.colour

-- what a setting stores, over the marks that every setting leaves
unfoldable pub config_write : Gear → ConfigCommand → ℕ → Gear
config_write g SetMaxLevel d = with_light g (set_max_level g.levels d) (configured g.marks) g.colour
config_write g SetMinLevel d = with_light g (set_min g.unit g.levels d) (configured g.marks) g.colour
config_write g SetSystemFailureLevel d = set_system_failure_level (with_marks g (configured g.marks)) d
config_write g SetPowerOnLevel d = set_power_on_level (with_marks g (configured g.marks)) d
config_write g SetFadeTime d = set_fades (with_marks g (configured g.marks)) d g.settings.fades.rate g.settings.fades.extended
config_write g SetFadeRate d = set_fades (with_marks g (configured g.marks)) g.settings.fades.time d g.settings.fades.extended
config_write g SetExtendedFadeTime d = set_fades (with_marks g (configured g.marks)) g.settings.fades.time g.settings.fades.rate (extended_fade d)
config_write g (SetScene s) d = set_scene (with_marks g (configured g.marks)) s d
config_write g (RemoveScene s) d = remove_scene (with_marks g (configured g.marks)) s
config_write g (AddToGroup n) d = set_member (with_marks g (configured g.marks)) n true
config_write g (RemoveFromGroup n) d = set_member (with_marks g (configured g.marks)) n false

unfoldable pub identify : Gear → Gear
identify g = with_marks g (identified g.marks)

unfoldable pub enable_write : Gear → Gear
enable_write g = with_marks g (enabled g.marks)

-- ---- the calls

unfoldable pub write : Gear → Option StandardCommand → ℕ → Outcome
write g (Some (Arc a)) d = done (arc_write g a)
write g (Some (GoToScene s)) d = done (recall_scene g s)
write g (Some Reset) d = done (reset_gear g.unit g.condition g.colour)
write g (Some IdentifyDevice) d = done (identify g)
write g (Some (Config k)) d = done (config_write g k d)
write g (Some EnableWriteMemory) d = done (enable_write g)
write g None d = refused g Byte

-- a byte that no write has is refused after an unfit record
unfoldable pub apply_standard_write : Gear → ℕ → ℕ → Outcome
apply_standard_write g byte d = serve g (write g (command_of byte) d)

unfoldable pub direct_arc_power : Gear → ℕ → Outcome
direct_arc_power g v = serve g (done (arc_write g (DirectArcPower v)))
