-- On a record that is fit, with no mode staged and activation on, every keyed write does what its row says.
use Prim.Native.Nat.{ℕ}
use mathlib.Core.Path.{◌≡◌, refl, ◌∙◌, ap}
use mathlib.Core.Bool.{Bool, true, false}
use mathlib.Core.List.{[]}
use Rattle.order.specs.Keys.{Keyed, command_keys, keys}
use Rattle.order.specs.Premises.{Ready}
use Rattle.order.specs.Carry.{carry, colour_step, marked, set_level_of, settled}
use Rattle.order.specs.Rows.ColourStep.{SceneColour}
use Rattle.order.specs.Table.{arc_row, asking, command_row, config_row, row}
use Rattle.order.specs.Writes.{Write, after, call_of, perform}
use Rattle.order.specs.Writes.Write.{ArcPower, Standard, TcStep, XyStep, TcLimit, Activation, Memory}
use Rattle.calls.specs.Colours.{activate_call, recoloured, store_tc_limit_call, tc_step_call, xy_step_call}
use Rattle.calls.specs.Memory.{rebanked, write_memory_call}
use Rattle.colour.specs.Activation.{arc_power, automatic, recall}
use Rattle.colour.specs.declared.record.Colour.{Colour}
use Rattle.colour.specs.declared.setting.ColourSetting.{ColourSetting}
use Rattle.colour.specs.declared.tint.ColorMode.TheVariants.{None}
use Rattle.colour.specs.Staging.{load_temporaries_from, take_staged_colour}
use Rattle.colour.proofs.Left.{activate_none}
use Rattle.demands.specs.Calls.{perform as perform_call}
use Rattle.demands.specs.Fit.{Fit}
use Rattle.demands.proofs.Fit.{fit_exactly}
use Rattle.gear.specs.Command.{command_of}
use Rattle.gear.specs.declared.answer.Outcome.{Outcome}
use Rattle.gear.specs.declared.command.ConfigCommand.{ConfigCommand}
use Rattle.gear.specs.declared.command.ConfigCommand.TheVariants.{SetMaxLevel, SetMinLevel, SetSystemFailureLevel, SetPowerOnLevel, SetFadeTime, SetFadeRate, SetExtendedFadeTime, SetScene, RemoveScene, AddToGroup, RemoveFromGroup}
use Rattle.std.specs.Prelude.{Option, Some, None as NoWrite}
use Rattle.gear.specs.declared.command.StandardCommand.{StandardCommand}
use Rattle.gear.specs.declared.command.StandardCommand.TheVariants.{Arc, GoToScene, Reset, IdentifyDevice, Config, EnableWriteMemory}
use Rattle.gear.specs.declared.marks.Marks.{Marks}
use Rattle.gear.specs.declared.record.Gear.{Gear}
use Rattle.gear.specs.declared.settings.LevelSetting.{LevelSetting}
use Rattle.gear.specs.Marks.{asked, configured, enabled}
use Rattle.gear.specs.Parts.{with_light, with_marks}
use Rattle.gear.specs.Serve.{serve}
use Rattle.gear.specs.Settings.{store_level_setting}
use Rattle.gear.specs.Write.{apply_standard_write, arc_write, config_write, direct_arc_power, enable_write, keeps_identify, put_failure, put_on, put_scene, recall_scene, recalled_levels, remove_scene, scene, set_min, set_power_on_level, set_scene, set_system_failure_level, write}
use Rattle.level.specs.Arc.{arc_levels}
use Rattle.level.specs.declared.arc.ArcCommand.{ArcCommand}
use Rattle.level.specs.declared.arc.ArcCommand.TheVariants.{DirectArcPower}

-- ---- the colour, with no mode staged and activation on

settles : (c : Colour) → c.pending.mode ≡ None → automatic c ≡ true → arc_power c ≡ settled true c
unfolding arc_power
settles c e a = rw a (activate_none c e)

recalls : (c : Colour) (s : ColourSetting) → automatic c ≡ true → recall c s ≡ colour_step s SceneColour c
unfolding recall arc_power automatic load_temporaries_from
recalls c s a = rw a

-- a setting gets its level and keeps its colour
stores :
    (x : LevelSetting) (d : ℕ) (c : Colour) → c.pending.mode ≡ None → store_level_setting x d c ≡ record { setting = set_level_of d x; colour = c }
unfolding store_level_setting take_staged_colour
stores x d c e = rw e

-- ---- the marks

asked_marked : (m : Marks) (keeps : Bool) → asked m keeps ≡ marked (asking keeps) false m
unfolding asked
asked_marked m true = refl
asked_marked m false = refl

-- ---- commands

arc_rowed : (g : Gear) (a : ArcCommand) → Ready g → arc_write g a ≡ carry (arc_row a) g
unfolding arc_write carry
arc_rowed g a h = λ i.
    with_light g (arc_levels g.levels a) (asked_marked g.marks (keeps_identify a) i) (settles g.colour h.unstaged h.activates i)

scene_rowed : (g : Gear) (s d : ℕ) → Ready g → recall_scene g s ≡ carry (command_row (Some (GoToScene s)) d) g
unfolding recall_scene carry command_row
scene_rowed g s d h = λ i.
    with_light g (recalled_levels g.levels (scene g s).level) (asked_marked g.marks false i)
    (recalls g.colour (scene g s).colour h.activates i)

abbrev set : Gear → Gear
set g = with_marks g (configured g.marks)

config_rowed : (g : Gear) (k : ConfigCommand) (d : ℕ) → Ready g → config_write g k d ≡ carry (config_row k d) g
unfolding config_write carry config_row configured set_min set_scene remove_scene set_power_on_level set_system_failure_level
config_rowed g SetMaxLevel d h = refl
config_rowed g SetMinLevel d h = refl
config_rowed g SetSystemFailureLevel d h = ap (put_failure (set g)) (stores g.settings.failure d g.colour h.unstaged)
config_rowed g SetPowerOnLevel d h = ap (put_on (set g)) (stores g.settings.on d g.colour h.unstaged)
config_rowed g SetFadeTime d h = refl
config_rowed g SetFadeRate d h = refl
config_rowed g SetExtendedFadeTime d h = refl
config_rowed g (SetScene s) d h = ap (put_scene (set g) s) (stores (scene g s) d g.colour h.unstaged)
config_rowed g (RemoveScene s) d h = refl
config_rowed g (AddToGroup n) d h = refl
config_rowed g (RemoveFromGroup n) d h = refl

command_rowed : (g : Gear) (k : Option StandardCommand) (d : ℕ) → (command_keys k ≡ [] → ⊥) → Ready g → (write g k d).gear ≡ carry (command_row k d) g
unfolding write carry command_row command_keys enable_write enabled
command_rowed g (Some (Arc a)) d n h = arc_rowed g a h
command_rowed g (Some (GoToScene s)) d n h = scene_rowed g s d h
command_rowed g (Some Reset) d n h = absurd (n refl)
command_rowed g (Some IdentifyDevice) d n h = absurd (n refl)
command_rowed g (Some (Config k)) d n h = config_rowed g k d h
command_rowed g (Some EnableWriteMemory) d n h = refl
command_rowed g NoWrite d n h = absurd (n refl)

-- ---- calls

served : (g : Gear) (o : Outcome) → Fit g → (serve g o).gear ≡ o.gear
unfolding serve
served g o f = rw ((fit_exactly g).0 f)

pub rowed : (w : Write) (g : Gear) → Keyed w → Ready g → after w g ≡ carry (row w) g
unfolding perform perform_call call_of row keys carry direct_arc_power apply_standard_write tc_step_call xy_step_call store_tc_limit_call activate_call write_memory_call recoloured rebanked
rowed (ArcPower v) g k h = served g _ h.fit ∙ arc_rowed g (DirectArcPower v) h
rowed (Standard byte d) g k h = served g _ h.fit ∙ command_rowed g (command_of byte) d k.key h
rowed (TcStep warmer) g k h = served g _ h.fit
rowed (XyStep y up) g k h = served g _ h.fit
rowed (TcLimit v s) g k h = served g _ h.fit
rowed Activation g k h = served g _ h.fit ∙ ap (with_light g g.levels g.marks) (activate_none g.colour h.unstaged)
rowed (Memory bank offset v) g k h = served g _ h.fit
