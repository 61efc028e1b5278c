-- Every write from a fit record gives a fit record.
use Prim.Native.Nat.{ℕ}
use mathlib.Core.Path.{◌≡◌, refl}
use mathlib.Core.Bool.{true}
use lib.Dec.{eqb}
use Rattle.gear.specs.declared.command.ConfigCommand.{ConfigCommand}
use Rattle.gear.specs.declared.command.ConfigCommand.TheVariants.{SetMaxLevel, SetMinLevel, SetSystemFailureLevel, SetPowerOnLevel, SetFadeTime, SetFadeRate, SetExtendedFadeTime, SetScene, RemoveScene, AddToGroup, RemoveFromGroup}
use Rattle.std.specs.Prelude.{Option, Some, None}
use Rattle.gear.specs.declared.command.StandardCommand.{StandardCommand}
use Rattle.gear.specs.declared.command.StandardCommand.TheVariants.{Arc, GoToScene, Reset, IdentifyDevice, Config, EnableWriteMemory}
use Rattle.gear.specs.declared.answer.Outcome.{Outcome}
use Rattle.gear.specs.declared.record.Gear.{Gear}
use Rattle.gear.specs.Command.{command_of}
use Rattle.gear.specs.Marks.{asked, configured, identified, enabled, walk_fit}
use Rattle.gear.specs.Profile.{floor, fixed}
use Rattle.gear.specs.Record.{fitb, reset_gear}
use Rattle.gear.specs.Serve.{serve}
use Rattle.gear.specs.Settings.{store_level_setting}
use Rattle.gear.specs.Write.{scene, arc_write, recalled_levels, recall_scene, set_min, set_scene, remove_scene, set_power_on_level, set_system_failure_level, config_write, identify, enable_write, write, apply_standard_write, direct_arc_power}
use Rattle.gear.proofs.Fit.{GearFit, facts, fit, floor_low}
use Rattle.colour.proofs.Kept as ColourKept
use Rattle.colour.proofs.KeptLimits as ColourLimits
use Rattle.level.specs.declared.arc.ArcCommand.{ArcCommand}
use Rattle.level.specs.declared.arc.ArcCommand.TheVariants.{DirectArcPower}
use Rattle.level.specs.declared.levels.Levels.{Levels}
use Rattle.level.proofs.Fit as LevelFit
use Rattle.numbers.proofs.Logic.{by_cases}

arc_kept : (g : Gear) (a : ArcCommand) → GearFit g → GearFit (arc_write g a)
unfolding arc_write asked walk_fit
arc_kept g a f =
    record { unit = f.unit; levels = LevelFit.arc_kept a f.levels; colour = ColourKept.arc_power_kept f.colour; walk = refl }

recalled_kept : {low : ℕ} {l : Levels} (v : ℕ) → LevelFit.Fit low l → LevelFit.Fit low (recalled_levels l v)
unfolding recalled_levels
recalled_kept v f = by_cases (eqb v 255) (λ e. rw e f) (λ e. rw e (LevelFit.set_level_kept v f))

recall_kept : (g : Gear) (s : ℕ) → GearFit g → GearFit (recall_scene g s)
unfolding recall_scene asked walk_fit
recall_kept g s f =
    record {
      unit = f.unit;
      levels = recalled_kept (scene g s).level f.levels;
      colour = ColourKept.recall_kept (scene g s).colour f.colour;
      walk = refl;
    }

set_min_kept : (g : Gear) (v : ℕ) → GearFit g → LevelFit.Fit (floor g.unit) (set_min g.unit g.levels v)
unfolding set_min
set_min_kept g v f = by_cases (fixed g.unit) (λ e. rw e f.levels) (λ e. rw e (LevelFit.set_min_kept v f.levels))

config_kept : (g : Gear) (k : ConfigCommand) (d : ℕ) → GearFit g → GearFit (config_write g k d)
unfolding config_write configured walk_fit set_scene remove_scene set_power_on_level set_system_failure_level store_level_setting
config_kept g SetMaxLevel d f =
    record { unit = f.unit; levels = LevelFit.set_max_kept d f.levels; colour = f.colour; walk = refl }
config_kept g SetMinLevel d f = record { unit = f.unit; levels = set_min_kept g d f; colour = f.colour; walk = refl }
config_kept g SetSystemFailureLevel d f =
    record { unit = f.unit; levels = f.levels; colour = ColourKept.take_staged_kept g.settings.failure.colour f.colour; walk = refl }
config_kept g SetPowerOnLevel d f =
    record { unit = f.unit; levels = f.levels; colour = ColourKept.take_staged_kept g.settings.on.colour f.colour; walk = refl }
config_kept g SetFadeTime d f = record { unit = f.unit; levels = f.levels; colour = f.colour; walk = refl }
config_kept g SetFadeRate d f = record { unit = f.unit; levels = f.levels; colour = f.colour; walk = refl }
config_kept g SetExtendedFadeTime d f = record { unit = f.unit; levels = f.levels; colour = f.colour; walk = refl }
config_kept g (SetScene s) d f =
    record { unit = f.unit; levels = f.levels; colour = ColourKept.take_staged_kept (scene g s).colour f.colour; walk = refl }
config_kept g (RemoveScene s) d f = record { unit = f.unit; levels = f.levels; colour = f.colour; walk = refl }
config_kept g (AddToGroup n) d f = record { unit = f.unit; levels = f.levels; colour = f.colour; walk = refl }
config_kept g (RemoveFromGroup n) d f = record { unit = f.unit; levels = f.levels; colour = f.colour; walk = refl }

reset_kept : (g : Gear) → GearFit g → GearFit (reset_gear g.unit g.condition g.colour)
unfolding reset_gear walk_fit
reset_kept g f =
    let m = floor_low 16 g.unit f.unit in
    record {
      unit = f.unit;
      levels = LevelFit.fresh_fit (floor g.unit) g.unit.minimum m.0 m.1;
      colour = ColourLimits.reset_kept f.colour;
      walk = refl;
    }

marked_kept : (g : Gear) → GearFit g → GearFit (identify g)
unfolding identify identified walk_fit
marked_kept g f = record { unit = f.unit; levels = f.levels; colour = f.colour; walk = refl }

enabled_kept : (g : Gear) → GearFit g → GearFit (enable_write g)
unfolding enable_write enabled walk_fit
enabled_kept g f = record { unit = f.unit; levels = f.levels; colour = f.colour; walk = refl }

pub write_kept : (g : Gear) (k : Option StandardCommand) (d : ℕ) → GearFit g → GearFit (write g k d).gear
unfolding write
write_kept g (Some (Arc a)) d f = arc_kept g a f
write_kept g (Some (GoToScene s)) d f = recall_kept g s f
write_kept g (Some Reset) d f = reset_kept g f
write_kept g (Some IdentifyDevice) d f = marked_kept g f
write_kept g (Some (Config k)) d f = config_kept g k d f
write_kept g (Some EnableWriteMemory) d f = enabled_kept g f
write_kept g None d f = f

-- ---- the calls

-- a served outcome that keeps fit records fit
pub serve_kept : (g : Gear) (o : Outcome) → (GearFit g → GearFit o.gear) → fitb g ≡ true → fitb (serve g o).gear ≡ true
unfolding serve
serve_kept g o kept e = rw e (fit (kept (facts g e)))

pub standard_write_kept : (g : Gear) (byte d : ℕ) → fitb g ≡ true → fitb (apply_standard_write g byte d).gear ≡ true
unfolding apply_standard_write
standard_write_kept g byte d = serve_kept g (write g (command_of byte) d) (write_kept g (command_of byte) d)

pub arc_power_kept : (g : Gear) (v : ℕ) → fitb g ≡ true → fitb (direct_arc_power g v).gear ≡ true
unfolding direct_arc_power
arc_power_kept g v = serve_kept g _ (arc_kept g (DirectArcPower v))
