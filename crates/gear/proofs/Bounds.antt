-- 'Level is 0 or within min..max' is kept by every write to a fit record.
use Prim.Native.Nat.{ℕ, ◌≤◌}
use mathlib.Core.Path.{refl}
use mathlib.Core.Logic.{inl}
use lib.Dec.{eqb}
use Rattle.gear.specs.declared.answer.Outcome.{Outcome}
use Rattle.gear.specs.declared.command.ConfigCommand.{ConfigCommand}
use Rattle.gear.specs.declared.command.ConfigCommand.TheVariants.{SetMaxLevel, SetMinLevel, SetSystemFailureLevel, SetPowerOnLevel, SetFadeTime, SetFadeRate, SetExtendedFadeTime, SetScene, RemoveScene, AddToGroup, RemoveFromGroup}
use Rattle.std.specs.Prelude.{Option, Some, None}
use Rattle.gear.specs.declared.command.StandardCommand.{StandardCommand}
use Rattle.gear.specs.declared.command.StandardCommand.TheVariants.{Arc, GoToScene, Reset, IdentifyDevice, Config, EnableWriteMemory}
use Rattle.gear.specs.declared.record.Gear.{Gear}
use Rattle.gear.specs.Command.{command_of}
use Rattle.gear.specs.Profile.{fixed}
use Rattle.gear.specs.Record.{fitb, reset_gear}
use Rattle.gear.specs.Serve.{serve}
use Rattle.gear.specs.Write.{scene, arc_write, recalled_levels, recall_scene, set_min, set_scene, remove_scene, set_power_on_level, set_system_failure_level, config_write, identify, enable_write, write, apply_standard_write, direct_arc_power}
use Rattle.gear.proofs.Fit.{GearFit, facts}
use Rattle.level.specs.declared.arc.ArcCommand.TheVariants.{DirectArcPower}
use Rattle.level.specs.declared.levels.Levels.{Levels}
use Rattle.level.specs.Levels.{Bounded}
use Rattle.level.proofs.Bounds as LevelBounds
use Rattle.level.proofs.Fit as LevelFit
use Rattle.numbers.proofs.Logic.{by_cases}

recalled_bounded : (l : Levels) (v : ℕ) → l.min ≤ l.max → Bounded l → Bounded (recalled_levels l v)
unfolding recalled_levels
recalled_bounded l v h b = by_cases (eqb v 255) (λ e. rw e b) (λ e. rw e (LevelBounds.set_level_bounded l v h))

set_min_bounded : (g : Gear) (v : ℕ) → GearFit g → Bounded g.levels → Bounded (set_min g.unit g.levels v)
unfolding set_min
set_min_bounded g v f b =
    by_cases (fixed g.unit) (λ e. rw e b)
    (λ e. rw e (LevelBounds.set_min_bounded g.levels v (LevelFit.set_min_kept v f.levels)))

config_bounded : (g : Gear) (k : ConfigCommand) (d : ℕ) → GearFit g → Bounded g.levels → Bounded (config_write g k d).levels
unfolding config_write set_scene remove_scene set_power_on_level set_system_failure_level
config_bounded g SetMaxLevel d f b = LevelBounds.set_max_bounded g.levels d (LevelFit.set_max_kept d f.levels)
config_bounded g SetMinLevel d f b = set_min_bounded g d f b
config_bounded g SetSystemFailureLevel d f b = b
config_bounded g SetPowerOnLevel d f b = b
config_bounded g SetFadeTime d f b = b
config_bounded g SetFadeRate d f b = b
config_bounded g SetExtendedFadeTime d f b = b
config_bounded g (SetScene s) d f b = b
config_bounded g (RemoveScene s) d f b = b
config_bounded g (AddToGroup n) d f b = b
config_bounded g (RemoveFromGroup n) d f b = b

pub write_bounded : (g : Gear) (k : Option StandardCommand) (d : ℕ) → GearFit g → Bounded g.levels → Bounded (write g k d).gear.levels
unfolding write arc_write recall_scene identify enable_write reset_gear
write_bounded g (Some (Arc a)) d f b = LevelBounds.arc_bounded g.levels a f.levels.order b
write_bounded g (Some (GoToScene s)) d f b = recalled_bounded g.levels (scene g s).level f.levels.order b
write_bounded g (Some Reset) d f b = inl refl
write_bounded g (Some IdentifyDevice) d f b = b
write_bounded g (Some (Config k)) d f b = config_bounded g k d f b
write_bounded g (Some EnableWriteMemory) d f b = b
write_bounded g None d f b = b

-- a served outcome that keeps the bound
pub serve_bounded :
    (g : Gear) (o : Outcome) → (GearFit g → Bounded g.levels → Bounded o.gear.levels) → Bounded g.levels →
    Bounded (serve g o).gear.levels
unfolding serve
serve_bounded g o kept b = by_cases (fitb g) (λ e. rw e (kept (facts g e) b)) (λ e. rw e b)

pub standard_write_bounded : (g : Gear) (byte d : ℕ) → Bounded g.levels → Bounded (apply_standard_write g byte d).gear.levels
unfolding apply_standard_write
standard_write_bounded g byte d = serve_bounded g (write g (command_of byte) d) (write_bounded g (command_of byte) d)

pub arc_power_bounded : (g : Gear) (v : ℕ) → Bounded g.levels → Bounded (direct_arc_power g v).gear.levels
unfolding direct_arc_power arc_write
arc_power_bounded g v = serve_bounded g _ (λ f b. LevelBounds.arc_bounded g.levels (DirectArcPower v) f.levels.order b)
