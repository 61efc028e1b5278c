-- The table: the row of each write.
use Rattle.std.specs.Prelude.{ℕ, Bool, true, false, not, Option as RustOption, Some, None}
use Rattle.std.proofs.Math.Option.{Option, none, some}
use Rattle.order.specs.Rows.{Row, Clears, LevelStep, ColourStep, SceneSlot, GroupSlot, BankStep}
use Rattle.order.specs.Rows.BankStep.{Store}
use Rattle.order.specs.Rows.ColourStep.{Tc, Xy, Limit, Activated, SceneColour}
use Rattle.order.specs.Rows.GroupSlot.{NoGroup, Member}
use Rattle.order.specs.Rows.LevelStep.{ByCommand, Max, Min, SceneLevel}
use Rattle.order.specs.Rows.SceneSlot.{NoScene, At}
use Rattle.order.specs.Rows.SceneStep.{Put, Remove}
use Rattle.order.specs.Writes.{Write}
use Rattle.order.specs.Writes.Write.{ArcPower, Standard, TcStep, XyStep, TcLimit, Activation, Memory}
use Rattle.gear.specs.Command.{command_of}
use Rattle.gear.specs.declared.command.ConfigCommand.{ConfigCommand}
use Rattle.gear.specs.declared.command.ConfigCommand.TheVariants.{SetMaxLevel, SetMinLevel, SetSystemFailureLevel, SetPowerOnLevel, SetFadeTime, SetFadeRate, SetExtendedFadeTime, SetScene, RemoveScene, AddToGroup, RemoveFromGroup}
use Rattle.gear.specs.declared.command.StandardCommand.{StandardCommand}
use Rattle.gear.specs.declared.command.StandardCommand.TheVariants.{Arc, GoToScene, Reset, IdentifyDevice, Config, EnableWriteMemory}
use Rattle.gear.specs.Write.{extended_fade, keeps_identify}
use Rattle.level.specs.declared.arc.ArcCommand.{ArcCommand}
use Rattle.level.specs.declared.arc.ArcCommand.TheVariants.{DirectArcPower}

-- ---- which marks each kind of write clears

abbrev pub asking : Bool → Clears
asking keeps = record { walk = true; reset = false; cycled = true; identifying = not keeps }

abbrev pub setting : Clears
setting = record { walk = true; reset = true; cycled = false; identifying = true }

abbrev pub enabling : Clears
enabling = record { walk = true; reset = false; cycled = false; identifying = true }

abbrev pub nothing : Clears
nothing = record { walk = false; reset = false; cycled = false; identifying = false }

-- ---- rows by the parts that they ask something of

abbrev pub light_row : Option LevelStep → Option ColourStep → SceneSlot → (settles : Bool) → Clears → Row
light_row level colour scene settles clears =
    record {
      level = level;
      colour = colour;
      scene = scene;
      fade_time = none;
      fade_rate = none;
      extended_fade = none;
      power_on = none;
      system_failure = none;
      enables = false;
      group = NoGroup;
      bank = none;
      settles = settles;
      clears = clears;
    }

abbrev pub store_row : (fade_time fade_rate extended_fade power_on system_failure : Option ℕ) → GroupSlot → Row
store_row fade_time fade_rate extended_fade power_on system_failure group =
    record {
      level = none;
      colour = none;
      scene = NoScene;
      fade_time = fade_time;
      fade_rate = fade_rate;
      extended_fade = extended_fade;
      power_on = power_on;
      system_failure = system_failure;
      enables = false;
      group = group;
      bank = none;
      settles = false;
      clears = setting;
    }

abbrev pub memory_row : (enables : Bool) → Option BankStep → Clears → Row
memory_row enables bank clears =
    record {
      level = none;
      colour = none;
      scene = NoScene;
      fade_time = none;
      fade_rate = none;
      extended_fade = none;
      power_on = none;
      system_failure = none;
      enables = enables;
      group = NoGroup;
      bank = bank;
      settles = false;
      clears = clears;
    }

-- ---- the table

abbrev pub arc_row : ArcCommand → Row
arc_row a = light_row (some (ByCommand a)) none NoScene true (asking (keeps_identify a))

abbrev pub colour_row : ColourStep → (settles : Bool) → Row
colour_row step settles = light_row none (some step) NoScene settles nothing

unfoldable pub config_row : ConfigCommand → ℕ → Row
config_row SetMaxLevel d = light_row (some (Max d)) none NoScene false setting
config_row SetMinLevel d = light_row (some (Min d)) none NoScene false setting
config_row SetSystemFailureLevel d = store_row none none none none (some d) NoGroup
config_row SetPowerOnLevel d = store_row none none none (some d) none NoGroup
config_row SetFadeTime d = store_row (some d) none none none none NoGroup
config_row SetFadeRate d = store_row none (some d) none none none NoGroup
config_row SetExtendedFadeTime d = store_row none none (some (extended_fade d)) none none NoGroup
config_row (SetScene s) d = light_row none none (At s (some (Put d))) false setting
config_row (RemoveScene s) d = light_row none none (At s (some Remove)) false setting
config_row (AddToGroup n) d = store_row none none none none none (Member n true)
config_row (RemoveFromGroup n) d = store_row none none none none none (Member n false)

-- the commands without keys have no row of their own
unfoldable pub command_row : RustOption StandardCommand → ℕ → Row
command_row (Some (Arc a)) d = arc_row a
command_row (Some (GoToScene s)) d = light_row (some SceneLevel) (some SceneColour) (At s none) false (asking false)
command_row (Some (Config k)) d = config_row k d
command_row (Some EnableWriteMemory) d = memory_row true none enabling
command_row (Some Reset) d = memory_row false none nothing
command_row (Some IdentifyDevice) d = memory_row false none nothing
command_row None d = memory_row false none nothing

unfoldable pub row : Write → Row
row (ArcPower level) = arc_row (DirectArcPower level)
row (Standard byte dtr0) = command_row (command_of byte) dtr0
row (TcStep warmer) = colour_row (Tc warmer) false
row (XyStep y up) = colour_row (Xy y up) false
row (TcLimit value selector) = colour_row (Limit value selector) false
row Activation = colour_row Activated true
row (Memory bank offset value) = memory_row false (some (Store bank offset value)) nothing
