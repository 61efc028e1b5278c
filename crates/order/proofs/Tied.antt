-- The key table and the row table agree: each write's keys are those of the parts that its row asks something of.
use Prim.Native.Nat.{ℕ}
use mathlib.Core.Path.{◌≡◌, refl}
use Rattle.order.specs.Keys.{command_keys, config_keys, keys}
use Rattle.order.specs.Rows.{columns, joined}
use Rattle.order.specs.Table.{command_row, config_row, row}
use Rattle.order.specs.Writes.{Write}
use Rattle.order.specs.Writes.Write.{ArcPower, Standard, TcStep, XyStep, TcLimit, Activation, Memory}
use Rattle.gear.specs.Command.{command_of}
use Rattle.gear.specs.declared.command.ConfigCommand.{ConfigCommand}
use Rattle.gear.specs.declared.command.ConfigCommand.TheVariants.{SetMaxLevel, SetMinLevel, SetSystemFailureLevel, SetPowerOnLevel, SetFadeTime, SetFadeRate, SetExtendedFadeTime, SetScene, RemoveScene, AddToGroup, RemoveFromGroup}
use Rattle.std.specs.Prelude.{Option, Some, None}
use Rattle.gear.specs.declared.command.StandardCommand.{StandardCommand}
use Rattle.gear.specs.declared.command.StandardCommand.TheVariants.{Arc, GoToScene, Reset, IdentifyDevice, Config, EnableWriteMemory}

config_tied : (k : ConfigCommand) (d : ℕ) → config_keys k ≡ joined (columns (config_row k d))
unfolding config_keys config_row
config_tied SetMaxLevel d = refl
config_tied SetMinLevel d = refl
config_tied SetSystemFailureLevel d = refl
config_tied SetPowerOnLevel d = refl
config_tied SetFadeTime d = refl
config_tied SetFadeRate d = refl
config_tied SetExtendedFadeTime d = refl
config_tied (SetScene s) d = refl
config_tied (RemoveScene s) d = refl
config_tied (AddToGroup n) d = refl
config_tied (RemoveFromGroup n) d = refl

command_tied : (k : Option StandardCommand) (d : ℕ) → command_keys k ≡ joined (columns (command_row k d))
unfolding command_keys command_row
command_tied (Some (Arc a)) d = refl
command_tied (Some (GoToScene s)) d = refl
command_tied (Some (Config k)) d = config_tied k d
command_tied (Some EnableWriteMemory) d = refl
command_tied (Some Reset) d = refl
command_tied (Some IdentifyDevice) d = refl
command_tied None d = refl

pub tied : (w : Write) → keys w ≡ joined (columns (row w))
unfolding keys row
tied (ArcPower v) = refl
tied (Standard byte d) = command_tied (command_of byte) d
tied (TcStep warmer) = refl
tied (XyStep y up) = refl
tied (TcLimit v s) = refl
tied Activation = refl
tied (Memory bank offset v) = refl
