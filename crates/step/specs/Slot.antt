-- The scene or group that a command names.
use Rattle.std.specs.Prelude.{ℕ, Option, Some, None}
use Rattle.gear.specs.declared.command.ConfigCommand.{ConfigCommand}
use Rattle.gear.specs.declared.command.ConfigCommand.TheVariants.{SetMaxLevel, SetMinLevel, SetSystemFailureLevel, SetPowerOnLevel, SetFadeTime, SetFadeRate, SetExtendedFadeTime, SetScene, RemoveScene, AddToGroup, RemoveFromGroup}
use Rattle.gear.specs.declared.command.StandardCommand.{StandardCommand}
use Rattle.gear.specs.declared.command.StandardCommand.TheVariants.{Arc, GoToScene, Reset, IdentifyDevice, Config, EnableWriteMemory}

-- 0 where a setting names none
abbrev pub setting_slot : ConfigCommand → ℕ
setting_slot SetMaxLevel = 0
setting_slot SetMinLevel = 0
setting_slot SetSystemFailureLevel = 0
setting_slot SetPowerOnLevel = 0
setting_slot SetFadeTime = 0
setting_slot SetFadeRate = 0
setting_slot SetExtendedFadeTime = 0
setting_slot (SetScene s) = s
setting_slot (RemoveScene s) = s
setting_slot (AddToGroup n) = n
setting_slot (RemoveFromGroup n) = n

-- 0 where a command names none
abbrev pub slot_of : Option StandardCommand → ℕ
slot_of (Some (Arc a)) = 0
slot_of (Some (GoToScene s)) = s
slot_of (Some Reset) = 0
slot_of (Some IdentifyDevice) = 0
slot_of (Some (Config k)) = setting_slot k
slot_of (Some EnableWriteMemory) = 0
slot_of None = 0
