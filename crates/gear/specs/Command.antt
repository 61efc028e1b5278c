-- The write commands by their bytes (part 102, table 15; document 01, 'Command bytes'); None where no write has the byte.
use Rattle.std.specs.Prelude.{ℕ, ◌/◌, ◌%◌, eqb, Option, Some, None}
use Rattle.gear.specs.declared.command.ConfigCommand.TheVariants.{SetMaxLevel, SetMinLevel, SetSystemFailureLevel, SetPowerOnLevel, SetFadeTime, SetFadeRate, SetExtendedFadeTime, SetScene, RemoveScene, AddToGroup, RemoveFromGroup}
use Rattle.gear.specs.declared.command.StandardCommand.{StandardCommand}
use Rattle.gear.specs.declared.command.StandardCommand.TheVariants.{Arc, GoToScene, Reset, IdentifyDevice, Config, EnableWriteMemory}
use Rattle.level.specs.declared.arc.ArcCommand.TheVariants.{Off, Up, Down, StepUp, StepDown, RecallMaxLevel, RecallMinLevel, StepDownAndOff, OnAndStepUp, GoToLastActiveLevel}
use Rattle.numbers.specs.Numbers.{pick}

-- bytes 0 to 8 and 10
unfoldable pub level_command : ℕ → Option StandardCommand
level_command b =
    pick (eqb b 0) (Some (Arc Off))
    (pick (eqb b 1) (Some (Arc Up))
    (pick (eqb b 2) (Some (Arc Down))
    (pick (eqb b 3) (Some (Arc StepUp))
    (pick (eqb b 4) (Some (Arc StepDown))
    (pick (eqb b 5) (Some (Arc RecallMaxLevel))
    (pick (eqb b 6) (Some (Arc RecallMinLevel))
    (pick (eqb b 7) (Some (Arc StepDownAndOff))
    (pick (eqb b 8) (Some (Arc OnAndStepUp)) (pick (eqb b 10) (Some (Arc GoToLastActiveLevel)) None)))))))))

-- bytes 32, 37 and 42 to 47, less 32
unfoldable pub config_command : ℕ → Option StandardCommand
config_command b =
    pick (eqb b 0) (Some Reset)
    (pick (eqb b 5) (Some IdentifyDevice)
    (pick (eqb b 10) (Some (Config SetMaxLevel))
    (pick (eqb b 11) (Some (Config SetMinLevel))
    (pick (eqb b 12) (Some (Config SetSystemFailureLevel))
    (pick (eqb b 13) (Some (Config SetPowerOnLevel))
    (pick (eqb b 14) (Some (Config SetFadeTime)) (pick (eqb b 15) (Some (Config SetFadeRate)) None)))))))

-- sixteen bytes a block: 0 levels, 16 GoToScene, 32 settings, 64 SetScene, 80 RemoveScene, 96 AddToGroup, 112 RemoveFromGroup
unfoldable pub command_of : ℕ → Option StandardCommand
command_of b =
    pick (eqb b 48) (Some (Config SetExtendedFadeTime))
    (pick (eqb b 129) (Some EnableWriteMemory)
    (pick (eqb (b / 16) 0) (level_command (b % 16))
    (pick (eqb (b / 16) 1) (Some (GoToScene (b % 16)))
    (pick (eqb (b / 16) 2) (config_command (b % 16))
    (pick (eqb (b / 16) 4) (Some (Config (SetScene (b % 16))))
    (pick (eqb (b / 16) 5) (Some (Config (RemoveScene (b % 16))))
    (pick (eqb (b / 16) 6) (Some (Config (AddToGroup (b % 16))))
    (pick (eqb (b / 16) 7) (Some (Config (RemoveFromGroup (b % 16)))) None))))))))
