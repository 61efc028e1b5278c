-- What must hold of the record and of the list, in two strengths: the one that the proof needs, and document 01's words.
use Rattle.std.specs.Prelude.{ℕ, ◌≡◌, true, List, Option, Some, None as NoWrite}
use Rattle.order.specs.Keys.{Keyed, NoSharedKey}
use Rattle.order.specs.Lists.{All, Apart}
use Rattle.order.specs.Writes.{Write}
use Rattle.order.specs.Writes.Write.{ArcPower, Standard, TcStep, XyStep, TcLimit, Activation, Memory}
use Rattle.colour.specs.Activation.{automatic, recall}
use Rattle.colour.specs.declared.tint.ColorMode.TheVariants.{None}
use Rattle.colour.specs.Record.{with_features}
use Rattle.colour.specs.Tint.{dark}
use Rattle.demands.specs.Fit.{Fit}
use Rattle.gear.specs.Command.{command_of}
use Rattle.gear.specs.declared.command.StandardCommand.{StandardCommand}
use Rattle.gear.specs.declared.command.StandardCommand.TheVariants.{Arc, GoToScene, Reset, IdentifyDevice, Config, EnableWriteMemory}
use Rattle.gear.specs.declared.record.Gear.{Gear}
use Rattle.gear.specs.Write.{scene}

-- ---- the list

pub record Listed (ws : List Write) : Type 0 where
  pub keyed : All Keyed ws
  pub apart : Apart NoSharedKey ws

-- ---- the record: fit, no mode staged, activation on

pub record Ready (g : Gear) : Type 0 where
  pub fit : Fit g
  pub unstaged : g.colour.pending.mode ≡ None
  pub activates : automatic g.colour ≡ true

-- whatever the list
abbrev pub Strong : Gear → List Write → Type 0
Strong g ws = Ready g

-- ---- 'nothing staged' in document 01's words

-- with activation on, the recall of scene s leaves the staged colour of a fresh gear
abbrev pub RecallsClean : Gear → ℕ → Type 0
RecallsClean g s = (recall (with_features g.colour 1) (scene g s).colour).pending ≡ dark 0xFF

-- asked of GoToScene alone
abbrev pub CommandClean : Gear → Option StandardCommand → Type 0
CommandClean g (Some (GoToScene s)) = RecallsClean g s
CommandClean g (Some (Arc a)) = Unit {0}
CommandClean g (Some Reset) = Unit {0}
CommandClean g (Some IdentifyDevice) = Unit {0}
CommandClean g (Some (Config k)) = Unit {0}
CommandClean g (Some EnableWriteMemory) = Unit {0}
CommandClean g NoWrite = Unit {0}

abbrev pub Clean : Gear → Write → Type 0
Clean g (Standard byte dtr0) = CommandClean g (command_of byte)
Clean g (ArcPower level) = Unit {0}
Clean g (TcStep warmer) = Unit {0}
Clean g (XyStep y up) = Unit {0}
Clean g (TcLimit value selector) = Unit {0}
Clean g Activation = Unit {0}
Clean g (Memory bank offset value) = Unit {0}

-- the whole staged colour is that of a fresh gear, and each listed GoToScene would leave it so
pub record NothingStaged (g : Gear) (ws : List Write) : Type 0 where
  pub pending : g.colour.pending ≡ dark 0xFF
  pub scenes : All (Clean g) ws

pub record Worded (g : Gear) (ws : List Write) : Type 0 where
  pub fit : Fit g
  pub nothing : NothingStaged g ws
  pub activates : automatic g.colour ≡ true
