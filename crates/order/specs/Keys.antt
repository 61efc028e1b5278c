-- Document 01's keys: what each write owns. Writes without a common key may be sent in any order.
use Rattle.std.specs.Prelude.{ℕ, ◌≡◌, Option, Some, None}
use mathlib.Core.List.{List, [], ◌∷◌, Memᴰ}
use Rattle.order.specs.Writes.{Write, Sized}
use Rattle.order.specs.Writes.Write.{ArcPower, Standard, TcStep, XyStep, TcLimit, Activation, Memory}
use Rattle.gear.specs.Command.{command_of}
use Rattle.gear.specs.declared.command.ConfigCommand.{ConfigCommand}
use Rattle.gear.specs.declared.command.ConfigCommand.TheVariants.{SetMaxLevel, SetMinLevel, SetSystemFailureLevel, SetPowerOnLevel, SetFadeTime, SetFadeRate, SetExtendedFadeTime, SetScene, RemoveScene, AddToGroup, RemoveFromGroup}
use Rattle.gear.specs.declared.command.StandardCommand.{StandardCommand}
use Rattle.gear.specs.declared.command.StandardCommand.TheVariants.{Arc, GoToScene, Reset, IdentifyDevice, Config, EnableWriteMemory}

pub data Key : Type 0 where
  Level Colour FadeTime FadeRate ExtendedFade PowerOn SystemFailure WriteEnable Bank1 : Key
  Scene Group : ℕ → Key

unfoldable pub config_keys : ConfigCommand → List Key
config_keys SetMaxLevel = Level ∷ []
config_keys SetMinLevel = Level ∷ []
config_keys SetSystemFailureLevel = SystemFailure ∷ []
config_keys SetPowerOnLevel = PowerOn ∷ []
config_keys SetFadeTime = FadeTime ∷ []
config_keys SetFadeRate = FadeRate ∷ []
config_keys SetExtendedFadeTime = ExtendedFade ∷ []
config_keys (SetScene s) = Scene s ∷ []
config_keys (RemoveScene s) = Scene s ∷ []
config_keys (AddToGroup n) = Group n ∷ []
config_keys (RemoveFromGroup n) = Group n ∷ []

unfoldable pub command_keys : Option StandardCommand → List Key
command_keys (Some (Arc a)) = Level ∷ []
command_keys (Some (GoToScene s)) = Level ∷ Colour ∷ Scene s ∷ []
command_keys (Some (Config k)) = config_keys k
command_keys (Some EnableWriteMemory) = WriteEnable ∷ []
command_keys (Some Reset) = []
command_keys (Some IdentifyDevice) = []
command_keys None = []

-- a memory write has bank 1's key whatever its bank
unfoldable pub keys : Write → List Key
keys (ArcPower level) = Level ∷ []
keys (Standard byte dtr0) = command_keys (command_of byte)
keys (TcStep warmer) = Colour ∷ []
keys (XyStep y up) = Colour ∷ []
keys (TcLimit value selector) = Colour ∷ []
keys Activation = Colour ∷ []
keys (Memory bank offset value) = Bank1 ∷ []

-- no key is in both lists
abbrev pub Disjoint : List Key → List Key → Type 0
Disjoint ks ls = (k : Key) → Memᴰ k ks → Memᴰ k ls → ⊥

abbrev pub NoSharedKey : Write → Write → Type 0
NoSharedKey v w = Disjoint (keys v) (keys w)

-- a call with no keys stands in no list; its numbers are such as the call takes
pub record Keyed (w : Write) : Type 0 where
  pub key : keys w ≡ [] → ⊥
  pub sized : Sized w
