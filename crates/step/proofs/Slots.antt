-- The scene or group of a command is below 16.
use Prim.Native.Nat.{ℕ, ◌<◌}
use mathlib.Core.Path.{◌≡◌, refl}
use mathlib.Core.Bool.{Bool}
use mathlib.Core.List.{List}
use lib.Dec.{ltb, ltb→lt}
use lib.ListN.{get_or, replicate, set}
use borrow.Author.Tests.{lt-leb}
use Rattle.gear.specs.Command.{command_of, level_command, config_command}
use Rattle.gear.specs.declared.settings.LevelSetting.{LevelSetting}
use Rattle.gear.specs.Scene.{nowhere, scene_at, stored}
use Rattle.numbers.proofs.Table.{at}
use Rattle.step.specs.Slot.{slot_of}

-- the test at a byte; what stands in the list does not matter, only its length
below : ℕ → ℕ → Bool
unfolding command_of level_command config_command
below byte _ = ltb (slot_of (command_of byte)) 16

pub slot_low : (byte : ℕ) → byte < 256 → slot_of (command_of byte) < 16
unfolding below command_of level_command config_command
slot_low byte h = ltb→lt (slot_of (command_of byte)) 16 (at below (replicate 256 0) tt byte h)

-- what the entry of a scene is, and what it is to store there
module _ {s : ℕ} (h : s < 16) where
  pub scene_at_lem : (xs : List LevelSetting) → get_or xs s nowhere ≡ scene_at xs s
  unfolding scene_at
  scene_at_lem xs = rw (lt-leb 16 s h) refl

  pub stored_at : {A : Type 0} (xs : List A) (v : A) → set xs s v ≡ stored xs s v
  unfolding stored
  stored_at xs v = rw (lt-leb 16 s h) refl
