-- One entry of the sixteen scenes or groups.
use Rattle.std.specs.Prelude.{ℕ, Bool, false, List, [], leb, get_or}
use Rattle.gear.specs.declared.settings.LevelSetting.{LevelSetting}
use Rattle.gear.specs.Settings.{unset}
use Rattle.numbers.specs.Entries.{stored_at}
use Rattle.numbers.specs.Numbers.{pick}

-- what stands past the end of a list; of sixteen entries no scene is there
abbrev pub nowhere : LevelSetting
nowhere = record { level = 0; colour = record { kind = 0; x = 0; y = 0; tc = 0; levels = []; control = 0 } }

unfoldable pub scene_at : List LevelSetting → ℕ → LevelSetting
scene_at scenes s = pick (leb 16 s) unset (get_or scenes s nowhere)

unfoldable pub member_at : List Bool → ℕ → Bool
member_at groups g = pick (leb 16 g) false (get_or groups g false)

unfoldable pub stored : {A : Type 0} → List A → ℕ → A → List A
stored xs at v = stored_at 16 xs at v
