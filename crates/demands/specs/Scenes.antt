-- Request 14 of document 02: level and colour of a scene are one entry. The Rust has two arrays, which are the levels and the colours of
-- the entries: what 000 does to the two, and what it reads of them, the calls do to these and read of these.
use Rattle.std.specs.Prelude.{ℕ, ◌/◌, ◌%◌, ◌≡◌, List, map, leb, get_or, replicate, Option, Some, None, Ok}
use Rattle.demands.specs.Calls.{Behaviour, Call}
use Rattle.demands.specs.Calls.Call.{Query, StandardWrite}
use Rattle.demands.specs.Fit.{Fit}
use Rattle.colour.specs.Activation.{recall}
use Rattle.colour.specs.declared.record.Colour.{Colour}
use Rattle.colour.specs.declared.setting.ColourSetting.{ColourSetting}
use Rattle.colour.specs.Report.{report_from}
use Rattle.colour.specs.Setting.{mask}
use Rattle.colour.specs.Staging.{take_staged_colour}
use Rattle.gear.specs.Command.{command_of}
use Rattle.gear.specs.declared.answer.Reply.TheVariants.{Value}
use Rattle.gear.specs.declared.command.ConfigCommand.{ConfigCommand}
use Rattle.gear.specs.declared.command.ConfigCommand.TheVariants.{SetMaxLevel, SetMinLevel, SetSystemFailureLevel, SetPowerOnLevel, SetFadeTime, SetFadeRate, SetExtendedFadeTime, SetScene, RemoveScene, AddToGroup, RemoveFromGroup}
use Rattle.gear.specs.declared.command.StandardCommand.{StandardCommand}
use Rattle.gear.specs.declared.command.StandardCommand.TheVariants.{Arc, GoToScene, Reset, IdentifyDevice, Config, EnableWriteMemory}
use Rattle.gear.specs.declared.profile.Profile.{Profile}
use Rattle.gear.specs.declared.record.Gear.{Gear}
use Rattle.gear.specs.declared.settings.LevelSetting.{LevelSetting}
use Rattle.gear.specs.Profile.{is_type}
use Rattle.gear.specs.Record.{new_gear}
use Rattle.gear.specs.Scene.{nowhere, stored}
use Rattle.gear.specs.Write.{recalled_levels}
use Rattle.numbers.specs.Numbers.{pick}

-- ## The two arrays

abbrev pub levels_of : List LevelSetting → List ℕ
levels_of = map (λ (x : LevelSetting). x.level)

abbrev pub colours_of : List LevelSetting → List ColourSetting
colours_of = map (λ (x : LevelSetting). x.colour)

-- ## What 000 does with them

-- a scene's level and its colour; a scene above 15 has neither
unfoldable pub level_at : List ℕ → ℕ → ℕ
level_at levels s = pick (leb 16 s) 255 (get_or levels s 0)

unfoldable pub colour_at : List ColourSetting → ℕ → ColourSetting
colour_at colours s = pick (leb 16 s) mask (get_or colours s nowhere.colour)

-- what a setting leaves of an array: SetScene stores what `put` makes of what was there, RemoveScene what an empty place has
unfoldable pub configured : {A : Type 0} → (List A → ℕ → A) → (A → A) → A → ConfigCommand → List A → List A
configured at put empty (SetScene s) xs = stored xs s (put (at xs s))
configured at put empty (RemoveScene s) xs = stored xs s empty
configured at put empty SetMaxLevel xs = xs
configured at put empty SetMinLevel xs = xs
configured at put empty SetSystemFailureLevel xs = xs
configured at put empty SetPowerOnLevel xs = xs
configured at put empty SetFadeTime xs = xs
configured at put empty SetFadeRate xs = xs
configured at put empty SetExtendedFadeTime xs = xs
configured at put empty (AddToGroup n) xs = xs
configured at put empty (RemoveFromGroup n) xs = xs

-- and any write: a reset removes every scene, and no other touches one
unfoldable pub array_after : {A : Type 0} → (List A → ℕ → A) → (A → A) → A → Option StandardCommand → List A → List A
array_after at put empty (Some (Config k)) xs = configured at put empty k xs
array_after at put empty (Some Reset) xs = replicate 16 empty
array_after at put empty (Some (Arc a)) xs = xs
array_after at put empty (Some (GoToScene s)) xs = xs
array_after at put empty (Some IdentifyDevice) xs = xs
array_after at put empty (Some EnableWriteMemory) xs = xs
array_after at put empty None xs = xs

-- SetScene stores the level that it is given
abbrev pub levels_after : Option StandardCommand → ℕ → List ℕ → List ℕ
levels_after k d = array_after level_at (λ kept. d) 255 k

-- and the staged colour or, with nothing staged, the colour that was there
abbrev pub colours_after : Option StandardCommand → Colour → List ColourSetting → List ColourSetting
colours_after k c = array_after colour_at (λ kept. (take_staged_colour c kept).setting) mask k

-- ## Of calls that behave in some way

-- any call but a standard write
abbrev pub NoWrite : Call → Type 0
NoWrite c = (byte dtr0 : ℕ) → c ≡ StandardWrite byte dtr0 → ⊥

pub record TwoArrays (f : Behaviour) : Type 0 where
  -- what a write to a fit record leaves of each array. On any other record it is refused, and the record stays
  pub levels_after :
      (g : Gear) (byte dtr0 : ℕ) → Fit g →
      levels_of (f (StandardWrite byte dtr0) g).gear.scenes ≡ levels_after (command_of byte) dtr0 (levels_of g.scenes)
  pub colours_after :
      (g : Gear) (byte dtr0 : ℕ) → Fit g →
      colours_of (f (StandardWrite byte dtr0) g).gear.scenes ≡ colours_after (command_of byte) g.colour (colours_of g.scenes)
  -- no other call changes either
  pub left : (c : Call) (g : Gear) → NoWrite c → (f c g).gear.scenes ≡ g.scenes
  -- GoToScene takes the scene's level and its colour
  pub level_recalled :
      (g : Gear) (byte dtr0 s : ℕ) → Fit g → command_of byte ≡ Some (GoToScene s) →
      (f (StandardWrite byte dtr0) g).gear.levels ≡ recalled_levels g.levels (level_at (levels_of g.scenes) s)
  pub colour_recalled :
      (g : Gear) (byte dtr0 s : ℕ) → Fit g → command_of byte ≡ Some (GoToScene s) →
      (f (StandardWrite byte dtr0) g).gear.colour ≡ recall g.colour (colour_at (colours_of g.scenes) s)
  -- queries 176 to 191 tell the level, and a gear of type 8 reports the colour
  pub level_told :
      (g : Gear) (byte : ℕ) → Fit g → byte / 16 ≡ 11 → (f (Query byte) g).answer ≡ Ok (Value (level_at (levels_of g.scenes) (byte % 16)))
  pub colour_reported :
      (g : Gear) (byte : ℕ) → Fit g → byte / 16 ≡ 11 →
      (f (Query byte) g).gear.colour ≡
      pick (is_type g.unit 8) (report_from g.colour (colour_at (colours_of g.scenes) (byte % 16))) g.colour

-- ## Of the entries alone

-- a fresh gear has no scene
abbrev pub FreshArrays : Type 0
FreshArrays = (p : Profile) → (levels_of (new_gear p).gear.scenes ≡ replicate 16 255) × (colours_of (new_gear p).gear.scenes ≡ replicate 16 mask)

-- the two arrays are all that there is of the entries
abbrev pub Paired : Type 0
Paired = (xs ys : List LevelSetting) → levels_of xs ≡ levels_of ys → colours_of xs ≡ colours_of ys → xs ≡ ys
