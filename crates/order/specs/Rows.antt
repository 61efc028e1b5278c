-- Each keyed write as a row of a table: what it asks of each part of the record. No statement needs it; the proof reads it.
use Rattle.std.specs.Prelude.{ℕ, Bool, true, false, List, [], ◌∷◌, ◌++◌}
use Rattle.std.proofs.Math.Option.{Option, none, some}
use Rattle.order.specs.Keys.{Key}
use Rattle.order.specs.Keys.Key.{Level, Colour as ColourKey, FadeTime, FadeRate, ExtendedFade, PowerOn, SystemFailure, WriteEnable, Bank1, Scene, Group}
use Rattle.level.specs.declared.arc.ArcCommand.{ArcCommand}

-- ---- what a row may ask of a part

pub data LevelStep : Type 0 where
  ByCommand : ArcCommand → LevelStep
  Max Min : ℕ → LevelStep
  SceneLevel : LevelStep

pub data ColourStep : Type 0 where
  Tc : (warmer : Bool) → ColourStep
  Xy : (y up : Bool) → ColourStep
  Limit : (value selector : ℕ) → ColourStep
  Activated SceneColour : ColourStep

-- a level, which leaves the colour, or neither
pub data SceneStep : Type 0 where
  Put : ℕ → SceneStep
  Remove : SceneStep

-- a scene that is read, and what is stored there
pub data SceneSlot : Type 0 where
  NoScene : SceneSlot
  At : ℕ → Option SceneStep → SceneSlot

pub data GroupSlot : Type 0 where
  NoGroup : GroupSlot
  Member : ℕ → Bool → GroupSlot

pub data BankStep : Type 0 where
  Store : (bank offset value : ℕ) → BankStep

-- the marks that are cleared
pub record Clears : Type 0 where
  pub walk : Bool
  pub reset : Bool
  pub cycled : Bool
  pub identifying : Bool

-- `settles`: a staged control is masked, as activation does where no mode is staged
pub record Row : Type 0 where
  pub level : Option LevelStep
  pub colour : Option ColourStep
  pub scene : SceneSlot
  pub fade_time : Option ℕ
  pub fade_rate : Option ℕ
  pub extended_fade : Option ℕ
  pub power_on : Option ℕ
  pub system_failure : Option ℕ
  pub enables : Bool
  pub group : GroupSlot
  pub bank : Option BankStep
  pub settles : Bool
  pub clears : Clears

-- ---- the keys of a row: one for each part that it asks something of

abbrev pub has : {A : Type 0} → Key → Option A → List Key
has k none = []
has k (some a) = k ∷ []

abbrev pub scene_keys : SceneSlot → List Key
scene_keys NoScene = []
scene_keys (At s step) = Scene s ∷ []

abbrev pub group_keys : GroupSlot → List Key
group_keys NoGroup = []
group_keys (Member n b) = Group n ∷ []

abbrev pub enable_keys : Bool → List Key
enable_keys true = WriteEnable ∷ []
enable_keys false = []

abbrev pub columns : Row → List (List Key)
columns r =
    has Level r.level ∷
    has ColourKey r.colour ∷
    scene_keys r.scene ∷
    has FadeTime r.fade_time ∷
    has FadeRate r.fade_rate ∷
    has ExtendedFade r.extended_fade ∷
    has PowerOn r.power_on ∷
    has SystemFailure r.system_failure ∷
    group_keys r.group ∷
    has Bank1 r.bank ∷
    enable_keys r.enables ∷
    []

abbrev pub joined : List (List Key) → List Key
joined [] = []
joined (ks ∷ kss) = ks ++ joined kss
