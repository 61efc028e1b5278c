-- Which bytes are the image of a fit record, and what a record and its image have to do with each other.
use Rattle.std.specs.Prelude.{ℕ, ◌<◌, ◌≡◌, Bool, true, List, [], ◌∷◌, ◌++◌, eqb, leb, drop, length, replicate}
use Rattle.colour.specs.declared.record.Colour.{Colour}
use Rattle.gear.specs.declared.record.Gear.{Gear}
use Rattle.gear.specs.declared.settings.LevelSetting.{LevelSetting}
use Rattle.gear.specs.Marks.{walk_fit}
use Rattle.gear.specs.Profile.{unit_fit}
use Rattle.gear.specs.Record.{fitb}
use Rattle.numbers.specs.Numbers.{both, pick}
use Rattle.slot.specs.Image.{image_of}
use Rattle.slot.specs.Record.{at, bytes_from, flag_at, gear_of, word_at}

-- ## A record that a slot holds

-- every entry's colour has six levels
abbrev pub AllSix : List LevelSetting → Type 0
AllSix [] = Unit {0}
AllSix (s ∷ ss) = (length s.colour.levels ≡ 6) × AllSix ss

abbrev pub SoundColour : Colour → Type 0
SoundColour c = (length c.active.levels ≡ 6) × (length c.pending.levels ≡ 6) × (length c.report.levels ≡ 6)

-- the lengths of its arrays, as every record of the code has them; of fit, what no call can change, and the walk
abbrev pub Sound : Gear → Type 0
Sound g =
    ((unit_fit 16 g.unit ≡ true) × (length g.unit.types ≡ 16)) ×
    (walk_fit g.marks.walk ≡ true) ×
    SoundColour g.colour ×
    ((length g.settings.groups ≡ 16) × (length g.settings.on.colour.levels ≡ 6) × (length g.settings.failure.colour.levels ≡ 6)) ×
    ((length g.scenes ≡ 16) × AllSix g.scenes) ×
    ((length g.banks.identity ≡ 29) × (length g.banks.profile ≡ 17))

-- the bytes hold the record
abbrev pub Holds : List ℕ → Gear → Type 0
Holds b g = (b ≡ image_of g) × Sound g

-- ## The test of an image: each byte by itself, what few bytes have to do with each other, and a fit record

-- the highest value of each byte, 255 where any will do: a walk of 17 is off, a short address of 64 is none, a flag is 0 or 1, a spare byte is 0
unfoldable pub limits : List ℕ
limits =
    255 ∷ 255 ∷ 255 ∷ 254 ∷ 254 ∷ 17 ∷ 64 ∷ 16 ∷ 255 ∷ 255 ∷ 255 ∷ 0 ∷ 6 ∷
    (replicate 19 255 ++ (replicate 35 1 ++ (replicate 374 255 ++ replicate 71 0)))

abbrev pub at_most : List ℕ → List ℕ → Bool
at_most [] b = true
at_most (l ∷ ls) b = both (leb (at 0 b) l) (at_most ls (drop 1 b))

abbrev pub all_zero : List ℕ → Bool
all_zero [] = true
all_zero (x ∷ xs) = both (eqb x 0) (all_zero xs)

-- one of part 209's types, or none
abbrev pub is_kind : ℕ → Bool
is_kind n = pick (eqb n 0x10) true (pick (eqb n 0x20) true (pick (eqb n 0x80) true (eqb n 0xFF)))

-- codes behind the list of types are 0
abbrev pub list_quiet : List ℕ → Bool
list_quiet b = all_zero (drop (at 7 b) (bytes_from 16 16 b))

-- so is the frame of a closed pair
abbrev pub pair_quiet : List ℕ → Bool
pair_quiet b = pick (flag_at 55 b) true (eqb (word_at 73 b) 0)

-- and the active and the staged colour have a mode's type
abbrev pub canonical : List ℕ → Bool
canonical b = both (list_quiet b) (both (pair_quiet b) (both (is_kind (at 96 b)) (is_kind (at 110 b))))

unfoldable pub heldb : List ℕ → Bool
heldb b = both (at_most limits b) (both (canonical b) (fitb (gear_of b)))

-- ## What the test says

abbrev pub Bytes : List ℕ → Type 0
Bytes b = (i : ℕ) → at i b < 256

-- the bytes are the image of a fit record
pub record FitImage (b : List ℕ) : Type 0 where
  pub gear : Gear
  pub holds : Holds b gear
  pub fit : fitb gear ≡ true

-- ## What a call on a slot is promised to do, for every record that its bytes hold

-- it leaves the image of what the rule makes of the record
abbrev pub Does : (Gear → Gear) → List ℕ → List ℕ → Type 0
Does rule b b' = (g : Gear) → Holds b g → Holds b' (rule g)

-- it answers what the rule says of the record
abbrev pub Tells : {A : Type 0} → (Gear → A) → List ℕ → A → Type 0
Tells rule b r = (g : Gear) → Holds b g → r ≡ rule g
