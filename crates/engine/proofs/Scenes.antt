-- One scene of the sixteen in a slot: its level stored, its colour put.
use Prim.Native.Nat.{ℕ, zero, suc, ◌+◌, ◌*◌, ◌<◌}
use mathlib.Core.Path.{◌≡◌, refl, ap, ◌∙◌, sym}
use mathlib.Core.Bool.{true}
use mathlib.Core.List.{List, [], ◌∷◌, ◌++◌}
use lib.Dec.{leb}
use lib.ListN.{drop, get_or, length, length-set, replicate, set, take}
use lib.Seq.{drop-append-add, drop-drop, take-append-add}
use borrow.Author.Tests.{le-leb}
use native.Mathlib.Nat.{suc-add, zero-add}
use native.Mathlib.Omega.{arith}
use Rattle.colour.specs.declared.setting.ColourSetting.{ColourSetting}
use Rattle.gear.specs.declared.record.Gear.{Gear}
use Rattle.gear.specs.declared.settings.LevelSetting.{LevelSetting}
use Rattle.gear.specs.Parts.{with_scenes}
use Rattle.gear.specs.Scene.{nowhere}
use Rattle.gear.specs.Settings.{level_setting, unset}
use Rattle.slot.proofs.Read.{held_length}
use Rattle.slot.proofs.Scenes.{entries, entry_at, entry_set}
use Rattle.slot.specs.Calls.{colour_put}
use Rattle.slot.specs.Held.{AllSix, Holds, Sound}
use Rattle.slot.specs.Image.{image_of, put_colour, put_setting}

-- a store past a front
set_past : (k i v : ℕ) (b : List ℕ) → set b (k + i) v ≡ take k b ++ set (drop k b) i v
set_past zero i v b = rw zero-add
set_past (suc k) i v [] = refl
set_past (suc k) i v (x ∷ b) = rw suc-add (ap (λ (l : List ℕ). x ∷ l) (set_past k i v b))

module _ (g : Gear) (s : ℕ) (low : s < 16) (many : length g.scenes ≡ 16) where
  place : ℕ
  place = 155 + 15 * s

  rest : List ℕ
  rest = drop (15 * s + 15) (entries 16 g.scenes (drop 395 (image_of g)))

  -- the front of the image, and what stands behind the scene
  stands : drop place (image_of g) ≡ put_setting (get_or g.scenes s nowhere) rest
  unfolding image_of place rest
  stands =
      drop-append-add (take 155 (image_of g)) (entries 16 g.scenes (drop 395 (image_of g))) (15 * s) ∙
      entry_at 16 s g.scenes (drop 395 (image_of g)) low

  replaced : (v : LevelSetting) → take place (image_of g) ++ put_setting v rest ≡ image_of (with_scenes g (set g.scenes s v) g.colour)
  unfolding image_of place rest
  replaced v =
      ap (λ (l : List ℕ). l ++ put_setting v rest) (take-append-add (take 155 (image_of g)) (entries 16 g.scenes (drop 395 (image_of g))) (15 * s)) ∙
      ap (λ (l : List ℕ). take 155 (image_of g) ++ l) (entry_set 16 s g.scenes v (drop 395 (image_of g)) low many)

  pub level_stored :
      (v : ℕ) →
      set (image_of g) (155 + 15 * s + 14) v ≡
      image_of (with_scenes g (set g.scenes s (record { colour = (get_or g.scenes s nowhere).colour; level = v })) g.colour)
  unfolding place
  level_stored v =
      set_past place 14 v (image_of g) ∙ ap (λ (l : List ℕ). take place (image_of g) ++ set l 14 v) stands ∙
      replaced (record { colour = (get_or g.scenes s nowhere).colour; level = v })

  pub colour_stored :
      (c : ColourSetting) →
      take (155 + 15 * s) (image_of g) ++ put_colour c (drop (155 + 15 * s + 14) (image_of g)) ≡
      image_of (with_scenes g (set g.scenes s (record { colour = c; level = (get_or g.scenes s nowhere).level })) g.colour)
  unfolding place
  colour_stored c =
      ap (λ (l : List ℕ). take place (image_of g) ++ put_colour c l) (sym (drop-drop 14 place (image_of g)) ∙ ap (drop 14) stands) ∙
      replaced (record { colour = c; level = (get_or g.scenes s nowhere).level })

-- ## Six levels each

set_six : (xs : List LevelSetting) (i : ℕ) (v : LevelSetting) → AllSix xs → length v.colour.levels ≡ 6 → AllSix (set xs i v)
set_six [] i v all h = tt
set_six (x ∷ xs) zero v all h = (h, all.1)
set_six (x ∷ xs) (suc i) v all h = (all.0, set_six xs i v all.1 h)

get_six : (xs : List LevelSetting) (i : ℕ) → AllSix xs → i < length xs → length (get_or xs i nowhere).colour.levels ≡ 6
get_six [] i all h = absurd (omega arith)
get_six (x ∷ xs) zero all h = all.0
get_six (x ∷ xs) (suc i) all h = get_six xs i all.1 (omega arith)

-- ## Of the record that a slot holds

module _ (b : List ℕ) (g : Gear) (h : Holds b g) (s : ℕ) (low : s < 16) where
  sound : (v : LevelSetting) → length v.colour.levels ≡ 6 → Sound (with_scenes g (set g.scenes s v) g.colour)
  sound v six =
      (h.1.0, h.1.1, h.1.2, h.1.3, (length-set g.scenes s v ∙ h.1.4.0, set_six g.scenes s v h.1.4.1 six), h.1.5)

  pub level_held :
      (v : ℕ) → Holds (set b (155 + 15 * s + 14) v) (with_scenes g (set g.scenes s (level_setting v (get_or g.scenes s nowhere).colour)) g.colour)
  level_held v = (
    ap (λ (x : List ℕ). set x (155 + 15 * s + 14) v) h.0 ∙ level_stored g s low h.1.4.0 v,
    sound (level_setting v (get_or g.scenes s nowhere).colour) (get_six g.scenes s h.1.4.1 (omega (arith, h.1.4.0))),
  )

  pub colour_held :
      (c : ColourSetting) → length c.levels ≡ 6 →
      Holds (colour_put b (155 + 15 * s) c) (with_scenes g (set g.scenes s (level_setting (get_or g.scenes s nowhere).level c)) g.colour)
  unfolding colour_put
  colour_held c six =
      let room : leb (155 + 15 * s + 14) (length b) ≡ true = le-leb (155 + 15 * s + 14) (length b) (omega (arith, held_length b g h)) in (
        rw room (ap (λ (x : List ℕ). take (155 + 15 * s) x ++ put_colour c (drop (155 + 15 * s + 14) x)) h.0 ∙ colour_stored g s low h.1.4.0 c),
        sound (level_setting (get_or g.scenes s nowhere).level c) six,
      )

pub all_unset : (n : ℕ) → AllSix (replicate n unset)
all_unset zero = tt
all_unset (suc n) = (refl, all_unset n)
