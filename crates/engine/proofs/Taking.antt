-- The staged colour taken into a setting of the slot: for power-on, for system failure, or of a scene.
use Prim.Native.Nat.{ℕ, ◌+◌, ◌*◌, ◌<◌, ◌≤◌}
use mathlib.Core.Path.{◌≡◌, refl, ap, subst, ◌∙◌}
use mathlib.Core.Bool.{false, true}
use mathlib.Core.List.{List}
use lib.Dec.{eqb}
use lib.ListN.{drop, get_or, length, set}
use lib.Seq.{get_or-set_same, set-set}
use borrow.Author.Tests.{eq-eqb, eqb-true, le-leb, lt-leb}
use native.Mathlib.Omega.{arith}
use Rattle.colour.specs.declared.record.Colour.{Colour}
use Rattle.colour.specs.declared.setting.ColourSetting.{ColourSetting}
use Rattle.colour.specs.declared.tint.ColorMode.{ColorMode}
use Rattle.colour.specs.declared.tint.ColorMode.TheVariants.{None, Cct, Xy, Rgb}
use Rattle.colour.specs.declared.tint.Tint.{Tint}
use Rattle.colour.specs.Setting.{mask}
use Rattle.colour.specs.Staging.{take_staged_colour, with_pending}
use Rattle.colour.specs.Tint.{captured, colour_type_byte, is_lit, mode_of, unstaged}
use Rattle.engine.proofs.Blocks.{staged_mode}
use Rattle.engine.proofs.Scenes.{colour_held, level_held}
use Rattle.engine.specs.Colours.{level_stored, nothing_staged, taken}
use Rattle.gear.specs.declared.record.Gear.{Gear}
use Rattle.gear.specs.declared.settings.LevelSetting.{LevelSetting}
use Rattle.gear.specs.Parts.{with_scenes, with_settings}
use Rattle.gear.specs.Scene.{nowhere, scene_at, stored}
use Rattle.gear.specs.Settings.{level_setting, store_level_setting, with_failure, with_on}
use Rattle.gear.specs.Write.{remove_scene, set_power_on_level, set_scene, set_system_failure_level}
use Rattle.numbers.proofs.Logic.{by_cases}
use Rattle.slot.proofs.Read.{part}
use Rattle.slot.specs.Calls.{colour_put}
use Rattle.slot.specs.Held.{Holds}
use Rattle.slot.specs.Image.{image_of}
use Rattle.slot.specs.Record.{at, colour_in, gear_of, tint_of}

other : (n m : ℕ) → eqb n m ≡ false → n ≡ m → ⊥
other n m e k = let t : eqb n m ≡ true = eq-eqb n m k in cc

lit_unless : (m : ColorMode) → (colour_type_byte m ≡ 0xFF → ⊥) → is_lit m ≡ true
lit_unless None h = absurd (h refl)
lit_unless Xy h = refl
lit_unless Cct h = refl
lit_unless Rgb h = refl

captured_six : (p : Tint) → length p.levels ≡ 6 → length (captured p).levels ≡ 6
unfolding captured
captured_six p h = each p.mode
  where
    each : (m : ColorMode) → length (captured (record { mode = m; x = p.x; y = p.y; tc = p.tc; levels = p.levels; control = p.control })).levels ≡ 6
    each None = refl
    each Xy = refl
    each Cct = refl
    each Rgb = h

module _ (b : List ℕ) (g : Gear) (h : Holds b g) where
  -- a type byte that is not the mask is a mode's
  pub staged_lit : (at 110 b ≡ 0xFF → ⊥) → is_lit g.colour.pending.mode ≡ true
  unfolding image_of
  staged_lit other = lit_unless g.colour.pending.mode (λ e. other (ap (at 110) h.0 ∙ e))

  pub staged_none : at 110 b ≡ 0xFF → is_lit g.colour.pending.mode ≡ false
  staged_none e = ap is_lit (staged_mode b g h ∙ ap mode_of e)

  staged : captured (tint_of (colour_in (drop 97 b))) ≡ captured g.colour.pending
  unfolding gear_of
  staged = ap captured (part b g h (λ x. x.colour.pending))

  on_taken :
      Holds (taken b 125)
      (with_settings g (with_on g.settings (level_setting g.settings.on.level (captured g.colour.pending))) (with_pending g.colour (unstaged g.colour.pending)))
  unfolding image_of colour_put
  on_taken =
      rw (staged, h.0)
      (refl, (h.1.0, h.1.1, h.1.2, (h.1.3.0, captured_six g.colour.pending h.1.2.1, h.1.3.2), h.1.4, h.1.5))

  failure_taken :
      Holds (taken b 140)
      (with_settings g (with_failure g.settings (level_setting g.settings.failure.level (captured g.colour.pending))) (with_pending g.colour (unstaged g.colour.pending)))
  unfolding image_of colour_put
  failure_taken =
      rw (staged, h.0)
      (refl, (h.1.0, h.1.1, h.1.2, (h.1.3.0, h.1.3.1, captured_six g.colour.pending h.1.2.1), h.1.4, h.1.5))

  scene_taken :
      (s : ℕ) → s < 16 →
      Holds (taken b (155 + 15 * s))
      (with_scenes g (set g.scenes s (level_setting (get_or g.scenes s nowhere).level (captured g.colour.pending))) (with_pending g.colour (unstaged g.colour.pending)))
  unfolding image_of
  scene_taken s low =
      let put = colour_held b g h s low (captured g.colour.pending) (captured_six g.colour.pending h.1.2.1) in
      rw (staged, put.0) (refl, put.1)

-- ## A level first, and then the colour

module _ (b : List ℕ) (g : Gear) (h : Holds b g) (v : ℕ) where
  on_level : Holds (set b 139 v) (with_settings g (with_on g.settings (level_setting v g.settings.on.colour)) g.colour)
  unfolding image_of
  on_level = rw h.0 (refl, h.1)

  failure_level : Holds (set b 154 v) (with_settings g (with_failure g.settings (level_setting v g.settings.failure.colour)) g.colour)
  unfolding image_of
  failure_level = rw h.0 (refl, h.1)

  pub on_stored :
      Holds (taken (set b 139 v) 125)
      (with_settings g (with_on g.settings (level_setting v (captured g.colour.pending))) (with_pending g.colour (unstaged g.colour.pending)))
  on_stored = on_taken (set b 139 v) (with_settings g (with_on g.settings (level_setting v g.settings.on.colour)) g.colour) on_level

  pub failure_stored :
      Holds (taken (set b 154 v) 140)
      (with_settings g (with_failure g.settings (level_setting v (captured g.colour.pending))) (with_pending g.colour (unstaged g.colour.pending)))
  failure_stored =
      failure_taken (set b 154 v) (with_settings g (with_failure g.settings (level_setting v g.settings.failure.colour)) g.colour) failure_level

  -- both, by whether a colour is staged
  pub on_put : Holds (level_stored b 125 v) (set_power_on_level g v)
  unfolding set_power_on_level store_level_setting take_staged_colour
  on_put =
      by_cases (eqb (at 110 b) 0xFF) (λ e. rw (e, staged_none b g h (eqb-true (at 110 b) 0xFF e)) on_level)
      (λ e. rw (e, staged_lit b g h (other (at 110 b) 0xFF e)) on_stored)

  pub failure_put : Holds (level_stored b 140 v) (set_system_failure_level g v)
  unfolding set_system_failure_level store_level_setting take_staged_colour
  failure_put =
      by_cases (eqb (at 110 b) 0xFF) (λ e. rw (e, staged_none b g h (eqb-true (at 110 b) 0xFF e)) failure_level)
      (λ e. rw (e, staged_lit b g h (other (at 110 b) 0xFF e)) failure_stored)

  module _ (s : ℕ) (low : s < 16) where
    within : s < length g.scenes
    within = omega (arith, h.1.4.0)

    new : LevelSetting
    new = level_setting v (get_or g.scenes s nowhere).colour

    stored_level : Holds (set b (155 + 15 * s + 14) v) (with_scenes g (set g.scenes s new) g.colour)
    unfolding new
    stored_level = level_held b g h s low v

    -- the entry with its new level, and then with a colour
    twice : (c : ColourSetting) → set (set g.scenes s new) s (level_setting (get_or (set g.scenes s new) s nowhere).level c) ≡ set g.scenes s (level_setting v c)
    unfolding new
    twice c =
        ap (λ (x : LevelSetting). set (set g.scenes s new) s (level_setting x.level c)) (get_or-set_same g.scenes s new nowhere within) ∙
        set-set g.scenes s new (level_setting v c)

    same_scenes : (l : List ℕ) (xs ys : List LevelSetting) (c : Colour) → xs ≡ ys → Holds l (with_scenes g xs c) → Holds l (with_scenes g ys c)
    same_scenes l xs ys c e k = subst (λ (zs : List LevelSetting). Holds l (with_scenes g zs c)) e k

    pub scene_stored :
        Holds (taken (set b (155 + 15 * s + 14) v) (155 + 15 * s))
        (with_scenes g (set g.scenes s (level_setting v (captured g.colour.pending))) (with_pending g.colour (unstaged g.colour.pending)))
    scene_stored =
        same_scenes (taken (set b (155 + 15 * s + 14) v) (155 + 15 * s)) _ _ _ (twice (captured g.colour.pending))
        (scene_taken (set b (155 + 15 * s + 14) v) (with_scenes g (set g.scenes s new) g.colour) stored_level s low)

    pub scene_put :
        (c : ColourSetting) → length c.levels ≡ 6 →
        Holds (colour_put (set b (155 + 15 * s + 14) v) (155 + 15 * s) c) (with_scenes g (set g.scenes s (level_setting v c)) g.colour)
    scene_put c six =
        same_scenes (colour_put (set b (155 + 15 * s + 14) v) (155 + 15 * s) c) _ _ _ (twice c)
        (colour_held (set b (155 + 15 * s + 14) v) (with_scenes g (set g.scenes s new) g.colour) stored_level s low c six)

    pub scene_level_put : Holds (level_stored b (155 + 15 * s) v) (set_scene g s v)
    unfolding set_scene store_level_setting take_staged_colour scene_at stored
    scene_level_put =
        by_cases (eqb (at 110 b) 0xFF)
        (λ e. rw (e, staged_none b g h (eqb-true (at 110 b) 0xFF e), lt-leb 16 s low) (level_held b g h s low v))
        (λ e. rw (e, staged_lit b g h (other (at 110 b) 0xFF e), lt-leb 16 s low) scene_stored)

-- ## There is no seventeenth scene

module _ (b : List ℕ) (g : Gear) (h : Holds b g) (v s : ℕ) (high : 16 ≤ s) where
  pub scene_passed : at 110 b ≡ 0xFF → Holds b (set_scene g s v)
  unfolding set_scene store_level_setting take_staged_colour scene_at stored
  scene_passed none = rw (staged_none b g h none, le-leb 16 s high) h

  pub scene_unstaged : (at 110 b ≡ 0xFF → ⊥) → Holds (nothing_staged b) (set_scene g s v)
  unfolding image_of set_scene store_level_setting take_staged_colour scene_at stored
  scene_unstaged lit = rw (staged_lit b g h lit, le-leb 16 s high, h.0) (refl, h.1)

-- ## An entry without a level and without a colour

pub scene_removed :
    (b : List ℕ) (g : Gear) (s : ℕ) → Holds b g → s < 16 →
    Holds (colour_put (set b (155 + 15 * s + 14) 255) (155 + 15 * s) mask) (remove_scene g s)
unfolding remove_scene stored
scene_removed b g s h low = rw (lt-leb 16 s low) (scene_put b g h 255 s low mask refl)

pub none_removed : (b : List ℕ) (g : Gear) (s : ℕ) → Holds b g → 16 ≤ s → Holds b (remove_scene g s)
unfolding remove_scene stored
none_removed b g s h high = rw (le-leb 16 s high) h
