-- The image of a fit record passes the test, and what passes the test is the image of a fit record.
use Prim.Native.Nat.{ℕ, zero, suc, ◌+◌, ◌*◌, ◌/◌, ◌%◌, ◌≤◌, ◌<◌}
use mathlib.Core.Path.{◌≡◌, refl, ap, ◌∙◌, sym}
use mathlib.Core.Bool.{Bool, true, false}
use mathlib.Core.List.{List, [], ◌∷◌, ◌++◌}
use mathlib.Core.Logic.{◌↔◌}
use lib.Dec.{eqb, leb}
use lib.ListN.{drop, get_or, length, replicate, take}
use lib.Seq.{get_or-drop, get_or-take}
use borrow.Author.Tests.{leb-true, le-leb}
use native.Mathlib.Omega.{arith}
use Rattle.std.specs.Prelude.{Option, None, Some}
use Rattle.colour.specs.declared.tint.ColorMode.{ColorMode}
use Rattle.colour.specs.declared.tint.ColorMode.TheVariants.{None as NoMode, Cct, Xy, Rgb}
use Rattle.colour.specs.Record.{fitb as colour_fit}
use Rattle.colour.specs.Tint.{colour_type_byte}
use Rattle.gear.specs.declared.record.Gear.{Gear}
use Rattle.gear.specs.Marks.{walk_fit}
use Rattle.gear.specs.Profile.{floor, is_type, short_fit, unit_fit}
use Rattle.gear.specs.Record.{fitb}
use Rattle.gear.specs.Types.{has_type}
use Rattle.level.specs.Levels.{levels_fit}
use Rattle.numbers.proofs.Logic.{both_left, both_right, both_true}
use Rattle.numbers.specs.Numbers.{both, pick}
use Rattle.slot.proofs.Back.{gear_back}
use Rattle.slot.proofs.Forth.{image_forth, is_fit}
use Rattle.slot.proofs.Lists.{bytes_behind, bytes_cut}
use Rattle.slot.specs.Held.{AllSix, Bytes, FitImage, Sound, all_zero, at_most, canonical, heldb, is_kind, limits}
use Rattle.slot.specs.Image.{flag_byte, image_of, open_flag, open_frame, put_flags, short_byte, walk_byte}
use Rattle.slot.specs.Record.{at, bytes_from, gear_of, listed, settings_in}

-- ## The list of types

-- what is read of a list that was cut at its length is that list
cut_whole : (n c : ℕ) (xs : List ℕ) → c ≤ n → c ≤ length xs → take c (bytes_from n 0 (take c xs)) ≡ take c xs
cut_whole n zero xs h l = refl
cut_whole zero (suc c) xs h l = absurd (omega arith)
cut_whole (suc n) (suc c) [] h l = absurd (omega arith)
cut_whole (suc n) (suc c) (x ∷ xs) h l =
    ap (λ (t : List ℕ). x ∷ t) (ap (take c) (bytes_behind n 0 x (take c xs)) ∙ cut_whole n c xs (omega arith) (omega arith))

none_quiet : (n c k : ℕ) → all_zero (drop c (bytes_from n k [])) ≡ true
none_quiet zero zero k = refl
none_quiet zero (suc c) k = refl
none_quiet (suc n) zero k = none_quiet n zero (suc k)
none_quiet (suc n) (suc c) k = none_quiet n c (suc k)

cut_quiet : (n c : ℕ) (xs : List ℕ) → all_zero (drop c (bytes_from n 0 (take c xs))) ≡ true
cut_quiet n zero xs = none_quiet n 0 0
cut_quiet zero (suc c) xs = refl
cut_quiet (suc n) (suc c) [] = none_quiet n c 1
cut_quiet (suc n) (suc c) (x ∷ xs) = ap (λ (t : List ℕ). all_zero (drop c t)) (bytes_behind n 0 x (take c xs)) ∙ cut_quiet n c xs

-- the codes behind the list decide nothing
pub listed_type : (g : Gear) (code : ℕ) → Sound g → is_type (listed g).unit code ≡ is_type g.unit code
unfolding is_type has_type unit_fit
listed_type g code sound =
    let few : g.unit.count ≤ 16 = leb-true g.unit.count 16 (both_left (leb g.unit.count 16) _ sound.0.0) in
    rw (cut_whole 16 g.unit.count g.unit.types few (omega (arith, sound.0.1)))

pub listed_fit : (g : Gear) → Sound g → fitb (listed g) ≡ fitb g
unfolding fitb unit_fit floor
listed_fit g sound = rw (listed_type g 7 sound)

-- ## Under the limits

bytes_under :
    (n k : ℕ) (b ls t : List ℕ) → length (take n (drop k b)) ≡ n → Bytes b → at_most ls t ≡ true →
    at_most (replicate n 255 ++ ls) (take n (drop k b) ++ t) ≡ true
bytes_under n k b ls t len bytes rest =
    each n (take n (drop k b)) len (λ i h. rw (get_or-take n (drop k b) i 0 h, get_or-drop k b i 0) (bytes (k + i)))
  where
    each : (m : ℕ) (xs : List ℕ) → length xs ≡ m → ((i : ℕ) → i < m → at i xs < 256) → at_most (replicate m 255 ++ ls) (xs ++ t) ≡ true
    each zero [] l small = rest
    each zero (x ∷ xs) l small = absurd (omega arith)
    each (suc m) [] l small = absurd (omega arith)
    each (suc m) (x ∷ xs) l small =
        both_true (le-leb x 255 (let h = small 0 (omega arith) in omega arith))
        (each m xs (omega arith) (λ i h. small (suc i) (omega arith)))

zeros_under : (n : ℕ) → at_most (replicate n 0) (replicate n 0) ≡ true
zeros_under zero = refl
zeros_under (suc n) = zeros_under n

flag_under : (x : Bool) → flag_byte x ≤ 1
flag_under true = omega arith
flag_under false = omega arith

flags_under : (n : ℕ) (xs : List Bool) (ls b : List ℕ) → at_most ls b ≡ true → at_most (replicate n 1 ++ ls) (put_flags n xs b) ≡ true
flags_under zero xs ls b t = t
flags_under (suc n) xs ls b t =
    both_true (le-leb (flag_byte (get_or xs 0 false)) 1 (flag_under (get_or xs 0 false))) (flags_under n (drop 1 xs) ls b t)

short_under : (s : Option ℕ) → short_fit s ≡ true → short_byte s ≤ 64
unfolding short_fit
short_under None h = omega arith
short_under (Some a) h = omega (arith, leb-true a 63 h)

walk_under : (w : Option ℕ) → walk_fit w ≡ true → walk_byte w ≤ 17
unfolding walk_fit
walk_under None h = omega arith
walk_under (Some n) h = omega (arith, leb-true n 16 h)

open_under : (p : Option ℕ) → open_flag p ≤ 1
open_under None = omega arith
open_under (Some frame) = omega arith

-- ## An image

kind_known : (m : ColorMode) → is_kind (colour_type_byte m) ≡ true
kind_known NoMode = refl
kind_known Xy = refl
kind_known Cct = refl
kind_known Rgb = refl

closed_quiet : (p : Option ℕ) → pick (eqb (open_flag p) 1) true (eqb (open_frame p % 256 + 256 * (open_frame p / 256)) 0) ≡ true
closed_quiet None = refl
closed_quiet (Some frame) = refl

image_canonical : (g : Gear) → canonical (image_of g) ≡ true
unfolding image_of
image_canonical g =
    both_true (ap (λ (t : List ℕ). all_zero (drop g.unit.count t)) (bytes_cut 16 (take g.unit.count g.unit.types) []) ∙ cut_quiet 16 g.unit.count g.unit.types)
    (both_true (closed_quiet g.marks.pair) (both_true (kind_known g.colour.active.mode) (kind_known g.colour.pending.mode)))

module _ (g : Gear) (sound : Sound g) (fit : fitb g ≡ true) (bytes : Bytes (image_of g)) where
  -- what fit says of single bytes
  unit_limits : (g.unit.count ≤ 16) × (g.unit.random ≤ 16777215) × (g.unit.minimum ≤ 254) × (short_fit g.unit.short ≡ true)
  unfolding unit_fit
  unit_limits =
      let u = g.unit in
      let r = both_right (leb u.count 16) _ sound.0.0 in
      let m = both_right (leb u.random 16777215) _ r in
      let h = both_right (leb 1 u.minimum) _ m in (
        leb-true u.count 16 (both_left (leb u.count 16) _ sound.0.0),
        leb-true u.random 16777215 (both_left (leb u.random 16777215) _ r),
        leb-true u.minimum 254 (both_left (leb u.minimum 254) _ h),
        both_right (leb u.minimum 254) _ h,
      )

  max_limit : g.levels.max ≤ 254
  unfolding fitb levels_fit
  max_limit =
      let l = g.levels in
      let levels = both_left (levels_fit (floor g.unit) l) _ (both_right (unit_fit 16 g.unit) _ fit) in
      leb-true l.max 254 (both_right (leb l.min l.max) _ (both_right (leb (floor g.unit) l.min) _ levels))

  channels_limit : g.colour.can.channels ≤ 6
  unfolding fitb colour_fit
  channels_limit =
      let c = g.colour in
      let colour = both_left (colour_fit c) _ (both_right (levels_fit (floor g.unit) g.levels) _ (both_right (unit_fit 16 g.unit) _ fit)) in
      leb-true c.can.channels 6 (both_left (leb c.can.channels 6) _ colour)

  byte : (k : ℕ) → at k (image_of g) ≤ 255
  byte k = let h = bytes k in omega arith

  flags_low : at_most (replicate 19 1 ++ (replicate 374 255 ++ replicate 71 0)) (drop 48 (image_of g)) ≡ true
  unfolding image_of
  flags_low =
      low g.levels.error (low g.marks.reset (low g.marks.cycled (low g.marks.initialise (low g.marks.withdrawn
      (low g.marks.identifying (low g.marks.writable (both_true (le-leb (open_flag g.marks.pair) 1 (open_under g.marks.pair))
      (low g.unit.adjustable (low g.unit.holds (low g.unit.bare (low g.colour.can.tc (low g.colour.can.xy
      (low g.colour.outside (low g.condition.enabled (low g.condition.lamp.failure (low g.condition.lamp.starting
      (low g.condition.faults.unstored (low g.condition.faults.holds
      (bytes_under 374 67 (image_of g) (replicate 71 0) (replicate 71 0) refl bytes (zeros_under 71))))))))))))))))))))
    where
      low : (x : Bool) {rest : Bool} → rest ≡ true → both (leb (flag_byte x) 1) rest ≡ true
      low x {rest} t = both_true (le-leb (flag_byte x) 1 (flag_under x)) t

  under_limits : at_most limits (image_of g) ≡ true
  unfolding limits image_of
  under_limits =
      low 0 255 (byte 0) (low 1 255 (byte 1) (low 2 255 (byte 2) (low 3 254 max_limit (low 4 254 unit_limits.2
      (low 5 17 (walk_under g.marks.walk sound.1) (low 6 64 (short_under g.unit.short unit_limits.3) (low 7 16 unit_limits.0
      (low 8 255 (byte 8) (low 9 255 (byte 9) (low 10 255 (byte 10)
      (low 11 0 (let few = unit_limits.1 in omega arith) (low 12 6 channels_limit
      (bytes_under 19 13 (image_of g) (drop 32 limits) (drop 32 (image_of g)) refl bytes
      (flags_under 16 g.settings.groups (replicate 19 1 ++ (replicate 374 255 ++ replicate 71 0)) (drop 48 (image_of g)) flags_low))))))))))))))
    where
      low : (k l : ℕ) → at k (image_of g) ≤ l → {rest : Bool} → rest ≡ true → both (leb (at k (image_of g)) l) rest ≡ true
      low k l h t = both_true (le-leb (at k (image_of g)) l h) t

  pub held_image : heldb (image_of g) ≡ true
  unfolding heldb
  held_image =
      both_true under_limits
      (both_true (image_canonical g) (ap fitb (gear_back g sound) ∙ listed_fit g sound ∙ fit))

-- ## Exactly the images of fit records

all_six : (n : ℕ) (b : List ℕ) → AllSix (settings_in n b)
all_six zero b = tt
all_six (suc n) b = (refl, all_six n (drop 15 b))

module _ (b : List ℕ) (len : length b ≡ 512) (bytes : Bytes b) where
  pub held_sound : heldb b ≡ true → Sound (gear_of b)
  unfolding gear_of fitb
  held_sound held =
      let fit = is_fit b held in
      let g = gear_of b in
      let unit = both_left (unit_fit 16 g.unit) _ fit in
      let rest = both_right (levels_fit (floor g.unit) g.levels) _ (both_right (unit_fit 16 g.unit) _ fit) in
      ((unit, refl), both_right (colour_fit g.colour) _ rest, (refl, refl, refl), (refl, refl, refl), (refl, all_six 16 (drop 155 b)), (refl, refl))

  pub held_exactly : (heldb b ≡ true) ↔ FitImage b
  held_exactly = (
    λ held. record { gear = gear_of b; holds = (sym (image_forth b len bytes held), held_sound held); fit = is_fit b held },
    λ image. rw image.holds.0 (held_image image.gear image.holds.1 image.fit (rw image.holds.0 at bytes)),
  )
