-- Bytes that pass the test are the image of what they say.
use Prim.Native.Nat.{ℕ, zero, suc, ◌+◌, ◌*◌, ◌/◌, ◌%◌, ◌≤◌, ◌<◌}
use mathlib.Core.Path.{◌≡◌, refl, ap, ◌∙◌, sym}
use mathlib.Core.Bool.{true}
use mathlib.Core.List.{List, [], ◌∷◌, ◌++◌}
use lib.Dec.{eqb, leb, ltb}
use lib.ListN.{drop, get_or, length, replicate, take, get_or-replicate, length-drop, get_or-append, get_or-eq_default}
use lib.Seq.{drop-cons, drop-drop, get_or-drop}
use Rattle.std.proofs.lemmas.List.{ext_get_or, length-replicate}
use borrow.Author.Tests.{eqb-true, leb-true, ltb-false, ltb-true}
use native.Mathlib.Nat.{add-zero, add-suc, suc-add, suc-mul, add_comm}
use native.Mathlib.Omega.{arith}
use Rattle.colour.specs.declared.setting.ColourSetting.{ColourSetting}
use Rattle.colour.specs.Tint.{colour_type_byte, mode_of}
use Rattle.gear.specs.Scene.{nowhere}
use Rattle.gear.specs.Record.{fitb}
use Rattle.numbers.proofs.Logic.{both_left, both_right, by_cases}
use Rattle.numbers.specs.Numbers.{pick, both}
use Rattle.slot.specs.Held.{Bytes, all_zero, at_most, canonical, heldb, is_kind, limits}
use Rattle.slot.specs.Image.{flag_byte, image_of, open_flag, open_frame, put_all, put_banks, put_bytes, put_colour, put_colours, put_flags, put_front, put_marks, put_numbers, put_setting, put_settings, short_byte, typed, walk_byte}
use Rattle.slot.specs.Record.{at, bytes_from, colour_in, flag_at, flags_from, gear_of, setting_in, settings_in, short_of, tint_of, walk_of, word_at}

-- ## Bytes laid out one by one

abbrev cells_from : ℕ → ℕ → List ℕ → List ℕ → List ℕ
cells_from zero k b t = t
cells_from (suc n) k b t = at k b ∷ cells_from n (suc k) b t

laid_out : (n k : ℕ) (b : List ℕ) → k + n ≤ length b → cells_from n k b (drop (k + n) b) ≡ drop k b
laid_out zero k b h = rw add-zero
laid_out (suc n) k b h =
    rw (drop-cons b k 0 (omega arith)) (ap (λ (l : List ℕ). at k b ∷ l) (rw (add-suc, ← suc-add) (laid_out n (suc k) b (omega arith))))

-- ## Single values

flag_forth : (n : ℕ) → n ≤ 1 → flag_byte (eqb n 1) ≡ n
flag_forth zero h = refl
flag_forth (suc zero) h = refl
flag_forth (suc (suc n)) h = absurd (omega arith)

walk_forth : (n : ℕ) → n ≤ 17 → walk_byte (walk_of n) ≡ n
walk_forth n h =
    by_cases (ltb n 17) (λ e. rw e)
    (λ e. rw e (omega (arith, ltb-false n 17 e)))

short_forth : (n : ℕ) → n ≤ 64 → short_byte (short_of n) ≡ n
short_forth n h =
    by_cases (ltb n 64) (λ e. rw e)
    (λ e. rw e (omega (arith, ltb-false n 64 e)))

kind_forth : (n : ℕ) → is_kind n ≡ true → colour_type_byte (mode_of n) ≡ n
kind_forth n h =
    by_cases (eqb n 0x10) (λ e. rw e (sym (eqb-true n 0x10 e)))
    (λ e. by_cases (eqb n 0x20) (λ f. rw (e, f) (sym (eqb-true n 0x20 f)))
    (λ f. by_cases (eqb n 0x80) (λ g. rw (e, f, g) (sym (eqb-true n 0x80 g)))
    (λ g. rw (e, f, g) (sym (eqb-true n 0xFF (rw (e, f, g) at h))))))

low_forth : (lo hi : ℕ) → lo < 256 → hi < 256 → (lo + 256 * hi) % 256 ≡ lo
low_forth lo hi l h = omega arith

high_forth : (lo hi : ℕ) → lo < 256 → hi < 256 → (lo + 256 * hi) / 256 ≡ hi
high_forth lo hi l h = omega arith

-- ## Arrays

-- zeros behind the end of a list are what is put there
cut_forth : (n c : ℕ) (xs t : List ℕ) → all_zero (drop c xs) ≡ true → put_bytes n (take c xs) t ≡ put_bytes n xs t
cut_forth zero c xs t h = refl
cut_forth (suc n) zero [] t h = refl
cut_forth (suc n) zero (x ∷ xs) t h =
    λ i.
    sym (eqb-true x 0 (both_left (eqb x 0) (all_zero xs) h)) i ∷ cut_forth n zero xs t (both_right (eqb x 0) (all_zero xs) h) i
cut_forth (suc n) (suc c) [] t h = refl
cut_forth (suc n) (suc c) (x ∷ xs) t h = ap (λ (l : List ℕ). x ∷ l) (cut_forth n c xs t h)

flags_forth : (n k : ℕ) (b t : List ℕ) → ((i : ℕ) → i < n → at (k + i) b ≤ 1) → put_flags n (flags_from n k b) t ≡ cells_from n k b t
flags_forth zero k b t low = refl
flags_forth (suc n) k b t low =
    λ i.
    flag_forth (at k b) (rw add-zero at (low 0 (omega arith))) i ∷
    flags_forth n (suc k) b t (λ j h. rw (suc-add, ← add-suc) (low (suc j) (omega arith))) i

-- ## Colours

colour_forth : (xs : List ℕ) → 14 ≤ length xs → Bytes xs → put_colour (colour_in xs) (drop 14 xs) ≡ xs
colour_forth xs h bytes =
    (λ i.
    low 0 i ∷ high 0 i ∷ low 2 i ∷ high 2 i ∷ low 4 i ∷ high 4 i ∷
    at 6 xs ∷ at 7 xs ∷ at 8 xs ∷ at 9 xs ∷ at 10 xs ∷ at 11 xs ∷ at 12 xs ∷ at 13 xs ∷ drop 14 xs) ∙
    laid_out 14 0 xs h
  where
    low : (k : ℕ) → word_at k xs % 256 ≡ at k xs
    low k = low_forth (at k xs) (at (k + 1) xs) (bytes k) (bytes (k + 1))

    high : (k : ℕ) → word_at k xs / 256 ≡ at (k + 1) xs
    high k = high_forth (at k xs) (at (k + 1) xs) (bytes k) (bytes (k + 1))

setting_forth : (xs : List ℕ) → 15 ≤ length xs → Bytes xs → put_setting (setting_in xs) (drop 15 xs) ≡ xs
setting_forth xs h bytes =
    ap (put_colour (colour_in xs)) (laid_out 1 14 xs (omega arith)) ∙ colour_forth xs (omega arith) bytes

pub bytes_drop : (k : ℕ) (b : List ℕ) → Bytes b → Bytes (drop k b)
bytes_drop k b bytes i = rw get_or-drop (bytes (k + i))

settings_forth :
    (n : ℕ) (xs : List ℕ) → n * 15 ≤ length xs → Bytes xs →
    put_all put_setting nowhere n (settings_in n xs) (drop (n * 15) xs) ≡ xs
settings_forth zero xs h bytes = refl
settings_forth (suc n) xs h bytes =
    ap (put_setting (setting_in xs))
    (rw (suc-mul, add_comm (n * 15) 15, ← drop-drop) (settings_forth n (drop 15 xs) (simp length-drop (omega arith)) (bytes_drop 15 xs bytes))) ∙
    setting_forth xs (omega arith) bytes

-- ## The whole image

pub limit_at : (ls b : List ℕ) → at_most ls b ≡ true → (k : ℕ) → k < length ls → at k b ≤ get_or ls k 0
limit_at [] b h k l = absurd (omega arith)
limit_at (m ∷ ls) [] h zero l = omega arith
limit_at (m ∷ ls) (x ∷ b) h zero l = leb-true x m (both_left (leb x m) (at_most ls b) h)
limit_at (m ∷ ls) [] h (suc k) l = omega arith
limit_at (m ∷ ls) (x ∷ b) h (suc k) l = limit_at ls b (both_right (leb x m) (at_most ls b) h) k (omega arith)

zeros_forth : (n : ℕ) (b : List ℕ) → length b ≡ n → ((i : ℕ) → at i b ≡ 0) → replicate n 0 ≡ b
zeros_forth n b len zeros =
    ext_get_or 0 (replicate n 0) b (length-replicate n 0 ∙ sym len) (λ i h. get_or-replicate n i 0 0 (rw length-replicate at h) ∙ sym (zeros i))

pub is_fit : (b : List ℕ) → heldb b ≡ true → fitb (gear_of b) ≡ true
unfolding heldb
is_fit b held = both_right (canonical b) (fitb (gear_of b)) (both_right (at_most limits b) _ held)

module _ (b : List ℕ) (len : length b ≡ 512) (bytes : Bytes b) (held : heldb b ≡ true) where
  low_enough : at_most limits b ≡ true
  unfolding heldb
  low_enough = both_left (at_most limits b) (both (canonical b) (fitb (gear_of b))) held

  pub is_canonical : canonical b ≡ true
  unfolding heldb
  is_canonical = both_left (canonical b) (fitb (gear_of b)) (both_right (at_most limits b) _ held)

  many : length limits ≡ 512
  unfolding limits
  many = refl

  -- each byte under its limit
  limit : (k : ℕ) → k < 512 → at k b ≤ get_or limits k 0
  limit k h = limit_at limits b low_enough k (rw many h)

  flag_low : (k : ℕ) → k < 35 → at (32 + k) b ≤ 1
  unfolding limits
  flag_low k h =
      let one : get_or limits (32 + k) 0 ≡ 1 =
      sym (get_or-drop 32 limits k 0) ∙
      get_or-append (replicate 35 1) (replicate 374 255 ++ replicate 71 0) 0 k h ∙ get_or-replicate 35 k 1 0 h
      in
      rw one at (limit (32 + k) (omega arith))

  spare : (k : ℕ) → at k (drop 441 b) ≡ 0
  unfolding limits
  spare k =
      rw get_or-drop
      (by_cases (ltb k 71)
      (λ e.
      let h : k < 71 = ltb-true k 71 e in
      let none : get_or limits (441 + k) 0 ≡ 0 = sym (get_or-drop 441 limits k 0) ∙ get_or-replicate 71 k 0 0 h in
      let most : at (441 + k) b ≤ 0 = rw none at (limit (441 + k) (omega arith)) in
      omega arith)
      (λ e. let h : 71 ≤ k = ltb-false k 71 e in get_or-eq_default b 0 (omega arith)))

  spare_forth : replicate 71 0 ≡ drop 441 b
  spare_forth = zeros_forth 71 (drop 441 b) (simp length-drop (omega arith)) spare

  low : (k : ℕ) → word_at k b % 256 ≡ at k b
  low k = low_forth (at k b) (at (k + 1) b) (bytes k) (bytes (k + 1))

  high : (k : ℕ) → word_at k b / 256 ≡ at (k + 1) b
  high k = high_forth (at k b) (at (k + 1) b) (bytes k) (bytes (k + 1))

  flag : (k : ℕ) → k < 35 → flag_byte (flag_at (32 + k) b) ≡ at (32 + k) b
  flag k h = flag_forth (at (32 + k) b) (flag_low k h)

  banks_forth : put_banks (gear_of b).banks (replicate 71 0) ≡ drop 395 b
  unfolding gear_of
  banks_forth =
      ap (λ (t : List ℕ). put_banks (gear_of b).banks t) spare_forth ∙
      ap (λ (t : List ℕ). cells_from 29 395 b t) (laid_out 17 424 b (omega arith)) ∙ laid_out 29 395 b (omega arith)

  setting_at : (k : ℕ) → k + 15 ≤ 512 → put_setting (setting_in (drop k b)) (drop (k + 15) b) ≡ drop k b
  setting_at k h = rw (← drop-drop 15 k b) (setting_forth (drop k b) (simp length-drop (omega arith)) (bytes_drop k b bytes))

  scenes_forth : put_all put_setting nowhere 16 (settings_in 16 (drop 155 b)) (drop 395 b) ≡ drop 155 b
  scenes_forth = rw (← drop-drop 240 155 b) (settings_forth 16 (drop 155 b) (simp length-drop (omega arith)) (bytes_drop 155 b bytes))

  all_settings_forth : put_settings (gear_of b) (drop 395 b) ≡ drop 125 b
  unfolding gear_of
  all_settings_forth =
      ap (λ (t : List ℕ). put_setting (setting_in (drop 125 b)) (put_setting (setting_in (drop 140 b)) t)) scenes_forth ∙
      ap (put_setting (setting_in (drop 125 b))) (setting_at 140 (omega arith)) ∙ setting_at 125 (omega arith)

  -- a colour whose type is a mode's
  tint_forth :
      (k : ℕ) → k + 14 ≤ 512 → is_kind (at (k + 13) b) ≡ true →
      put_colour (typed (tint_of (colour_in (drop k b)))) (drop (k + 14) b) ≡ drop k b
  tint_forth k h known =
      let xs : List ℕ = drop k b in
      let same : typed (tint_of (colour_in xs)) ≡ colour_in xs =
      λ i.
      record {
        kind = kind_forth (at 13 xs) (rw get_or-drop known) i;
        control = at 12 xs;
        x = word_at 0 xs;
        y = word_at 2 xs;
        tc = word_at 4 xs;
        levels = bytes_from 6 6 xs;
      }
      in
      ap (λ (s : ColourSetting). put_colour s (drop (k + 14) b)) same ∙
      rw (← drop-drop 14 k b) (colour_forth xs (simp length-drop (omega arith)) (bytes_drop k b bytes))

  kinds : (is_kind (at 96 b) ≡ true) × (is_kind (at 110 b) ≡ true)
  kinds =
      let after : both (is_kind (at 96 b)) (is_kind (at 110 b)) ≡ true =
      both_right (pick (flag_at 55 b) true (eqb (word_at 73 b) 0)) _
      (both_right (all_zero (drop (at 7 b) (bytes_from 16 16 b))) _ is_canonical)
      in
      (both_left (is_kind (at 96 b)) _ after, both_right (is_kind (at 96 b)) _ after)

  closed : pick (flag_at 55 b) true (eqb (word_at 73 b) 0) ≡ true
  closed =
      both_left (pick (flag_at 55 b) true (eqb (word_at 73 b) 0)) _
      (both_right (all_zero (drop (at 7 b) (bytes_from 16 16 b))) _ is_canonical)

  quiet : all_zero (drop (at 7 b) (bytes_from 16 16 b)) ≡ true
  quiet = both_left (all_zero (drop (at 7 b) (bytes_from 16 16 b))) _ is_canonical

  colours_forth : put_colours (gear_of b).colour (drop 125 b) ≡ drop 83 b
  unfolding gear_of
  colours_forth =
      let report : put_colour (colour_in (drop 111 b)) (drop 125 b) ≡ drop 111 b =
      rw (← drop-drop 14 111 b) (colour_forth (drop 111 b) (simp length-drop (omega arith)) (bytes_drop 111 b bytes))
      in
      let active = typed (tint_of (colour_in (drop 83 b))) in
      let pending = typed (tint_of (colour_in (drop 97 b))) in
      ap (λ (t : List ℕ). put_colour active (put_colour pending t)) report ∙
      ap (put_colour active) (tint_forth 97 (omega arith) kinds.1) ∙ tint_forth 83 (omega arith) kinds.0

  open_forth : open_flag (gear_of b).marks.pair ≡ at 55 b
  unfolding gear_of
  open_forth = by_cases (flag_at 55 b) (λ e. rw e (sym (eqb-true (at 55 b) 1 e))) (λ e. rw e (rw e at (flag 23 (omega arith))))

  frame_forth : open_frame (gear_of b).marks.pair ≡ word_at 73 b
  unfolding gear_of
  frame_forth = by_cases (flag_at 55 b) (λ e. rw e) (λ e. rw e (sym (eqb-true (word_at 73 b) 0 (rw e at closed))))

  numbers_forth : put_numbers (gear_of b) (drop 83 b) ≡ drop 67 b
  unfolding gear_of
  numbers_forth =
      (λ i.
      at 67 b ∷ at 68 b ∷ at 69 b ∷ at 70 b ∷ low 71 i ∷ high 71 i ∷
      (ap (λ (n : ℕ). n % 256) frame_forth ∙ low 73) i ∷ (ap (λ (n : ℕ). n / 256) frame_forth ∙ high 73) i ∷
      low 75 i ∷ high 75 i ∷ low 77 i ∷ high 77 i ∷ low 79 i ∷ high 79 i ∷ low 81 i ∷ high 81 i ∷ drop 83 b) ∙
      laid_out 16 67 b (omega arith)

  marks_forth : put_marks (gear_of b) (drop 67 b) ≡ drop 48 b
  unfolding gear_of
  marks_forth =
      (λ i.
      flag 16 (omega arith) i ∷ flag 17 (omega arith) i ∷ flag 18 (omega arith) i ∷ flag 19 (omega arith) i ∷
      flag 20 (omega arith) i ∷ flag 21 (omega arith) i ∷ flag 22 (omega arith) i ∷ open_forth i ∷
      flag 24 (omega arith) i ∷ flag 25 (omega arith) i ∷ flag 26 (omega arith) i ∷ flag 27 (omega arith) i ∷
      flag 28 (omega arith) i ∷ flag 29 (omega arith) i ∷ flag 30 (omega arith) i ∷ flag 31 (omega arith) i ∷
      flag 32 (omega arith) i ∷ flag 33 (omega arith) i ∷ flag 34 (omega arith) i ∷ drop 67 b) ∙
      laid_out 19 48 b (omega arith)

  groups_forth : put_flags 16 (gear_of b).settings.groups (drop 48 b) ≡ drop 32 b
  unfolding gear_of
  groups_forth = flags_forth 16 32 b (drop 48 b) (λ i h. flag_low i (omega arith)) ∙ laid_out 16 32 b (omega arith)

  types_forth : put_bytes 16 (take (gear_of b).unit.count (gear_of b).unit.types) (drop 32 b) ≡ drop 16 b
  unfolding gear_of
  types_forth = cut_forth 16 (at 7 b) (bytes_from 16 16 b) (drop 32 b) quiet ∙ laid_out 16 16 b (omega arith)

  front_forth : put_front (gear_of b) (drop 16 b) ≡ b
  unfolding gear_of limits
  front_forth =
      (λ i.
      at 0 b ∷ at 1 b ∷ at 2 b ∷ at 3 b ∷ at 4 b ∷ walk_forth (at 5 b) (limit 5 (omega arith)) i ∷
      short_forth (at 6 b) (limit 6 (omega arith)) i ∷ at 7 b ∷ random.0 i ∷ random.1 i ∷ random.2 i ∷ random.3 i ∷
      at 12 b ∷ at 13 b ∷ at 14 b ∷ at 15 b ∷ drop 16 b) ∙
      laid_out 16 0 b (omega arith)
    where
      n : ℕ
      n = at 8 b + 256 * at 9 b + 65536 * at 10 b + 16777216 * at 11 b

      random : (n % 256 ≡ at 8 b) × (n / 256 % 256 ≡ at 9 b) × (n / 65536 % 256 ≡ at 10 b) × (n / 16777216 ≡ at 11 b)
      random =
          let b0 = bytes 8 in let b1 = bytes 9 in let b2 = bytes 10 in let b3 = bytes 11 in
          (omega arith, omega arith, omega arith, omega arith)

  pub image_forth : image_of (gear_of b) ≡ b
  unfolding image_of
  image_forth =
      let g = gear_of b in
      let types = take g.unit.count g.unit.types in
      let settings : put_settings g (put_banks g.banks (replicate 71 0)) ≡ drop 125 b =
      ap (put_settings g) banks_forth ∙ all_settings_forth
      in
      let numbers : put_numbers g (put_colours g.colour (put_settings g (put_banks g.banks (replicate 71 0)))) ≡ drop 67 b =
      ap (λ (t : List ℕ). put_numbers g (put_colours g.colour t)) settings ∙ ap (put_numbers g) colours_forth ∙ numbers_forth
      in
      ap (λ (t : List ℕ). put_front g (put_bytes 16 types (put_flags 16 g.settings.groups (put_marks g t)))) numbers ∙
      ap (λ (t : List ℕ). put_front g (put_bytes 16 types (put_flags 16 g.settings.groups t))) marks_forth ∙
      ap (λ (t : List ℕ). put_front g (put_bytes 16 types t)) groups_forth ∙ ap (put_front g) types_forth ∙ front_forth
