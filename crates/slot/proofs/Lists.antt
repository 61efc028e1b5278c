-- Arrays in a list of bytes: what is put there comes back.
use Prim.Native.Nat.{ℕ, zero, suc, ◌+◌, ◌*◌, ◌/◌, ◌%◌}
use mathlib.Core.Path.{◌≡◌, refl, ap, ◌∙◌, sym}
use mathlib.Core.Bool.{Bool, true, false}
use mathlib.Core.List.{List, [], ◌∷◌}
use lib.Dec.{eqb}
use lib.ListN.{length, get_or}
use native.Mathlib.Omega.{arith}
use mir.Syntax.{w8}
use mir.Val.{Fits}
use Rattle.colour.specs.declared.setting.ColourSetting.{ColourSetting}
use Rattle.gear.specs.declared.settings.LevelSetting.{LevelSetting}
use Rattle.gear.specs.Scene.{nowhere}
use Rattle.slot.specs.Held.{AllSix, Bytes}
use Rattle.slot.specs.Image.{put_all, put_bytes, put_colour, put_flags, put_setting, flag_byte}
use Rattle.slot.specs.Record.{at, bytes_from, colour_in, flag_at, flags_from, setting_in, settings_in}

-- ## Single values

pub flag_back : (b : Bool) → eqb (flag_byte b) 1 ≡ b
flag_back true = refl
flag_back false = refl

pub word_back : (n : ℕ) → n % 256 + 256 * (n / 256) ≡ n
word_back n = omega arith

-- ## Arrays

-- one place further on, behind one byte more
pub bytes_behind : (n k x : ℕ) (ys : List ℕ) → bytes_from n (suc k) (x ∷ ys) ≡ bytes_from n k ys
bytes_behind zero k x ys = refl
bytes_behind (suc n) k x ys = ap (λ (l : List ℕ). at k ys ∷ l) (bytes_behind n (suc k) x ys)

flags_behind : (n k x : ℕ) (ys : List ℕ) → flags_from n (suc k) (x ∷ ys) ≡ flags_from n k ys
flags_behind zero k x ys = refl
flags_behind (suc n) k x ys = ap (λ (l : List Bool). flag_at k ys ∷ l) (flags_behind n (suc k) x ys)

pub bytes_back : (n : ℕ) (xs t : List ℕ) → length xs ≡ n → bytes_from n 0 (put_bytes n xs t) ≡ xs
bytes_back zero [] t h = refl
bytes_back zero (x ∷ xs) t h = absurd (omega arith)
bytes_back (suc n) [] t h = absurd (omega arith)
bytes_back (suc n) (x ∷ xs) t h =
    ap (λ (l : List ℕ). x ∷ l) (bytes_behind n 0 x (put_bytes n xs t) ∙ bytes_back n xs t (omega arith))

-- past the end of a list stand zeros, in the image and in what is read from it alike
pub bytes_cut : (n : ℕ) (xs t : List ℕ) → bytes_from n 0 (put_bytes n xs t) ≡ bytes_from n 0 xs
bytes_cut zero xs t = refl
bytes_cut (suc n) [] t =
    ap (λ (l : List ℕ). 0 ∷ l) (bytes_behind n 0 0 (put_bytes n [] t) ∙ bytes_cut n [] t ∙ none n 0)
  where
    none : (m k : ℕ) → bytes_from m k [] ≡ bytes_from m (suc k) []
    none zero k = refl
    none (suc m) k = ap (λ (l : List ℕ). 0 ∷ l) (none m (suc k))
bytes_cut (suc n) (x ∷ xs) t =
    ap (λ (l : List ℕ). x ∷ l) (bytes_behind n 0 x (put_bytes n xs t) ∙ bytes_cut n xs t ∙ sym (bytes_behind n 0 x xs))

pub flags_back : (n : ℕ) (xs : List Bool) (t : List ℕ) → length xs ≡ n → flags_from n 0 (put_flags n xs t) ≡ xs
flags_back zero [] t h = refl
flags_back zero (x ∷ xs) t h = absurd (omega arith)
flags_back (suc n) [] t h = absurd (omega arith)
flags_back (suc n) (x ∷ xs) t h =
    λ i. flag_back x i ∷ (flags_behind n 0 (flag_byte x) (put_flags n xs t) ∙ flags_back n xs t (omega arith)) i

-- ## Settings

pub colour_back : (s : ColourSetting) (t : List ℕ) → length s.levels ≡ 6 → colour_in (put_colour s t) ≡ s
colour_back s t h =
    λ i.
    record {
      kind = s.kind;
      control = s.control;
      x = word_back s.x i;
      y = word_back s.y i;
      tc = word_back s.tc i;
      levels = bytes_back 6 s.levels [] h i;
    }

pub setting_back : (s : LevelSetting) (t : List ℕ) → length s.colour.levels ≡ 6 → setting_in (put_setting s t) ≡ s
setting_back s t h = λ i. record { colour = colour_back s.colour (s.level ∷ t) h i; level = s.level }

pub settings_back :
    (n : ℕ) (xs : List LevelSetting) (t : List ℕ) → length xs ≡ n → AllSix xs →
    settings_in n (put_all put_setting nowhere n xs t) ≡ xs
settings_back zero [] t h six = refl
settings_back zero (x ∷ xs) t h six = absurd (omega arith)
settings_back (suc n) [] t h six = absurd (omega arith)
settings_back (suc n) (x ∷ xs) t h six =
    λ i. setting_back x (put_all put_setting nowhere n xs t) six.0 i ∷ settings_back n xs t (omega arith) six.1 i

-- ## What the bytes of a slice are known to be

pub all_bytes : (b : List ℕ) → ((i : ℕ) → Fits w8 (get_or b i 0)) → Bytes b
all_bytes b fits i = let h = fits i in omega arith
