-- One of the sixteen scenes in an image: fifteen bytes at its place, 155 and fifteen for each scene before it.
use Prim.Native.Nat.{ℕ, zero, suc, ◌+◌, ◌*◌, ◌<◌}
use mathlib.Core.Path.{◌≡◌, refl, ap}
use mathlib.Core.List.{List, [], ◌∷◌, ◌++◌}
use lib.ListN.{drop, get_or, length, set, take}
use lib.Seq.{drop-append-add, take-append-add}
use native.Mathlib.Nat.{add_assoc}
use native.Mathlib.Omega.{arith}
use Rattle.gear.specs.declared.settings.LevelSetting.{LevelSetting}
use Rattle.gear.specs.Scene.{nowhere}
use Rattle.slot.specs.Image.{put_all, put_setting}

-- ## In a list

abbrev pub entries : ℕ → List LevelSetting → List ℕ → List ℕ
entries n xs t = put_all put_setting nowhere n xs t

next : (i : ℕ) → 15 * suc i ≡ 15 + 15 * i
next i = omega arith

-- the entry stands there
pub entry_at : (n i : ℕ) (xs : List LevelSetting) (t : List ℕ) → i < n → drop (15 * i) (entries n xs t) ≡ put_setting (get_or xs i nowhere) (drop (15 * i + 15) (entries n xs t))
entry_at zero i xs t h = absurd (omega arith)
entry_at (suc n) zero xs t h = refl
entry_at (suc n) (suc i) [] t h =
    rw (next i, add_assoc 15 (15 * i) 15, drop-append-add (put_setting nowhere []) (entries n [] t), drop-append-add (put_setting nowhere []) (entries n [] t))
    (entry_at n i [] t (omega arith))
entry_at (suc n) (suc i) (x ∷ xs) t h =
    rw (next i, add_assoc 15 (15 * i) 15, drop-append-add (put_setting x []) (entries n xs t), drop-append-add (put_setting x []) (entries n xs t))
    (entry_at n i xs t (omega arith))

-- another one in its place
pub entry_set :
    (n i : ℕ) (xs : List LevelSetting) (v : LevelSetting) (t : List ℕ) → i < n → length xs ≡ n →
    take (15 * i) (entries n xs t) ++ put_setting v (drop (15 * i + 15) (entries n xs t)) ≡ entries n (set xs i v) t
entry_set zero i xs v t h len = absurd (omega arith)
entry_set (suc n) i [] v t h len = absurd (omega arith)
entry_set (suc n) zero (x ∷ xs) v t h len = refl
entry_set (suc n) (suc i) (x ∷ xs) v t h len =
    rw (next i, add_assoc 15 (15 * i) 15, take-append-add (put_setting x []) (entries n xs t), drop-append-add (put_setting x []) (entries n xs t))
    (ap (put_setting x) (entry_set n i xs v t (omega arith) (omega arith)))
