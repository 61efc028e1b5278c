-- Stores at different places of a list swap, and a place is read as it was before a store elsewhere.
use Prim.Native.Nat.{ℕ, zero, suc}
use mathlib.Core.Path.{◌≡◌, refl, sym, ap}
use mathlib.Core.List.{List, [], ◌∷◌}
use mathlib.Core.Option.{Option, none, some}
use lib.Dec.{leb}
use lib.ListN.{get_or, set}
use lib.Seq.{get_or-set_other}
use Rattle.gear.specs.declared.settings.LevelSetting.{LevelSetting}
use Rattle.gear.specs.Scene.{nowhere, scene_at, stored}
use Rattle.gear.specs.Settings.{unset}
use Rattle.numbers.specs.Numbers.{pick}
use Rattle.numbers.proofs.Logic.{by_cases}
use Rattle.order.specs.Carry.{scene_step, store}
use Rattle.order.specs.Rows.{SceneStep}

abbrev pub Differ : ℕ → ℕ → Type 0
Differ n m = n ≡ m → ⊥

set_swap : {A : Type 0} (xs : List A) (n m : ℕ) (a b : A) → Differ n m → set (set xs n a) m b ≡ set (set xs m b) n a
set_swap [] n m a b d = refl
set_swap (x ∷ xs) zero zero a b d = absurd (d refl)
set_swap (x ∷ xs) zero (suc m) a b d = refl
set_swap (x ∷ xs) (suc n) zero a b d = refl
set_swap (x ∷ xs) (suc n) (suc m) a b d = ap (λ ys. x ∷ ys) (set_swap xs n m a b (λ e. d (ap suc e)))

pub stored_swap :
    {A : Type 0} (xs : List A) (n m : ℕ) (a b : A) → Differ n m → stored (stored xs n a) m b ≡ stored (stored xs m b) n a
unfolding stored
stored_swap xs n m a b d =
    by_cases (leb 16 n) (λ e. rw e) (λ e. by_cases (leb 16 m) (λ t. rw (e, t)) (λ t. rw (e, t) (set_swap xs n m a b d)))

-- ---- reading after a store elsewhere

get_or_stored : {A : Type 0} (xs : List A) (n m : ℕ) (v d : A) → Differ n m → get_or (stored xs m v) n d ≡ get_or xs n d
unfolding stored
get_or_stored xs n m v d e = by_cases (leb 16 m) (λ t. rw t) (λ t. rw t (get_or-set_other xs m n v d e))

scene_elsewhere : (xs : List LevelSetting) (n m : ℕ) (v : LevelSetting) → Differ n m → scene_at (stored xs m v) n ≡ scene_at xs n
unfolding scene_at
scene_elsewhere xs n m v d = ap (pick (leb 16 n) unset) (get_or_stored xs n m v nowhere d)

pub store_elsewhere :
    (xs : List LevelSetting) (n m : ℕ) (k : Option SceneStep) → Differ n m → scene_at (store m k xs) n ≡ scene_at xs n
store_elsewhere xs n m none d = refl
store_elsewhere xs n m (some k) d = scene_elsewhere xs n m _ d

pub store_swap :
    (xs : List LevelSetting) (n m : ℕ) (a b : Option SceneStep) → Differ n m → store m b (store n a xs) ≡ store n a (store m b xs)
store_swap xs n m none none d = refl
store_swap xs n m none (some b) d = refl
store_swap xs n m (some a) none d = refl
store_swap xs n m (some a) (some b) d =
    rw (scene_elsewhere xs m n (scene_step a (scene_at xs n)) (λ e. d (sym e)), scene_elsewhere xs n m (scene_step b (scene_at xs m)) d)
    (stored_swap xs n m _ _ d)
