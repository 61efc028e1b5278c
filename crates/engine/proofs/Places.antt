-- What stands at a computed place: a code, a group's flag, and a scene.
use Prim.Native.Nat.{ℕ, zero, suc, ◌%◌, ◌*◌, ◌+◌, ◌<◌}
use mathlib.Core.List.{List}
use mathlib.Core.Path.{◌≡◌, refl, ap, sym, ◌∙◌}
use lib.ListN.{drop, get_or}
use lib.Seq.{drop-drop, get_or-drop}
use borrow.Author.Tests.{lt-leb}
use native.Mathlib.Nat.{add-suc, add-zero, suc-add}
use native.Mathlib.Omega.{arith}
use Rattle.gear.specs.Scene.{nowhere, scene_at}
use Rattle.gear.specs.Write.{scene}
use Rattle.gear.specs.declared.settings.LevelSetting.{LevelSetting}
use Rattle.slot.specs.Record.{at, bytes_from, gear_of, setting_in, settings_in}

pub bytes_get : (n k i : ℕ) (b : List ℕ) → i < n → get_or (bytes_from n k b) i 0 ≡ at (k + i) b
bytes_get zero k i b h = absurd (omega arith)
bytes_get (suc n) k zero b h = rw add-zero
bytes_get (suc n) k (suc i) b h = rw (add-suc, ← suc-add) (bytes_get n (suc k) i b (omega arith))

settings_at : (n s : ℕ) (b : List ℕ) → s < n → get_or (settings_in n b) s nowhere ≡ setting_in (drop (15 * s) b)
settings_at zero s b h = absurd (omega arith)
settings_at (suc n) zero b h = refl
settings_at (suc n) (suc s) b h =
    settings_at n s (drop 15 b) (omega arith) ∙
    ap setting_in (drop-drop (15 * s) 15 b ∙ ap (λ (k : ℕ). drop k b) (let e : 15 + 15 * s ≡ 15 * suc s = omega arith in e))

pub scene_place : (s : ℕ) (b : List ℕ) → s < 16 → scene_at (settings_in 16 (drop 155 b)) s ≡ setting_in (drop (155 + 15 * s) b)
unfolding scene_at
scene_place s b h = rw (lt-leb 16 s h) (settings_at 16 s (drop 155 b) h ∙ ap setting_in (drop-drop (15 * s) 155 b))

pub scene_level : (n : ℕ) (b : List ℕ) → at (155 + 15 * (n % 16) + 14) b ≡ (scene (gear_of b) (n % 16)).level
unfolding gear_of
scene_level n b =
    sym (get_or-drop (155 + 15 * (n % 16)) b 14 0) ∙ ap (λ (s : LevelSetting). s.level) (sym (scene_place (n % 16) b (omega arith)))
