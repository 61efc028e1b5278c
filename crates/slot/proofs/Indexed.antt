-- Entries of an array in an image, each of one byte: what is read or stored at its place is that entry of the array.
use Prim.Native.Nat.{ℕ, zero, suc, ◌+◌, ◌≤◌, ◌<◌}
use mathlib.Core.Path.{◌≡◌, refl, ap, ◌∙◌}
use mathlib.Core.Bool.{Bool, false}
use mathlib.Core.List.{List, [], ◌∷◌, ◌++◌}
use lib.ListN.{drop, get_or, length, set, take, length-set}
use lib.Seq.{get_or-append-add, sets}
use native.Mathlib.Nat.{add-suc, suc-add, zero-add}
use native.Mathlib.Omega.{arith}
use Rattle.bank.specs.Build.{with_identity, with_profile}
use Rattle.gear.specs.declared.record.Gear.{Gear}
use Rattle.gear.specs.Parts.{with_banks, with_settings}
use Rattle.gear.specs.Settings.{with_groups}
use Rattle.slot.specs.Held.{Holds}
use Rattle.slot.specs.Image.{flag_byte, image_of, put_all}

-- ## In a list

set_behind : (front b : List ℕ) (i v : ℕ) → set (front ++ b) (length front + i) v ≡ front ++ set b i v
set_behind [] b i v = rw zero-add
set_behind (x ∷ front) b i v = rw suc-add (ap (λ (l : List ℕ). x ∷ l) (set_behind front b i v))

-- the entries of an array, each as one byte: flags by `flag_byte`, bytes as they are
abbrev pub put_each : {A : Type 0} → (A → ℕ) → A → ℕ → List A → List ℕ → List ℕ
put_each code none n xs t = put_all (λ x b. code x ∷ b) none n xs t

module _ {A : Type 0} (code : A → ℕ) (none : A) where
  put_set :
      (n i : ℕ) (xs : List A) (v : A) (t : List ℕ) → length xs ≡ n → i < n →
      set (put_each code none n xs t) i (code v) ≡ put_each code none n (set xs i v) t
  put_set zero i xs v t len h = absurd (omega arith)
  put_set (suc n) i [] v t len h = absurd (omega arith)
  put_set (suc n) zero (x ∷ xs) v t len h = refl
  put_set (suc n) (suc i) (x ∷ xs) v t len h = ap (λ (l : List ℕ). code x ∷ l) (put_set n i xs v t (omega arith) (omega arith))

  put_read : (n i : ℕ) (xs : List A) (t : List ℕ) → i < n → get_or (put_each code none n xs t) i 0 ≡ code (get_or xs i none)
  put_read zero i xs t h = absurd (omega arith)
  put_read (suc n) zero xs t h = refl
  put_read (suc n) (suc i) [] t h = put_read n i [] t (omega arith)
  put_read (suc n) (suc i) (x ∷ xs) t h = put_read n i xs t (omega arith)

  pub read_in :
      (front t : List ℕ) (n i : ℕ) (xs : List A) → i < n →
      get_or (front ++ put_each code none n xs t) (length front + i) 0 ≡ code (get_or xs i none)
  read_in front t n i xs h = get_or-append-add front (put_each code none n xs t) i 0 ∙ put_read n i xs t h

  pub stored_in :
      (front t : List ℕ) (n i : ℕ) (xs : List A) (v : A) → length xs ≡ n → i < n →
      set (front ++ put_each code none n xs t) (length front + i) (code v) ≡ front ++ put_each code none n (set xs i v) t
  stored_in front t n i xs v len h =
      set_behind front (put_each code none n xs t) i (code v) ∙ ap (λ (l : List ℕ). front ++ l) (put_set n i xs v t len h)

-- ## In the groups and the banks of a record

module _ (b : List ℕ) (g : Gear) (h : Holds b g) (i : ℕ) where
  pub group_stored :
      (v : Bool) → i < 16 →
      Holds (set b (32 + i) (flag_byte v)) (with_settings g (with_groups g.settings (set g.settings.groups i v)) g.colour)
  unfolding image_of
  group_stored v l =
      let len = h.1.3.0 in (
        rw h.0 (stored_in flag_byte false (take 32 (image_of g)) (drop 48 (image_of g)) 16 i g.settings.groups v len l),
        (h.1.0, h.1.1, h.1.2, (length-set g.settings.groups i v ∙ len, h.1.3.1, h.1.3.2), h.1.4, h.1.5),
      )

  pub identity_read : i < 29 → get_or b (395 + i) 0 ≡ get_or g.banks.identity i 0
  unfolding image_of
  identity_read l =
      rw h.0 (read_in (λ x. x) 0 (take 395 (image_of g)) (drop 424 (image_of g)) 29 i g.banks.identity l)

  pub profile_read : i < 17 → get_or b (424 + i) 0 ≡ get_or g.banks.profile i 0
  unfolding image_of
  profile_read l =
      rw h.0 (read_in (λ x. x) 0 (take 424 (image_of g)) (drop 441 (image_of g)) 17 i g.banks.profile l)

  pub identity_stored : (v : ℕ) → i < 29 → Holds (set b (395 + i) v) (with_banks g (with_identity g.banks (set g.banks.identity i v)))
  unfolding image_of
  identity_stored v l =
      let len = h.1.5.0 in (
        rw h.0 (stored_in (λ x. x) 0 (take 395 (image_of g)) (drop 424 (image_of g)) 29 i g.banks.identity v len l),
        (h.1.0, h.1.1, h.1.2, h.1.3, h.1.4, (length-set g.banks.identity i v ∙ len, h.1.5.1)),
      )

  pub profile_stored : (v : ℕ) → i < 17 → Holds (set b (424 + i) v) (with_banks g (with_profile g.banks (set g.banks.profile i v)))
  unfolding image_of
  profile_stored v l =
      let len = h.1.5.1 in (
        rw h.0 (stored_in (λ x. x) 0 (take 424 (image_of g)) (drop 441 (image_of g)) 17 i g.banks.profile v len l),
        (h.1.0, h.1.1, h.1.2, h.1.3, h.1.4, (h.1.5.0, length-set g.banks.profile i v ∙ len)),
      )

-- a row of bytes of bank 0
pub identity_row :
    (vs b : List ℕ) (g : Gear) (i : ℕ) → Holds b g → i + length vs ≤ 29 →
    Holds (sets b (395 + i) vs) (with_banks g (with_identity g.banks (sets g.banks.identity i vs)))
identity_row [] b g i h l = h
identity_row (v ∷ vs) b g i h l =
    rw (← add-suc 395 i)
    (identity_row vs (set b (395 + i) v) (with_banks g (with_identity g.banks (set g.banks.identity i v))) (suc i)
    (identity_stored b g h i v (omega arith)) (omega arith))
