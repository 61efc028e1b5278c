-- Bytes put in front of others: as an array, entry by entry, and part by part behind what stands there already.
use Prim.Native.Nat.{ℕ, zero, suc, ◌+◌, ◌/◌, ◌%◌, ◌≤◌, ◌<◌}
use mathlib.Core.Path.{◌≡◌, refl, ap, ◌∙◌, sym}
use mathlib.Core.Bool.{Bool, true, false}
use mathlib.Core.List.{List, [], ◌∷◌, ◌++◌, append_assoc, append-nil, map}
use Rattle.std.specs.List.{flat_map}
use Rattle.std.proofs.lemmas.List.Concat.{flat_map_single}
use Rattle.std.proofs.lemmas.List.Folds.{flat_map-map}
use lib.ListN.{drop, drop_of_length-le, length, replicate, take, length-append, length-replicate}
use lib.Seq.{drop_at, drop-drop, get_or-drop, take_at}
use mir.Val.{bool_byte}
use native.Mathlib.Nat.{add-zero}
use native.Mathlib.Numerals.{add-one}
use native.Mathlib.Omega.{arith}
use Rattle.slot.specs.Image.{flag_byte, put_all, put_bytes}
use Rattle.slot.specs.Record.{at, bytes_from}

pub flag_stored : (b : Bool) → bool_byte b ≡ flag_byte b
flag_stored true = refl
flag_stored false = refl

-- zeros where a list of bytes is shorter
pub bytes_put : (n : ℕ) (xs t : List ℕ) → length xs ≤ n → put_bytes n xs t ≡ xs ++ drop (length xs) (replicate n 0 ++ t)
bytes_put zero [] t h = refl
bytes_put zero (x ∷ xs) t h = absurd (omega arith)
bytes_put (suc n) [] t h = ap (λ (l : List ℕ). 0 ∷ l) (bytes_put n [] t (omega arith))
bytes_put (suc n) (x ∷ xs) t h = ap (λ (l : List ℕ). x ∷ l) (bytes_put n xs t (omega arith))

-- as many bytes as the list has
pub bytes_whole : (n : ℕ) (xs t : List ℕ) → length xs ≡ n → put_bytes n xs t ≡ xs ++ t
bytes_whole n xs t h = bytes_put n xs t (omega arith) ∙ rw (h, drop_at (replicate n 0) t n (length-replicate n 0))

pub in_full : (n : ℕ) (xs : List ℕ) → length xs ≡ n → xs ≡ put_bytes n xs []
in_full n xs h = sym (bytes_whole n xs [] h ∙ append-nil xs)

-- each cell by its place
bytes_from_lem : (n k : ℕ) (xs t : List ℕ) → put_bytes n (drop k xs) t ≡ bytes_from n k xs ++ t
bytes_from_lem zero k xs t = refl
bytes_from_lem (suc n) k xs t =
    rw (get_or-drop, add-zero, drop-drop, add-one) (ap (λ (l : List ℕ). at k xs ∷ l) (bytes_from_lem n (suc k) xs t))

pub bytes_cells : (n : ℕ) (xs t : List ℕ) → put_bytes n xs t ≡ bytes_from n 0 xs ++ t
bytes_cells n = bytes_from_lem n 0

-- ## The entries of an array, one behind the other

module _ {A : Type 0} (put : A → List ℕ → List ℕ) (none : A) where
  pub all_joined :
      ((a : A) (t : List ℕ) → put a t ≡ put a [] ++ t) →
      (n : ℕ) (xs : List A) → length xs ≡ n → put_all put none n xs [] ≡ flat_map (λ x. x) (map (λ a. put a []) xs)
  all_joined in-front zero [] h = refl
  all_joined in-front zero (x ∷ xs) h = absurd (omega arith)
  all_joined in-front (suc n) [] h = absurd (omega arith)
  all_joined in-front (suc n) (x ∷ xs) h =
      in-front x (put_all put none n xs []) ∙ ap (λ (l : List ℕ). put x [] ++ l) (all_joined in-front n xs (omega arith))

-- of one byte each
pub all_single :
    {A : Type 0} (code : A → ℕ) (none : A) (n : ℕ) (xs : List A) → length xs ≡ n → put_all (λ x t. code x ∷ t) none n xs [] ≡ map code xs
all_single code none n xs h =
    all_joined (λ x t. code x ∷ t) none (λ x t. refl) n xs h ∙ flat_map-map (λ x. x) (λ x. code x ∷ []) xs ∙ flat_map_single code xs

-- ## Put at places, one behind the other

-- what was put so far, and what is as it was behind it
pub record Begun (front whole bytes : List ℕ) : Type 0 where
  pub is : bytes ≡ front ++ drop (length front) whole

pub put_next :
    (said : List ℕ) {front part whole before after : List ℕ} {place : ℕ} →
    part ≡ said → Begun front whole before → place ≡ length front →
    after ≡ take place before ++ (part ++ drop (place + length part) before) →
    Begun (front ++ said) whole after
put_next said {front} {part} {whole} {before} {after} {place} e begun at put-here =
    let rest = drop (length front) whole in
    let behind : drop (length front + length said) (front ++ rest) ≡ drop (length said) rest =
    sym (drop-drop (length said) (length front) (front ++ rest)) ∙ ap (drop (length said)) (drop_at front rest (length front) refl)
    in
    record { is = put-here ∙ rw (e, at, begun.is, take_at front rest (length front) refl, behind, drop-drop, length-append, append_assoc) }

-- nothing is left behind so many bytes
pub ended : (n : ℕ) {front whole bytes : List ℕ} → length front ≡ n → length whole ≡ n → Begun front whole bytes → bytes ≡ front
ended n {front} {whole} f w begun = begun.is ∙ rw (drop_of_length-le whole {i = length front} (omega arith), append-nil)

-- ## The high byte of a number of two bytes

pub high_byte : (n : ℕ) → n < 65536 → n / 256 % 256 ≡ n / 256
high_byte n h = omega arith
