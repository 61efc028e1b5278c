-- What a well-formed file has: its length, and each field within its range.
use Prim.Native.Nat.{ℕ, zero, suc, ◌+◌, ◌*◌, ◌-◌, ◌≤◌}
use mathlib.Core.Path.{◌≡◌, refl, sym, ap, ◌∙◌}
use mathlib.Core.Bool.{true, false}
use mathlib.Core.List.{List, [], ◌∷◌}
use lib.Dec.{leb, eqb}
use lib.ListN.{length, get_or, take, drop, length-drop}
use lib.Seq.{length-take-le}
use native.Mathlib.Omega.{arith}
use borrow.Author.Tests.{eqb-true, leb-true}
use Rattle.std.specs.Prelude.{Ok, Err, is_ok}
use Rattle.file.specs.declared.Malformed.{Malformed}
use Rattle.file.specs.File.{Field, field, byte, word, checked, well_formed, type_count, profile_at, step_count, end_of, short_good, layout, all_good, types_of, profile_of, steps_of}
use Rattle.file.proofs.Lowest.{accepted_exactly}
use Rattle.numbers.proofs.Logic.{both_left, both_right}

pub record Shape (s : List ℕ) : Type 0 where
  pub ends : length s ≡ end_of s
  pub types : type_count s ≤ 13
  pub count : byte s (profile_at s) ≡ 11
  pub short : short_good (byte s (profile_at s + 1)) ≡ true
  pub flags : byte s (profile_at s + 5) ≤ 31
  pub channels : byte s (profile_at s + 6) ≤ 6
  pub order : word s (profile_at s + 7) ≤ word s (profile_at s + 9)
  pub warmest : word s (profile_at s + 9) ≤ 65534
  pub dimmest : 1 ≤ byte s (profile_at s + 11)
  pub minimum : byte s (profile_at s + 11) ≤ 254
  pub steps : step_count s (profile_at s) ≤ 4096

-- the field at place k, counted from 0, is in range
good_at : (fs : List Field) → all_good fs ≡ true → (k : ℕ) → (get_or fs k (field 0 0 true)).good ≡ true
good_at [] h k = refl
good_at (f ∷ fs) h zero = both_left f.good (all_good fs) h
good_at (f ∷ fs) h (suc k) = good_at fs (both_right f.good (all_good fs) h) k

pub shape : (s : List ℕ) → well_formed s ≡ true → Shape s
unfolding well_formed
shape s h =
    let b = profile_at s in
    let ok = good_at (layout s) (both_right (eqb (length s) (end_of s)) (all_good (layout s)) h) in
    record {
      ends = eqb-true _ _ (both_left (eqb (length s) (end_of s)) (all_good (layout s)) h);
      types = leb-true _ _ (ok 0);
      count = eqb-true _ _ (ok 2);
      short = ok 3;
      flags = leb-true _ _ (ok 5);
      channels = leb-true _ _ (ok 6);
      order = leb-true _ _ (both_left _ (leb (word s (b + 9)) 65534) (ok 8));
      warmest = leb-true _ _ (both_right (leb (word s (b + 7)) (word s (b + 9))) _ (ok 8));
      dimmest = leb-true _ _ (both_left _ (leb (byte s (b + 11)) 254) (ok 9));
      minimum = leb-true _ _ (both_right (leb 1 (byte s (b + 11))) _ (ok 9));
      steps = leb-true _ _ (ok 10);
    }

-- ## The sections of a well-formed file

pub types_length : (s : List ℕ) → well_formed s ≡ true → length (types_of s) ≡ type_count s
unfolding types_of
types_length s h =
    let known = shape s h in
    rw h (length-take-le (type_count s) (drop 1 s) (simp length-drop (omega arith)))

pub steps_length : (s : List ℕ) → well_formed s ≡ true → length (steps_of s) ≡ step_count s (profile_at s) * 4
unfolding steps_of
steps_length s h =
    let known = shape s h in
    rw h (length-take-le (step_count s (profile_at s) * 4) (drop (profile_at s + 14) s) (simp length-drop (omega arith)))

-- ## What the code cuts out of an accepted file

pub accepted : (s : List ℕ) → checked s ≡ Ok tt → well_formed s ≡ true
accepted s ok = sym (accepted_exactly s) ∙ ap is_ok ok

pub refused : (s : List ℕ) (m : Malformed) → checked s ≡ Err m → well_formed s ≡ false
refused s m bad = sym (accepted_exactly s) ∙ ap is_ok bad

pub types_cut : (s : List ℕ) (n : ℕ) → checked s ≡ Ok tt → n ≡ type_count s → types_of s ≡ take n (drop 1 s)
unfolding types_of
types_cut s n ok e = rw (accepted s ok, e) refl

pub profile_cut :
    (s : List ℕ) (n at : ℕ) → checked s ≡ Ok tt → n ≡ 11 → at ≡ type_count s + 2 → profile_of s ≡ take n (drop at s)
unfolding profile_of
profile_cut s n at ok e f = rw (accepted s ok, e, f) refl

-- the file ends with its steps
pub steps_cut : (s : List ℕ) (n : ℕ) → checked s ≡ Ok tt → n ≡ length s - (profile_at s + 14) → steps_of s ≡ take n (drop (profile_at s + 14) s)
unfolding steps_of
steps_cut s n ok e =
    let known = shape s (accepted s ok) in
    rw (accepted s ok) (ap (λ k. take k (drop (profile_at s + 14) s)) (omega arith))
