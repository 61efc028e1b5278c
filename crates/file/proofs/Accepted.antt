-- The profile of a well-formed file is accepted: what a profile is asked, the file's fields were asked too.
use Prim.Native.Nat.{ℕ, ◌+◌, ◌*◌, ◌<◌}
use mathlib.Core.Path.{◌≡◌, sym, ap, ◌∙◌}
use mathlib.Core.Bool.{true}
use mathlib.Core.List.{List}
use lib.Dec.{leb, eqb}
use lib.ListN.{length, drop}
use lib.Seq.{get_or-take, get_or-drop}
use native.Mathlib.Omega.{arith}
use borrow.Author.Tests.{le-leb}
use Rattle.gear.specs.Profile.{accepted, unit_fit, short_fit}
use Rattle.file.specs.File.{byte, word, well_formed, type_count, profile_at, types_of, profile_of, short_good}
use Rattle.file.specs.Profile.{short_of, random_of, unit_from, profile_from, profile_in}
use Rattle.file.proofs.Shape.{shape, types_length}
use Rattle.numbers.proofs.Logic.{by_cases, no_false, both_true}

-- a byte of the profile is a byte of the file
profile_byte : (s : List ℕ) → well_formed s ≡ true → (i : ℕ) → i < 11 → byte (profile_of s) i ≡ byte s (profile_at s + (i + 1))
unfolding profile_of
profile_byte s h i small =
    rw h (get_or-take 11 (drop (type_count s + 2) s) i 0 small ∙ get_or-drop (type_count s + 2) s i 0 ∙ ap (byte s) (omega arith))

short_fit_lem : (x : ℕ) → short_good x ≡ true → short_fit (short_of x) ≡ true
unfolding short_fit short_of
short_fit_lem x h =
    by_cases (eqb x 255)
    (λ none. rw none)
    (λ some. rw some (by_cases (leb x 63) (λ ok. ok) (λ no. no_false (sym some ∙ (simp no at h)))))

pub file_accepted :
    (s : List ℕ) → ((i : ℕ) → byte s i < 256) → well_formed s ≡ true → accepted (profile_in s) ≡ true
unfolding accepted unit_fit profile_in profile_from unit_from
file_accepted s bytes h =
    let known = shape s h in
    let q = profile_of s in
    let p : (i : ℕ) → i < 11 → byte q i ≡ byte s (profile_at s + (i + 1)) = profile_byte s h in
    let b = profile_at s in
    let coolest : word q 6 ≡ word s (b + 7) = ap (λ w. w * 256 + byte q 7) (p 6 (omega arith)) ∙ ap (λ w. byte s (b + 7) * 256 + w) (p 7 (omega arith) ∙ ap (byte s) (omega arith)) in
    let warmest : word q 8 ≡ word s (b + 9) = ap (λ w. w * 256 + byte q 9) (p 8 (omega arith)) ∙ ap (λ w. byte s (b + 9) * 256 + w) (p 9 (omega arith) ∙ ap (byte s) (omega arith)) in
    rw h
    (both_true (le-leb (byte q 5) 6 (omega (arith, p 5 (omega arith))))
    (both_true (le-leb (word q 6) (word q 8) (omega arith))
    (both_true (le-leb (word q 8) 65534 (omega arith))
    (both_true (le-leb (length (types_of s)) 13 (omega (arith, types_length s h)))
    (both_true (le-leb (random_of q) 16777215 (omega (arith, p 1 (omega arith), p 2 (omega arith), p 3 (omega arith), bytes (b + 2), bytes (b + 3), bytes (b + 4))))
    (both_true (le-leb 1 (byte q 10) (omega (arith, p 10 (omega arith))))
    (both_true (le-leb (byte q 10) 254 (omega (arith, p 10 (omega arith))))
    (rw (p 0 (omega arith)) (short_fit_lem (byte s (b + 1)) known.short)))))))))
