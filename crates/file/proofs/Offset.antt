-- An offset is at most 16,412, the length of the longest well-formed file: a count is judged before anything behind it is looked for.
use Prim.Native.Nat.{ℕ, ◌≤◌}
use mathlib.Core.Path.{◌≡◌, ◌∙◌, subst}
use mathlib.Core.Bool.{true}
use mathlib.Core.List.{List, [], ◌∷◌}
use lib.Dec.{ltb}
use lib.ListN.{length}
use native.Mathlib.Omega.{arith}
use borrow.Author.Tests.{ltb-true, leb-true}
use Rattle.std.specs.Prelude.{Result, Ok, Err, ⊤}
use Rattle.file.specs.declared.Malformed.{Malformed}
use Rattle.file.specs.File.{Field, layout, type_count, profile_at, step_count, end_of, surplus, checked, well_formed}
use Rattle.file.specs.Front.{read, steps_front, colour_front, unit_front, file_front}
use Rattle.file.proofs.Lowest.{lowest}
use Rattle.file.proofs.Shape.{shape}
use Rattle.numbers.proofs.Logic.{by_cases}

-- each field lies within the first m bytes, if those before it are in range
abbrev Within : ℕ → List Field → ℕ → Type 0
Within m [] e = e ≤ m
Within m (f ∷ fs) e = (f.first ≤ m) × (f.past ≤ m) × (f.good ≡ true → Within m fs e)

-- an offset that is at most m
abbrev AtMost : ℕ → Result ⊤ Malformed → Type 0
AtMost m (Ok u) = ⊤
AtMost m (Err k) = k.offset ≤ m

read_within : (m : ℕ) (fs : List Field) (e n : ℕ) → Within m fs e → AtMost m (read fs n (surplus e n))
read_within m [] e n w = by_cases (ltb e n) (λ more. rw more w) (λ no. rw no tt)
read_within m (f ∷ fs) e n (first, past, rest) =
    by_cases (ltb n f.past)
    (λ cut. rw cut (omega (arith, ltb-true n f.past cut)))
    (λ there.
    rw there
    (by_cases f.good
    (λ ok. rw ok (read_within m fs e n (rest ok)))
    (λ no. rw no first)))

layout_within : (s : List ℕ) → Within 16412 (layout s) (end_of s)
layout_within s = (
  omega arith,
  omega arith,
  λ types.
      let few : type_count s ≤ 13 = leb-true _ _ types in (
        omega arith,
        omega arith,
        λ _. (
          omega arith,
          omega arith,
          λ _. (
            omega arith,
            omega arith,
            λ _. (
              omega arith,
              omega arith,
              λ _. (
                omega arith,
                omega arith,
                λ _. (
                  omega arith,
                  omega arith,
                  λ _. (
                    omega arith,
                    omega arith,
                    λ _. (
                      omega arith,
                      omega arith,
                      λ _. (
                        omega arith,
                        omega arith,
                        λ _. (
                          omega arith,
                          omega arith,
                          λ steps.
                              let many : step_count s (profile_at s) ≤ 4096 = leb-true _ _ steps in
                              (omega arith, omega arith, λ _. omega arith),
                        ),
                      ),
                    ),
                  ),
                ),
              ),
            ),
          ),
        ),
      ),
)

pub offset_within : (s : List ℕ) (m : Malformed) → checked s ≡ Err m → m.offset ≤ 16412
unfolding file_front unit_front colour_front steps_front
offset_within s m h =
    subst (AtMost 16412) (lowest s ∙ h) (read_within 16412 (layout s) (end_of s) (length s) (layout_within s))

pub length_within : (s : List ℕ) → well_formed s ≡ true → length s ≤ 16412
length_within s h = let known = shape s h in omega arith
