-- The lowest bits of a number.
use Rattle.std.specs.Prelude.{ℕ, zero, suc, ◌+◌, ◌/◌, ◌%◌, ◌^◌, Bool, List, [], ◌∷◌, eqb}

-- the bit at a place, counted from the lowest
abbrev pub bit_at : ℕ → ℕ → Bool
bit_at x i = eqb (x / 2 ^ i % 2) 1

-- n of them from the i-th on
abbrev pub bits_from : ℕ → ℕ → ℕ → List Bool
bits_from zero i x = []
bits_from (suc n) i x = bit_at x i ∷ bits_from n (i + 1) x

-- n of them, the lowest first
abbrev pub bits : ℕ → ℕ → List Bool
bits n x = bits_from n 0 x
