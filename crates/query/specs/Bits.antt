-- Bits of bytes, and bytes of bits.
use Rattle.std.specs.Prelude.{ℕ, ◌+◌, ◌*◌, ◌/◌, ◌%◌, Bool, false, List, eqb, get_or}
use Rattle.numbers.specs.Numbers.{pick}

-- the bit of weight w
abbrev pub bit : ℕ → ℕ → Bool
bit n w = eqb (n / w % 2) 1

unfoldable pub weight : Bool → ℕ → ℕ
weight set w = pick set w 0

unfoldable pub nibble : Bool → Bool → Bool → Bool → ℕ
nibble a b c d = weight a 1 + 2 * weight b 1 + 4 * weight c 1 + 8 * weight d 1

-- eight marks from a place on, the first the lowest bit
unfoldable pub eight : List Bool → ℕ → ℕ
eight marks from =
    nibble (get_or marks from false) (get_or marks (from + 1) false) (get_or marks (from + 2) false) (get_or marks (from + 3) false) +
    16 * nibble (get_or marks (from + 4) false) (get_or marks (from + 5) false) (get_or marks (from + 6) false) (get_or marks (from + 7) false)
