-- The type list: the first `count` of sixteen entries.
use Rattle.std.specs.Prelude.{ℕ, Bool, true, false, List, [], ◌∷◌, eqb, take}
use Rattle.numbers.specs.Numbers.{pick}

unfoldable pub member : ℕ → List ℕ → Bool
member code [] = false
member code (x ∷ xs) = pick (eqb x code) true (member code xs)

unfoldable pub has_type : List ℕ → ℕ → ℕ → Bool
has_type types count code = member code (take count types)
