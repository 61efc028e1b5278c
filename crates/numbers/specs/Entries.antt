-- One entry of a list of n entries stored.
use Rattle.std.specs.Prelude.{ℕ, List, leb, set}
use Rattle.numbers.specs.Numbers.{pick}

-- beyond the n entries nothing is stored
abbrev pub stored_at : {A : Type 0} → ℕ → List A → ℕ → A → List A
stored_at n xs at v = pick (leb n at) xs (set xs at v)
