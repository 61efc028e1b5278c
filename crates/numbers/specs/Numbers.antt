-- A choice between two values, two tests at once, and a number held within two ends.
use Rattle.std.specs.Prelude.{ℕ, min, max, Bool, true, false}

abbrev pub pick : {A : Type 0} → Bool → A → A → A
pick true a b = a
pick false a b = b

abbrev pub both : Bool → Bool → Bool
both true b = b
both false b = false

-- x held within low..high; where the ends cross (low above high) it is high, whatever x is
abbrev pub clamp_to : ℕ → ℕ → ℕ → ℕ
clamp_to x low high = min (max x low) high
