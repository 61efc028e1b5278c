-- `clamp` at bytes and at words of 16 bits, which are both compared as the numbers that they are: the rule `clamp_to`.
use Rattle.std.proofs.Common.{arith}
use Rattle.std.proofs.lemmas.Grind.{common_steps}
use mathlib.Core.Path.{◌≡◌}
use Prim.Native.Nat.{ℕ}
use Rattle.std.specs.Ordering.{ord_max, ord_min, nat_cmp}
use Rattle.numbers.specs.Numbers.{clamp_to}

pub clamped : (x low high : ℕ) → ord_min nat_cmp (ord_max nat_cmp x low) high ≡ clamp_to x low high
clamped x low high = grind (arith, common_steps)
