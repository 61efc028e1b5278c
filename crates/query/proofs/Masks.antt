-- The bits of a byte by a mask, and one by one: a test that is computed over all bytes.
use Prim.Native.Nat.{ℕ, ◌<◌, ◌%◌}
use mathlib.Core.Path.{◌≡◌, refl}
use mathlib.Core.Bool.{Bool, true, false}
use lib.Dec.{eqb, T}
use lib.ListN.{replicate, length-replicate}
use Rattle.std.proofs.lemmas.Nat.{and_mask}
use Rattle.std.specs.Int.Bits.{bit_and}
use Rattle.numbers.specs.Numbers.{pick}
use Rattle.numbers.proofs.Table.{at}
use Rattle.query.specs.Bits.{bit}

abbrev same : Bool → Bool → Bool
same true b = b
same false b = pick b false true

same_eq : (a b : Bool) → T (same a b) → a ≡ b
same_eq true true t = refl
same_eq true false t = absurd t
same_eq false true t = absurd t
same_eq false false t = refl

shut_down_same : ℕ → ℕ → Bool
shut_down_same n x = same (eqb (bit_and n 32) 0) (pick (bit n 32) false true)

pub shut_down : (n : ℕ) → n < 256 → eqb (bit_and n 32) 0 ≡ pick (bit n 32) false true
unfolding shut_down_same
shut_down n h = same_eq (eqb (bit_and n 32) 0) (pick (bit n 32) false true) (at shut_down_same (replicate 256 0) tt n (rw length-replicate h))

pub failed : (n : ℕ) → eqb (bit_and n 31) 0 ≡ eqb (n % 32) 0
failed n = rw (and_mask n 5) refl

overheated_same : ℕ → ℕ → Bool
overheated_same n x = same (eqb (bit_and n 96) 0) (pick (bit n 32) false (pick (bit n 64) false true))

pub overheated : (n : ℕ) → n < 256 → eqb (bit_and n 96) 0 ≡ pick (bit n 32) false (pick (bit n 64) false true)
unfolding overheated_same
overheated n h = same_eq (eqb (bit_and n 96) 0) (pick (bit n 32) false (pick (bit n 64) false true)) (at overheated_same (replicate 256 0) tt n (rw length-replicate h))
