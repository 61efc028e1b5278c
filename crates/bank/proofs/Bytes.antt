-- The bytes of a number, read high byte first, are that number again; so the numbers in the banks are what they are said to be.
use Prim.Native.Nat.{ℕ, zero, suc, ◌+◌, ◌*◌, ◌%◌, ◌^◌, ◌<◌}
use mathlib.Core.Path.{◌≡◌, refl, sym, ap, ◌∙◌}
use mathlib.Core.List.{List, [], ◌∷◌}
use native.Mathlib.Nat.{mod-one, mod-eq_of_lt, pow-succ', one-le-pow}
use native.Mathlib.Omega.{arith}
use lib.Arith.{mod-mul}
use lib.ListN.{length, take, drop}
use Rattle.bank.specs.Build.{bytes_of, build_bank0, build_bank1}

-- the number that a list of bytes is, high byte first
abbrev pub number_of : List ℕ → ℕ
number_of [] = 0
number_of (b ∷ bs) = b * 256 ^ length bs + number_of bs

pub bytes_length : (n number : ℕ) → length (bytes_of n number) ≡ n
bytes_length zero number = refl
bytes_length (suc n) number = ap suc (bytes_length n number)

pub bytes_number : (n number : ℕ) → number_of (bytes_of n number) ≡ number % 256 ^ n
bytes_number zero number = sym (mod-one number)
bytes_number (suc n) number =
    rw (bytes_length n number, bytes_number n number, pow-succ' 256 n) (sym (mod-mul number (omega arith) (one-le-pow n 256 (omega arith))))

-- a number that fits is regained whole
pub bytes_whole : (n number : ℕ) → number < 256 ^ n → number_of (bytes_of n number) ≡ number
bytes_whole n number h = bytes_number n number ∙ mod-eq_of_lt h

-- ---- the numbers in the banks, for any random address of 32 bits

module _ (random : ℕ) (fits : random < 2 ^ 32) where
  pub gtin : number_of (take 6 (drop 3 (build_bank0 random))) ≡ 0x4000_0000_0000 + random
  unfolding build_bank0
  gtin = bytes_whole 6 (0x4000_0000_0000 + random) (omega arith)

  pub identification_number : number_of (take 8 (drop 11 (build_bank0 random))) ≡ 0x5EED_0000 + random
  unfolding build_bank0
  identification_number = bytes_whole 8 (0x5EED_0000 + random) (omega arith)

  pub oem_gtin : number_of (take 6 (drop 3 (build_bank1 random))) ≡ 0x0EE0_0000_0000 + random
  unfolding build_bank1
  oem_gtin = bytes_whole 6 (0x0EE0_0000_0000 + random) (omega arith)

  pub oem_identification_number : number_of (take 8 (drop 9 (build_bank1 random))) ≡ random * 256
  unfolding build_bank1
  oem_identification_number = bytes_whole 8 (random * 256) (omega arith)
