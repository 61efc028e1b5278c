-- The readings of document 01 that are about the banks alone, P8 and P9, of the banks built from any random address; and a few
-- banks written out.
use Prim.Native.Nat.{ℕ}
use mathlib.Core.Path.{◌≡◌, refl}
use mathlib.Core.Bool.{Bool, true, false}
use mathlib.Core.List.{[], ◌∷◌}
use Rattle.std.specs.Prelude.{Some, None}
use Rattle.bank.specs.declared.build.Banks.{Banks}
use Rattle.bank.specs.Build.{build_bank0, build_bank1, build}
use Rattle.bank.specs.Memory.{identity_location, lacks_indicator_byte, memory_location, profile_writable, writable, store_profile, stored, write_memory_location}
use Rattle.bank.specs.Setters.{set_bank0_last_offset}

-- P8: bank 0 ends at 26, its offset 1 is reserved, the last bank is 1, and 27 lies beyond
pub p8 :
    (random : ℕ) (bare : Bool) →
    (memory_location (build random) bare 0 0 ≡ Some 26) ×
    (memory_location (build random) bare 0 1 ≡ None) ×
    (memory_location (build random) bare 0 2 ≡ Some 1) ×
    (memory_location (build random) bare 0 27 ≡ None)
unfolding build_bank0 build identity_location lacks_indicator_byte memory_location
p8 random true = (refl, refl, refl, refl)
p8 random false = (refl, refl, refl, refl)

-- 0 written at offset 2 of bank 1
abbrev locked : ℕ → Banks
locked random = (write_memory_location (build random) false 1 2 0).banks

-- P9: that write is answered; then a write at 3 is not, and changes nothing, and one at 2 still is
pub p9 :
    (random value : ℕ) (unstored : Bool) →
    ((write_memory_location (build random) false 1 2 0).answer ≡ Some 0) ×
    (write_memory_location (locked random) unstored 1 3 value ≡ record { answer = None; banks = locked random }) ×
    ((write_memory_location (locked random) unstored 1 2 value).answer ≡ Some value)
unfolding build_bank1 build profile_writable writable store_profile stored write_memory_location
p9 random value unstored = (refl, refl, refl)

-- bank 0 stores two bytes more than it shows; a last offset set beyond them shows these, and no more
pub beyond :
    (random : ℕ) (bare : Bool) →
    (memory_location (set_bank0_last_offset (build random) 255) bare 0 27 ≡ Some 0) ×
    (memory_location (set_bank0_last_offset (build random) 255) bare 0 28 ≡ Some 0) ×
    (memory_location (set_bank0_last_offset (build random) 255) bare 0 29 ≡ None)
unfolding build_bank0 build identity_location lacks_indicator_byte memory_location set_bank0_last_offset
beyond random true = (refl, refl, refl)
beyond random false = (refl, refl, refl)

-- what the largest number gives: the GTIN does not carry, and the identification number carries past 32 bits
pub carries :
    build_bank0 0xFFFF_FFFF ≡
    26 ∷ 0 ∷ 1 ∷
    0x40 ∷ 0x00 ∷ 0xFF ∷ 0xFF ∷ 0xFF ∷ 0xFF ∷
    1 ∷ 4 ∷
    0 ∷ 0 ∷ 0 ∷ 1 ∷ 0x5E ∷ 0xEC ∷ 0xFF ∷ 0xFF ∷
    2 ∷ 0 ∷ 8 ∷ 8 ∷ 0 ∷ 0 ∷ 1 ∷ 0 ∷ 0 ∷ 0 ∷ []
unfolding build_bank0
carries = refl

pub shifted :
    build_bank1 0x1234_5678 ≡
    16 ∷ 0 ∷ 0x55 ∷ 0x0E ∷ 0xE0 ∷ 0x12 ∷ 0x34 ∷ 0x56 ∷ 0x78 ∷ 0 ∷ 0 ∷ 0 ∷ 0x12 ∷ 0x34 ∷ 0x56 ∷ 0x78 ∷ 0 ∷ []
unfolding build_bank1
shifted = refl
