-- What each call on the banks leaves alone, and what reads the same whatever is stored.
use Prim.Native.Nat.{ℕ}
use mathlib.Core.Path.{◌≡◌, refl}
use mathlib.Core.Bool.{Bool, true, false}
use Rattle.std.specs.Prelude.{Some, None}
use Rattle.bank.specs.declared.build.Banks.{Banks}
use Rattle.bank.specs.Memory.{profile_location, lacks_indicator_byte, memory_location, writable, stored, write_memory_location}
use Rattle.bank.specs.Setters.{set_bank1_lock_byte, set_bank1_location, set_logical_gear_unit, set_bank0_last_offset, clear_identification_number}
use Rattle.numbers.proofs.Logic.{by_cases}

-- ---- the last offset of bank 1

-- offset 0 of bank 1 reads 16, whatever is stored in either bank, and with or without indicator bytes
pub profile_last_lem : (b : Banks) (bare : Bool) → memory_location b bare 1 0 ≡ Some 16
unfolding profile_location lacks_indicator_byte memory_location
profile_last_lem b true = refl
profile_last_lem b false = refl

-- ---- writes

-- a write leaves bank 0 as it was, whatever its bank, offset and value
pub write_identity :
    (b : Banks) (unstored : Bool) (bank offset value : ℕ) →
    (write_memory_location b unstored bank offset value).banks.identity ≡ b.identity
unfolding write_memory_location
write_identity b unstored bank offset value = refl

-- a location that cannot be written gives no answer, and nothing changes
pub write_refused :
    (b : Banks) (unstored : Bool) (bank offset value : ℕ) →
    writable b bank offset ≡ false → write_memory_location b unstored bank offset value ≡ record { answer = None; banks = b }
unfolding write_memory_location
write_refused b unstored bank offset value e = rw e

-- a write that is not stored leaves both banks as they were
pub write_unstored : (b : Banks) (bank offset value : ℕ) → (write_memory_location b true bank offset value).banks ≡ b
unfolding stored write_memory_location
write_unstored b bank offset value = by_cases (writable b bank offset) (λ e. rw e) (λ e. rw e)

-- ---- setters: each changes one bank alone

pub set_lock_byte_identity : (b : Banks) (value : ℕ) → (set_bank1_lock_byte b value).identity ≡ b.identity
unfolding set_bank1_lock_byte
set_lock_byte_identity b value = refl

pub set_location_identity : (b : Banks) (offset value : ℕ) → (set_bank1_location b offset value).identity ≡ b.identity
unfolding set_bank1_location
set_location_identity b offset value = refl

pub set_gear_unit_profile : (b : Banks) (units index : ℕ) → (set_logical_gear_unit b units index).profile ≡ b.profile
unfolding set_logical_gear_unit
set_gear_unit_profile b units index = refl

pub set_last_offset_profile : (b : Banks) (last : ℕ) → (set_bank0_last_offset b last).profile ≡ b.profile
unfolding set_bank0_last_offset
set_last_offset_profile b last = refl

pub clear_profile : (b : Banks) → (clear_identification_number b).profile ≡ b.profile
unfolding clear_identification_number
clear_profile b = refl
