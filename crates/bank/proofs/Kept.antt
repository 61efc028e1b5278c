-- Both banks keep their sizes, 29 and 17 bytes, under every call: what is stored replaces a byte and adds none.
use Prim.Native.Nat.{ℕ}
use mathlib.Core.Path.{◌≡◌, refl, ◌∙◌}
use mathlib.Core.Bool.{Bool, true, false}
use mathlib.Core.List.{List, [], ◌∷◌}
use lib.Dec.{leb}
use lib.ListN.{length, length-set, replicate}
use lib.Seq.{length-sets}
use Rattle.bank.specs.declared.build.Banks.{Banks}
use Rattle.bank.specs.Build.{build_bank0, build_bank1, build}
use Rattle.bank.specs.Memory.{writable, store_profile, stored, write_memory_location}
use Rattle.bank.specs.Setters.{set_bank1_lock_byte, set_bank1_location, set_logical_gear_unit, set_bank0_last_offset, clear_identification_number}
use Rattle.numbers.proofs.Logic.{by_cases}

pub record Sized (b : Banks) : Type 0 where
  pub identity : length b.identity ≡ 29
  pub profile : length b.profile ≡ 17

pub build_sized : (random : ℕ) → Sized (build random)
unfolding build_bank0 build_bank1 build
build_sized random = record { identity = refl; profile = refl }

-- ---- as long as before, whatever that was

pub store_profile_length : (bytes : List ℕ) (offset value : ℕ) → length (store_profile bytes offset value) ≡ length bytes
unfolding store_profile
store_profile_length bytes offset value = by_cases (leb 17 offset) (λ e. rw e) (λ e. rw (e, length-set))

pub stored_length :
    (bytes : List ℕ) (unstored : Bool) (offset value : ℕ) → length (stored bytes unstored offset value) ≡ length bytes
unfolding stored
stored_length bytes true offset value = refl
stored_length bytes false offset value = store_profile_length bytes offset value

pub write_length :
    (b : Banks) (unstored : Bool) (bank offset value : ℕ) →
    length (write_memory_location b unstored bank offset value).banks.profile ≡ length b.profile
unfolding write_memory_location
write_length b unstored bank offset value =
    by_cases (writable b bank offset) (λ e. rw (e, stored_length)) (λ e. rw e)

-- ---- sized before, sized after

pub write_sized :
    (b : Banks) (unstored : Bool) (bank offset value : ℕ) →
    Sized b → Sized (write_memory_location b unstored bank offset value).banks
unfolding write_memory_location
write_sized b unstored bank offset value s =
    record { identity = s.identity; profile = write_length b unstored bank offset value ∙ s.profile }

pub set_lock_byte_sized : (b : Banks) (value : ℕ) → Sized b → Sized (set_bank1_lock_byte b value)
unfolding set_bank1_lock_byte
set_lock_byte_sized b value s = record { identity = s.identity; profile = length-set b.profile 2 value ∙ s.profile }

pub set_location_sized : (b : Banks) (offset value : ℕ) → Sized b → Sized (set_bank1_location b offset value)
unfolding set_bank1_location
set_location_sized b offset value s =
    record { identity = s.identity; profile = store_profile_length b.profile offset value ∙ s.profile }

pub set_gear_unit_sized : (b : Banks) (units index : ℕ) → Sized b → Sized (set_logical_gear_unit b units index)
unfolding set_logical_gear_unit
set_gear_unit_sized b units index s =
    record { identity = length-sets b.identity 25 (units ∷ index ∷ []) ∙ s.identity; profile = s.profile }

pub set_last_offset_sized : (b : Banks) (last : ℕ) → Sized b → Sized (set_bank0_last_offset b last)
unfolding set_bank0_last_offset
set_last_offset_sized b last s = record { identity = length-set b.identity 0 last ∙ s.identity; profile = s.profile }

pub clear_sized : (b : Banks) → Sized b → Sized (clear_identification_number b)
unfolding clear_identification_number
clear_sized b s = record { identity = length-sets b.identity 11 (replicate 8 255) ∙ s.identity; profile = s.profile }
