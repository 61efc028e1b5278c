-- What is set in the banks from outside, whatever the lock byte says. `set` stores one byte, and `sets` a row of them from an offset on.
use Rattle.std.specs.Prelude.{ℕ, List, [], ◌∷◌, set, replicate}
use Rattle.std.proofs.lemmas.List.Edits.{sets}
use Rattle.bank.specs.declared.build.Banks.{Banks}
use Rattle.bank.specs.Build.{with_identity, with_profile}
use Rattle.bank.specs.Memory.{store_profile, stored_at}

unfoldable pub set_bank1_lock_byte : Banks → ℕ → Banks
set_bank1_lock_byte b value = with_profile b (set b.profile 2 value)

-- beyond the bank nothing is stored; at offset 0 a byte that no read shows
unfoldable pub set_bank1_location : Banks → ℕ → ℕ → Banks
set_bank1_location b offset value = with_profile b (store_profile b.profile offset value)

unfoldable pub store_identity : List ℕ → ℕ → ℕ → List ℕ
store_identity bytes offset value = stored_at 29 bytes offset value

-- the number of units at offset 25, the index of this one at 26
unfoldable pub set_logical_gear_unit : Banks → ℕ → ℕ → Banks
set_logical_gear_unit b units index = with_identity b (sets b.identity 25 (units ∷ index ∷ []))

unfoldable pub set_bank0_last_offset : Banks → ℕ → Banks
set_bank0_last_offset b last = with_identity b (set b.identity 0 last)

-- the eight bytes from offset 11 on become 255
abbrev pub cleared : List ℕ → List ℕ
cleared bytes = sets bytes 11 (replicate 8 255)

unfoldable pub clear_identification_number : Banks → Banks
clear_identification_number b = with_identity b (cleared b.identity)
