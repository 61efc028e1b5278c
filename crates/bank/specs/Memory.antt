-- What a memory location answers to a read and to a write (part 102, 9.10).
use Rattle.std.specs.Prelude.{ℕ, Bool, true, not, List, eqb, leb, ltb, get_or, Option, Some, None, is_some}
use Rattle.bank.specs.declared.build.Banks.{Banks}
use Rattle.bank.specs.declared.memory.Written.{Written}
use Rattle.bank.specs.Build.{with_profile}
use Rattle.numbers.specs.Entries.{stored_at as stored_among}
use Rattle.numbers.specs.Numbers.{both, pick}

-- bank 0: nothing beyond the last offset, which offset 0 holds, nothing at offset 1, nothing beyond the 29 bytes that there are
unfoldable pub identity_location : List ℕ → ℕ → Option ℕ
identity_location bytes offset =
    pick (ltb (get_or bytes 0 0) offset) None
    (pick (eqb offset 1) None (pick (leb 29 offset) None (Some (get_or bytes offset 0))))

-- the last offset of bank 1
abbrev pub profile_last : ℕ
profile_last = 16

-- bank 1: offset 0 reads as the last offset, whatever is stored there; nothing beyond the 17 bytes that there are
unfoldable pub profile_location : List ℕ → ℕ → Option ℕ
profile_location bytes offset = pick (eqb offset 0) (Some profile_last) (pick (leb 17 offset) None (Some (get_or bytes offset 0)))

-- offset 1 of a bank other than 0, on a gear without indicator bytes
unfoldable pub lacks_indicator_byte : Bool → ℕ → ℕ → Bool
lacks_indicator_byte bare bank offset = both bare (both (not (eqb bank 0)) (eqb offset 1))

-- only banks 0 and 1 have locations
unfoldable pub memory_location : Banks → Bool → ℕ → ℕ → Option ℕ
memory_location b bare bank offset =
    pick (lacks_indicator_byte bare bank offset) None
    (pick (eqb bank 0) (identity_location b.identity offset)
    (pick (eqb bank 1) (profile_location b.profile offset) None))

abbrev pub implements_bank : ℕ → Bool
implements_bank bank = leb bank 1

-- a gear that holds DTR0 moves it only past a location that answers
unfoldable pub advances_dtr0_past : Banks → Bool → Bool → ℕ → ℕ → Bool
advances_dtr0_past b bare holds bank offset =
    both (implements_bank bank) (pick holds (is_some (memory_location b bare bank offset)) true)

-- from the lock byte, at offset 2, to the last offset; beyond the lock byte only where it holds 0x55
unfoldable pub profile_writable : List ℕ → ℕ → Bool
profile_writable bytes offset =
    both (both (leb 2 offset) (leb offset profile_last))
    (pick (eqb offset 2) true (eqb (get_or bytes 2 0) 0x55))

-- nothing but bank 1 can be written
unfoldable pub writable : Banks → ℕ → ℕ → Bool
writable b bank offset = both (eqb bank 1) (profile_writable b.profile offset)

-- beyond a bank's n bytes nothing is stored
abbrev pub stored_at : ℕ → List ℕ → ℕ → ℕ → List ℕ
stored_at n bytes offset value = stored_among n bytes offset value

unfoldable pub store_profile : List ℕ → ℕ → ℕ → List ℕ
store_profile bytes offset value = stored_at 17 bytes offset value

-- a fault keeps what is written from being stored
unfoldable pub stored : List ℕ → Bool → ℕ → ℕ → List ℕ
stored bytes unstored offset value = pick unstored bytes (store_profile bytes offset value)

-- a location that can be written answers what was written, stored or not. Bank 0 never changes
unfoldable pub write_memory_location : Banks → Bool → ℕ → ℕ → ℕ → Written
write_memory_location b unstored bank offset value =
    record {
      answer = pick (writable b bank offset) (Some value) None;
      banks = with_profile b (pick (writable b bank offset) (stored b.profile unstored offset value) b.profile);
    }
