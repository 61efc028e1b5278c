-- Both banks as a gear leaves the factory (part 102, tables 9 and 10): fixed bytes, and numbers made of the random address.
use Rattle.std.specs.Prelude.{ℕ, zero, suc, ◌+◌, ◌*◌, ◌/◌, ◌%◌, ◌^◌, List, [], ◌∷◌, ◌++◌}
use Rattle.bank.specs.declared.build.Banks.{Banks}

abbrev pub with_identity : Banks → List ℕ → Banks
with_identity b bytes = record { identity = bytes; profile = b.profile }

abbrev pub with_profile : Banks → List ℕ → Banks
with_profile b bytes = record { identity = b.identity; profile = bytes }

-- the lowest n bytes of a number, high byte first
abbrev pub bytes_of : ℕ → ℕ → List ℕ
bytes_of zero number = []
bytes_of (suc n) number = number / 256 ^ n % 256 ∷ bytes_of n number

-- offset 0 names the last offset, 2 the last bank; 3 to 8 the GTIN, 11 to 18 the identification number, 25 and 26 the logical
-- units and the index among them. Offsets 27 and 28 are stored, and lie beyond the last offset
unfoldable pub build_bank0 : ℕ → List ℕ
build_bank0 random =
    (26 ∷ 0 ∷ 1 ∷ []) ++
    bytes_of 6 (0x4000_0000_0000 + random) ++
    (1 ∷ 4 ∷ []) ++
    bytes_of 8 (0x5EED_0000 + random) ++
    (2 ∷ 0 ∷ 8 ∷ 8 ∷ 0 ∷ 0 ∷ 1 ∷ 0 ∷ 0 ∷ 0 ∷ [])

-- offset 2 is the lock byte, not locked; 3 to 8 the maker's GTIN, 9 to 16 the maker's identification number
unfoldable pub build_bank1 : ℕ → List ℕ
build_bank1 random = (16 ∷ 0 ∷ 0x55 ∷ []) ++ bytes_of 6 (0x0EE0_0000_0000 + random) ++ bytes_of 8 (random * 256)

unfoldable pub build : ℕ → Banks
build random = record { identity = build_bank0 random; profile = build_bank1 random }
