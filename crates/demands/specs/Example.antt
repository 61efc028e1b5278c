-- Document 01's example: the bytes of its file, and the bytes of the six lines that it prints.
use Rattle.std.specs.Prelude.{ℕ, List, [], ◌∷◌}

abbrev pub file : List ℕ
file =
    -- one type: 8
    0x01 ∷ 0x08 ∷
    -- the profile's eleven bytes
    0x0B ∷ 0x05 ∷ 0x00 ∷ 0x00 ∷ 0x01 ∷ 0x01 ∷ 0x00 ∷ 0x00 ∷ 0x99 ∷ 0x01 ∷ 0x90 ∷ 0x01 ∷
    -- five steps: SetMaxLevel 200, arc power 254, query 160, query 144, power cycle
    0x00 ∷ 0x05 ∷
    0x01 ∷ 0x2A ∷ 0xC8 ∷ 0x00 ∷
    0x00 ∷ 0xFE ∷ 0x00 ∷ 0x00 ∷
    0x02 ∷ 0xA0 ∷ 0x00 ∷ 0x00 ∷
    0x02 ∷ 0x90 ∷ 0x00 ∷ 0x00 ∷
    0x0A ∷ 0x00 ∷ 0x00 ∷ 0x00 ∷
    []

abbrev pub lines : List ℕ
lines =
    -- 1 .
    49 ∷ 32 ∷ 46 ∷ 10 ∷
    -- 2 .
    50 ∷ 32 ∷ 46 ∷ 10 ∷
    -- 3 200
    51 ∷ 32 ∷ 50 ∷ 48 ∷ 48 ∷ 10 ∷
    -- 4 12
    52 ∷ 32 ∷ 49 ∷ 50 ∷ 10 ∷
    -- 5 .
    53 ∷ 32 ∷ 46 ∷ 10 ∷
    -- end 254 1 200
    101 ∷ 110 ∷ 100 ∷ 32 ∷ 50 ∷ 53 ∷ 52 ∷ 32 ∷ 49 ∷ 32 ∷ 50 ∷ 48 ∷ 48 ∷ 10 ∷
    []
