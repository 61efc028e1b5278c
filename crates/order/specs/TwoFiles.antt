-- An example for demand 3 where a host stands: arc power 100 and SetFadeTime 5 in two orders, then query 160.
use Rattle.std.specs.Prelude.{ℕ, List, [], ◌∷◌, ◌++◌}
use Rattle.demands.specs.Sessions.{Step}

-- one type, and the profile of document 01's example
abbrev pub head : List ℕ
head =
    0x01 ∷ 0x08 ∷
    0x0B ∷ 0x05 ∷ 0x00 ∷ 0x00 ∷ 0x01 ∷ 0x01 ∷ 0x00 ∷ 0x00 ∷ 0x99 ∷ 0x01 ∷ 0x90 ∷ 0x01 ∷
    []

abbrev pub file : List ℕ
file =
    head ++
    (0x00 ∷ 0x03 ∷
    0x00 ∷ 0x64 ∷ 0x00 ∷ 0x00 ∷
    0x01 ∷ 0x2E ∷ 0x05 ∷ 0x00 ∷
    0x02 ∷ 0xA0 ∷ 0x00 ∷ 0x00 ∷
    [])

abbrev pub file_too : List ℕ
file_too =
    head ++
    (0x00 ∷ 0x03 ∷
    0x01 ∷ 0x2E ∷ 0x05 ∷ 0x00 ∷
    0x00 ∷ 0x64 ∷ 0x00 ∷ 0x00 ∷
    0x02 ∷ 0xA0 ∷ 0x00 ∷ 0x00 ∷
    [])

abbrev pub arc : Step
arc = record { kind = 0; a = 100; b = 0; c = 0 }

abbrev pub fade : Step
fade = record { kind = 1; a = 46; b = 5; c = 0 }

abbrev pub ask : Step
ask = record { kind = 2; a = 160; b = 0; c = 0 }

-- what both files print after the two writes
abbrev pub printed_after : List ℕ
printed_after =
    -- 3 100
    51 ∷ 32 ∷ 49 ∷ 48 ∷ 48 ∷ 10 ∷
    -- end 100 1 254
    101 ∷ 110 ∷ 100 ∷ 32 ∷ 49 ∷ 48 ∷ 48 ∷ 32 ∷ 49 ∷ 32 ∷ 50 ∷ 53 ∷ 52 ∷ 10 ∷
    []
