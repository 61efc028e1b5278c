-- Document 01's example file, whole and damaged: what the rules say of it.
use Prim.Native.Nat.{ℕ}
use mathlib.Core.Path.{◌≡◌, refl}
use mathlib.Core.List.{List, [], ◌∷◌, ◌++◌}
use lib.ListN.{take, set}
use Rattle.std.specs.Prelude.{Ok, Err}
use Rattle.file.specs.File.{fault, checked, well_formed, types_of, profile_of, steps_of}

abbrev file : List ℕ
file =
    0x01 ∷ 0x08 ∷
    0x0B ∷ 0x05 ∷ 0x00 ∷ 0x00 ∷ 0x01 ∷ 0x01 ∷ 0x00 ∷ 0x00 ∷ 0x99 ∷ 0x01 ∷ 0x90 ∷ 0x01 ∷
    0x00 ∷ 0x05 ∷
    0x01 ∷ 0x2A ∷ 0xC8 ∷ 0x00 ∷
    0x00 ∷ 0xFE ∷ 0x00 ∷ 0x00 ∷
    0x02 ∷ 0xA0 ∷ 0x00 ∷ 0x00 ∷
    0x02 ∷ 0x90 ∷ 0x00 ∷ 0x00 ∷
    0x0A ∷ 0x00 ∷ 0x00 ∷ 0x00 ∷
    []

whole : checked file ≡ Ok tt
unfolding checked
whole = refl

sections :
    (types_of file ≡ 8 ∷ []) ×
    (profile_of file ≡ 5 ∷ 0 ∷ 0 ∷ 1 ∷ 1 ∷ 0 ∷ 0 ∷ 0x99 ∷ 1 ∷ 0x90 ∷ 1 ∷ []) ×
    (take 4 (steps_of file) ≡ 1 ∷ 0x2A ∷ 0xC8 ∷ 0 ∷ [])
unfolding types_of profile_of steps_of well_formed
sections = (refl, refl, refl)

-- no bytes at all; a byte too few; a byte too many
ends : (checked [] ≡ Err (fault 0)) × (checked (take 35 file) ≡ Err (fault 35)) × (checked (file ++ (0 ∷ [])) ≡ Err (fault 36))
unfolding checked
ends = (refl, refl, refl)

-- fourteen types; a count of 12; short address 64; flag 5; seven channels; a coolest above the warmest, against the warmest; minimum 0;
-- 4,097 steps
ranges :
    (checked (set file 0 14) ≡ Err (fault 0)) ×
    (checked (set file 2 12) ≡ Err (fault 2)) ×
    (checked (set file 3 64) ≡ Err (fault 3)) ×
    (checked (set file 7 32) ≡ Err (fault 7)) ×
    (checked (set file 8 7) ≡ Err (fault 8)) ×
    (checked (set file 9 2) ≡ Err (fault 11)) ×
    (checked (set file 13 0) ≡ Err (fault 13)) ×
    (checked (set (set file 14 16) 15 1) ≡ Err (fault 14))
unfolding checked
ranges = (refl, refl, refl, refl, refl, refl, refl, refl)

-- two faults at once: the lower one. A warmest that is cut off is not judged
two : (checked (set (set file 8 7) 3 64) ≡ Err (fault 3)) × (checked (take 12 (set file 9 2)) ≡ Err (fault 12))
unfolding checked
two = (refl, refl)
