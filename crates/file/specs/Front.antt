-- The file read from the front, as the code reads it: the first fault ends the reading. The law `lowest` of proofs/Lowest.antt says
-- that this fault is the lowest.
use Rattle.std.specs.Prelude.{ℕ, List, [], ◌∷◌, ltb, length, Result, Err, ⊤}
use Rattle.file.specs.declared.Malformed.{Malformed}
use Rattle.file.specs.File.{Field, fault, type_fields, unit_fields, colour_fields, step_fields, profile_at, end_at, surplus}
use Rattle.numbers.specs.Numbers.{pick}

-- the fields in order, in a file of n bytes, and then the rest
abbrev pub read : List Field → ℕ → Result ⊤ Malformed → Result ⊤ Malformed
read [] n rest = rest
read (f ∷ fs) n rest = pick (ltb n f.past) (Err (fault n)) (pick f.good (read fs n rest) (Err (fault f.first)))

-- from the step count on, for a profile at b
unfoldable pub steps_front : List ℕ → ℕ → Result ⊤ Malformed
steps_front s b = read (step_fields s b) (length s) (surplus (end_at s b) (length s))

-- from the channels on
unfoldable pub colour_front : List ℕ → ℕ → Result ⊤ Malformed
colour_front s b = read (colour_fields s b) (length s) (steps_front s b)

-- from the profile on
unfoldable pub unit_front : List ℕ → ℕ → Result ⊤ Malformed
unit_front s b = read (unit_fields s b) (length s) (colour_front s b)

unfoldable pub file_front : List ℕ → Result ⊤ Malformed
file_front s = read (type_fields s) (length s) (unit_front s (profile_at s))
