-- The session file of document 01: its fields, when it is well formed, and the offset that refusal 5 names.
use Rattle.std.specs.Prelude.{ℕ, ◌+◌, ◌*◌, min, Bool, true, List, [], ◌∷◌, ◌++◌, leb, ltb, eqb, length, get_or, take, drop, Result, Ok, Err, ⊤}
use Rattle.file.specs.declared.Malformed.{Malformed}
use Rattle.numbers.specs.Numbers.{both, pick}

-- A byte of the file. Beyond its end it is 0, on which no judgement rests: a field is judged once it is there whole.
abbrev pub byte : List ℕ → ℕ → ℕ
byte s i = get_or s i 0

-- two bytes, high byte first
abbrev pub word : List ℕ → ℕ → ℕ
word s i = byte s i * 256 + byte s (i + 1)

-- ## The fields

-- a field's first byte, the byte past it, and whether it is in range
pub record Field : Type 0 where
  pub first : ℕ
  pub past : ℕ
  pub good : Bool

abbrev pub field : ℕ → ℕ → Bool → Field
field a e ok = record { first = a; past = e; good = ok }

-- how many types there are, and where section (b), the profile, has its count
abbrev pub type_count : List ℕ → ℕ
type_count s = byte s 0

abbrev pub profile_at : List ℕ → ℕ
profile_at s = type_count s + 1

-- how many steps there are, for a profile at b, and where the file is to end
abbrev pub step_count : List ℕ → ℕ → ℕ
step_count s b = word s (b + 12)

abbrev pub end_at : List ℕ → ℕ → ℕ
end_at s b = b + 14 + step_count s b * 4

abbrev pub end_of : List ℕ → ℕ
end_of s = end_at s (profile_at s)

-- a short address, or 255 for none
abbrev pub short_good : ℕ → Bool
short_good x = pick (leb x 63) true (eqb x 255)

-- coolest ≤ warmest < 65,535
abbrev pub warmest_good : ℕ → ℕ → Bool
warmest_good coolest warmest = both (leb coolest warmest) (leb warmest 65534)

abbrev pub minimum_good : ℕ → Bool
minimum_good x = both (leb 1 x) (leb x 254)

-- (a): a count of 0 to 13, and so many type codes, which are any bytes
abbrev pub type_fields : List ℕ → List Field
type_fields s = field 0 1 (leb (type_count s) 13) ∷ field 1 (profile_at s) true ∷ []

-- (b): a count of 11; short address, random address, flags of which only bits 0 to 4 are used
abbrev pub unit_fields : List ℕ → ℕ → List Field
unit_fields s b =
    field b (b + 1) (eqb (byte s b) 11) ∷
    field (b + 1) (b + 2) (short_good (byte s (b + 1))) ∷
    field (b + 2) (b + 5) true ∷
    field (b + 5) (b + 6) (leb (byte s (b + 5)) 31) ∷
    []

-- (b) goes on: channels, coolest, warmest, physical minimum. Coolest alone is never out of range, and a coolest above the warmest
-- counts against the warmest.
abbrev pub colour_fields : List ℕ → ℕ → List Field
colour_fields s b =
    field (b + 6) (b + 7) (leb (byte s (b + 6)) 6) ∷
    field (b + 7) (b + 9) true ∷
    field (b + 9) (b + 11) (warmest_good (word s (b + 7)) (word s (b + 9))) ∷
    field (b + 11) (b + 12) (minimum_good (byte s (b + 11))) ∷
    []

-- (c): a count of 0 to 4,096, and so many steps of 4 bytes, which are never malformed
abbrev pub step_fields : List ℕ → ℕ → List Field
step_fields s b = field (b + 12) (b + 14) (leb (step_count s b) 4096) ∷ field (b + 14) (end_at s b) true ∷ []

-- Every field, in the order of the file. Where a count is out of range, what follows it lies behind it, wherever that is.
abbrev pub layout : List ℕ → List Field
layout s = type_fields s ++ unit_fields s (profile_at s) ++ colour_fields s (profile_at s) ++ step_fields s (profile_at s)

-- ## Well formed

abbrev pub all_good : List Field → Bool
all_good [] = true
all_good (f ∷ fs) = both f.good (all_good fs)

-- the file ends where it is to end, and each field is in range
unfoldable pub well_formed : List ℕ → Bool
well_formed s = both (eqb (length s) (end_of s)) (all_good (layout s))

-- ## The offset

-- malformed at this offset
abbrev pub fault : ℕ → Malformed
fault x = record { offset = x }

-- the lower of two faults, of which either may be missing
abbrev pub lower : Result ⊤ Malformed → Result ⊤ Malformed → Result ⊤ Malformed
lower (Ok u) v = v
lower (Err m) (Ok u) = Err m
lower (Err m) (Err k) = Err (fault (min m.offset k.offset))

-- the first byte missing, in a file of n bytes that is to end at e
abbrev pub missing : ℕ → ℕ → Result ⊤ Malformed
missing e n = pick (ltb n e) (Err (fault n)) (Ok tt)

-- the first surplus byte
abbrev pub surplus : ℕ → ℕ → Result ⊤ Malformed
surplus e n = pick (ltb e n) (Err (fault e)) (Ok tt)

-- the first byte of a field that is there whole and out of range
abbrev pub judged : Field → ℕ → Result ⊤ Malformed
judged f n = pick (leb f.past n) (pick f.good (Ok tt) (Err (fault f.first))) (Ok tt)

-- the lowest of these
abbrev pub out_of_range : List Field → ℕ → Result ⊤ Malformed
out_of_range [] n = Ok tt
out_of_range (f ∷ fs) n = lower (judged f n) (out_of_range fs n)

-- Document 01's own words: the lowest of the first byte missing, the first surplus, the first byte of a field out of range. All three
-- are looked for, over every field; that the first fault met from the front is the lowest is a law (`lowest`), not the definition.
unfoldable pub checked : List ℕ → Result ⊤ Malformed
checked s = lower (missing (end_of s) (length s)) (lower (surplus (end_of s) (length s)) (out_of_range (layout s) (length s)))

-- ## The sections, as parts of the file; none of a malformed one

unfoldable pub types_of : List ℕ → List ℕ
types_of s = pick (well_formed s) (take (type_count s) (drop 1 s)) []

unfoldable pub profile_of : List ℕ → List ℕ
profile_of s = pick (well_formed s) (take 11 (drop (type_count s + 2) s)) []

unfoldable pub steps_of : List ℕ → List ℕ
steps_of s = pick (well_formed s) (take (step_count s (profile_at s) * 4) (drop (profile_at s + 14) s)) []
