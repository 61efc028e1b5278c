-- What is asked of a well-formed file is refused with 3 or not at all: its record is fit, and no step has a group address.
use Prim.Native.Nat.{ℕ, zero, suc, ◌+◌, ◌*◌, ◌<◌}
use mathlib.Core.Path.{◌≡◌, refl, subst}
use mathlib.Core.Bool.{Bool, true, false}
use mathlib.Core.List.{List, [], ◌∷◌}
use mathlib.Core.Option.{Option, none, some}
use lib.ListN.{get_or, take, drop}
use lib.Seq.{get_or-drop}
use native.Mathlib.Omega.{arith}
use Rattle.std.specs.declared.result.Result.TheVariants.{Err}
use Rattle.demands.specs.Calls.{Call}
use Rattle.demands.specs.Refusals.{listed, query_bytes, table_of, write_bytes}
use Rattle.demands.specs.Steps.{entry, kinds, step_refusal}
use Rattle.demands.proofs.Named.{told_named}
use Rattle.demands.proofs.Steps.{step_exactly}
use Rattle.std.specs.Prelude.{Ok}
use Rattle.file.specs.File.{byte, checked, profile_at, step_count, steps_of, well_formed}
use Rattle.gear.specs.declared.answer.Refusal.{Refusal}
use Rattle.gear.specs.declared.answer.Refusal.TheVariants.{Byte}
use Rattle.gear.specs.declared.record.Gear.{Gear}
use Rattle.gear.specs.Record.{fitb}
use Rattle.numbers.specs.Numbers.{pick}
use Rattle.numbers.proofs.Logic.{by_cases}
use Rattle.runner.specs.Run.{count_of, first_of, last_of, performed, state_after}
use Rattle.runner.proofs.First.{good_fit}
use Rattle.step.specs.Step.{step}
use Rattle.step.proofs.OnFit.{step_kept}

-- ## The record is fit

small_take : (n : ℕ) (l : List ℕ) (i : ℕ) → ((j : ℕ) → get_or l j 0 < 256) → get_or (take n l) i 0 < 256
small_take zero l i h = omega arith
small_take (suc n) [] i h = omega arith
small_take (suc n) (x ∷ xs) zero h = h 0
small_take (suc n) (x ∷ xs) (suc i) h = small_take n xs i (λ j. h (suc j))

module _ (s : List ℕ) (bytes : (i : ℕ) → byte s i < 256) where
  behind : (n i : ℕ) → get_or (drop n s) i 0 < 256
  behind n i = rw get_or-drop (bytes (n + i))

  step_bytes : (i : ℕ) → get_or (steps_of s) i 0 < 256
  unfolding steps_of
  step_bytes i =
      by_cases (well_formed s)
      (λ good. rw good (small_take (step_count s (profile_at s) * 4) (drop (profile_at s + 14) s) i (behind (profile_at s + 14))))
      (λ bad. rw bad (omega arith))

  state_fit : fitb (first_of s) ≡ true → (k : ℕ) → fitb (state_after (steps_of s) (first_of s) k) ≡ true
  unfolding state_after performed
  state_fit first zero = first
  state_fit first (suc k) =
      let before = state_after (steps_of s) (first_of s) k in
      step_kept before _ _ _ (step_bytes (k * 4 + 2)) (step_bytes (k * 4 + 3)) (state_fit first k) _

  last_fit : checked s ≡ Ok tt → fitb (last_of s) ≡ true
  last_fit good = state_fit (good_fit s bytes good) (count_of s)

-- ## The table has no other number for a step

abbrev OnlyByte : Option Refusal → Type 0
OnlyByte none = Unit {0}
OnlyByte (some r) = r ≡ Byte

abbrev tabled : Option Call → Option Refusal
tabled none = none
tabled (some call) = table_of call

abbrev Each : List Call → Type 0
Each [] = Unit {0}
Each (call ∷ calls) = OnlyByte (table_of call) × Each calls

each_at : (calls : List Call) (n : ℕ) → Each calls → OnlyByte (tabled (entry calls n))
each_at [] n h = tt
each_at (call ∷ calls) zero (h, hs) = h
each_at (call ∷ calls) (suc n) (h, hs) = each_at calls n hs

unlisted_byte : (found : Bool) → OnlyByte (pick found none (some Byte))
unlisted_byte true = tt
unlisted_byte false = refl

kinds_each : (a b c : ℕ) → Each (kinds a b c)
kinds_each a b c =
    let write = unlisted_byte (listed write_bytes a) in
    let query = unlisted_byte (listed query_bytes a) in
    (tt, (write, (query, (tt, (tt, (tt, (tt, (tt, (tt, (tt, (tt, (tt, (tt, tt)))))))))))))

to_fit : (t : Option Call) (g : Gear) → fitb g ≡ true → OnlyByte (tabled t) → OnlyByte (step_refusal t g)
to_fit none g fit h = rw fit refl
to_fit (some call) g fit h = rw fit h

-- ## So of a step

pub step_byte : (g : Gear) (kind a b c : ℕ) (r : Refusal) → fitb g ≡ true → (step g kind a b c).answer ≡ Err r → r ≡ Byte
step_byte g kind a b c r fit e =
    let t = entry (kinds a b c) kind in
    subst OnlyByte (told_named (step_refusal t g) g (step g kind a b c) r (step_exactly g kind a b c) e)
    (to_fit t g fit (each_at (kinds a b c) kind (kinds_each a b c)))

pub last_byte :
    (s : List ℕ) → ((i : ℕ) → byte s i < 256) → checked s ≡ Ok tt → (kind a b c : ℕ) (r : Refusal) →
    (step (last_of s) kind a b c).answer ≡ Err r → r ≡ Byte
last_byte s bytes good kind a b c r e = step_byte (last_of s) kind a b c r (last_fit s bytes good) e
