-- A whole run: the room that its lines want, and the last line behind those of the steps.
use Prim.Native.Nat.{ℕ, ◌+◌, ◌*◌, ◌≤◌, ◌<◌}
use mathlib.Core.Path.{◌≡◌, refl}
use mathlib.Core.List.{List}
use lib.ListN.{length}
use native.Mathlib.Omega.{arith}
use borrow.Author.Tests.{lt-leb}
use Rattle.std.specs.Prelude.{Err}
use Rattle.file.specs.declared.Malformed.{Malformed}
use Rattle.runner.specs.declared.run.RunError.TheVariants.{Malformed as Unrun, Short}
use Rattle.file.specs.File.{well_formed, checked, steps_of}
use Rattle.runner.specs.Line.{Wrote, end_text}
use Rattle.runner.specs.Run.{text_after, count_of, first_of, last_of, lines_of, room, ran, ran_into, reported, reported_into}
use Rattle.runner.proofs.Running.{text_length}
use Rattle.file.proofs.Shape.{shape, steps_length}
use Rattle.runner.proofs.Written.{wrote_behind}
use Rattle.numbers.proofs.Logic.{by_cases}

-- a malformed file has no steps
pub steps_most : (s : List ℕ) → length (steps_of s) ≤ 16384
unfolding steps_of
steps_most s =
    by_cases (well_formed s)
    (λ good. let known = shape s good in omega (arith, steps_length s good))
    (λ bad. rw bad (omega arith))

module _ (s : List ℕ) where
  pub count_most : count_of s ≤ 4096
  count_most = let most = steps_most s in omega arith

  pub room_is : room s ≡ count_of s * 11 + 16
  unfolding room
  room_is = refl

  -- ## The last line

  pub end_room :
      {old out : List ℕ} {at : ℕ} → room s ≤ length old → length out ≡ length old →
      Wrote old 0 (text_after (steps_of s) (first_of s) (count_of s)) out at → at + 16 ≤ length out
  end_room wide same w =
      let before = text_length (steps_of s) (first_of s) (count_of s) count_most in
      omega (arith, w.next_is, room_is)

  pub end_more :
      {old out new : List ℕ} {at next : ℕ} →
      Wrote old 0 (text_after (steps_of s) (first_of s) (count_of s)) out at →
      Wrote out at (end_text (last_of s).levels.level (last_of s).levels.min (last_of s).levels.max) new next →
      Wrote old 0 (lines_of s) new next
  unfolding lines_of
  end_more w v = wrote_behind (omega arith) w v

  -- ## Into a lent buffer

  pub reported_none :
      {old : List ℕ} → length old < room s → (Err (Short (room s)) ≡ reported s (length old)) × (old ≡ reported_into s old)
  unfolding reported reported_into
  reported_none {old} short = (rw (lt-leb (room s) (length old) short), rw (lt-leb (room s) (length old) short))

  pub served_bad :
      (old : List ℕ) {m : Malformed} → checked s ≡ Err m → (Err (Unrun m) ≡ ran s (length old)) × (old ≡ ran_into s old)
  unfolding ran ran_into
  served_bad old bad = (rw bad, rw bad)
