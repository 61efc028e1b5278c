-- The room of the program's buffer serves every file: what it prints stands at the buffer's front, and no other answer comes.
use Rattle.std.proofs.Common.{◌≡◌, ℕ, ◌+◌, ◌≤◌, List, length, take, drop, true, refl, sym, ap, ◌∙◌, arith}
use Rattle.std.specs.Prelude.{Result, Ok, is_ok}
use Rattle.runner.specs.declared.run.RunError.{RunError}
use Rattle.runner.specs.Line.{written}
use Rattle.runner.specs.Run.{bytes_of, printed, reported, reported_into, room}
use Rattle.runner.proofs.Whole.{count_most, room_is}
use Rattle.std.proofs.Math.Seq.{take-append_seam}
use borrow.Author.Tests.{le-leb}

module _ (s old : List ℕ) (wide : 45072 ≤ length old) where
  enough : room s ≤ length old
  enough = omega (arith, wide, room_is s, count_most s)

  told : reported s (length old) ≡ Ok (length (printed s))
  unfolding reported
  told = rw (le-leb (room s) (length old) enough) refl

  pub front : {r : Result ℕ RunError} {new : List ℕ} {count : ℕ} → r ≡ reported s (length old) → new ≡ reported_into s old → r ≡ Ok count → take count new ≡ printed s
  unfolding reported_into written
  front {r} {new} {count} answer buffer is =
      let count_is : count ≡ length (printed s) = ap bytes_of (sym is ∙ answer ∙ told) in
      rw (count_is, buffer, le-leb (room s) (length old) enough) (take-append_seam (printed s) (drop (0 + length (printed s)) old))

  pub lines_only : {r other : Result ℕ RunError} → r ≡ reported s (length old) → r ≡ other → is_ok other ≡ true
  lines_only answer is = ap is_ok (sym is ∙ answer ∙ told)
