-- A text is put by its parts, one right behind the other.
use Prim.Native.Nat.{ℕ, ◌+◌, ◌/◌, ◌%◌, ◌≤◌, ◌<◌}
use native.Mathlib.Omega.{arith}
use mathlib.Core.Path.{◌≡◌, refl, ◌∙◌}
use mathlib.Core.List.{List, [], ◌∷◌, ◌++◌}
use lib.ListN.{length, length-append}
use Rattle.runner.specs.Line.{digit, digits}
use Rattle.runner.proofs.Digits.{front, front_last, front_more, front_none, front_same, front_within, unit, unit_before}
use Rattle.runner.specs.declared.line.Lines.{Lines}
use Rattle.runner.specs.Lines.{HasRoom, Put}
use Rattle.runner.proofs.Written as written

pub put_none : {l : Lines} → l.at ≤ length l.out.now → Put l [] l
put_none {l} within = record { same = refl; size = refl; fits = omega arith; wrote = written.wrote_none l.out.now l.at }

pub put_then : {old mid new : Lines} {a b : List ℕ} → Put old a mid → Put mid b new → Put old (a ++ b) new
put_then {a} {b} first second = record {
  same = second.same ∙ first.same;
  size = second.size ∙ first.size;
  fits = omega (arith, first.fits, first.size, first.wrote.next_is, second.fits, length-append a b);
  wrote = written.wrote_behind (omega (arith, first.fits)) first.wrote second.wrote;
}

-- the same, where the first text is written out
pub put_byte_then : {old mid new : Lines} {x : ℕ} {b : List ℕ} → Put old (x ∷ []) mid → Put mid b new → Put old (x ∷ b) new
put_byte_then first second = put_then first second

pub put_word_then :
    {old mid new : Lines} {w x y z : ℕ} {b : List ℕ} → Put old (w ∷ x ∷ y ∷ z ∷ []) mid → Put mid b new → Put old (w ∷ x ∷ y ∷ z ∷ b) new
put_word_then first second = put_then first second

pub ruleset puts = (put_then, put_byte_then, put_word_then, length-append)

-- ## A number, one digit after the other

pub front_put : {l : Lines} (n : ℕ) → l.at ≤ length l.out.now → Put l (front 0 n) l
front_put n within = rw (front_none n) (put_none within)

-- there is room for the digit behind the first i
pub digit_room : {old mid : Lines} (i n x : ℕ) → i ≤ 4 → HasRoom old (digits 5 n) → Put old (front i n) mid → HasRoom mid (x ∷ [])
digit_room i n x low room put = omega (arith, front_within i n low, put.size, put.wrote.next_is)

pub digit_more :
    {old mid new : Lines} {x rest : ℕ} (i n : ℕ) → i < 4 → unit i ≤ n → Put old (front i n) mid → rest ≡ n % unit_before i →
    x ≡ digit (rest / unit i) → Put mid (x ∷ []) new → Put old (front (i + 1) n) new
digit_more i n low some first left is second = rw (front_more i n low some, ← left, ← is) (put_then first second)

pub digit_none : {old mid : Lines} (i n : ℕ) → i < 4 → n < unit i → Put old (front i n) mid → Put old (front (i + 1) n) mid
digit_none i n low none put = rw (front_same i n low none) put

pub digit_last :
    {old mid new : Lines} {x rest : ℕ} (n : ℕ) → Put old (front 4 n) mid → rest ≡ n % 10 → x ≡ digit rest → Put mid (x ∷ []) new →
    Put old (digits 5 n) new
digit_last n first left is second = rw (front_last n, ← left, ← is) (put_then first second)
