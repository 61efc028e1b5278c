-- The lines of a run: how long they are at most, and how one more is added.
use Prim.Native.Nat.{ℕ, zero, suc, ◌+◌, ◌*◌, ◌/◌, ◌≤◌, ◌<◌}
use mathlib.Core.Path.{◌≡◌, ap, ◌∙◌}
use mathlib.Core.Bool.{true}
use mathlib.Core.List.{List, [], ◌∷◌, ◌++◌}
use lib.ListN.{length, drop, get_or, length-append}
use native.Mathlib.Nat.{add-zero}
use Rattle.std.proofs.lemmas.List.{get_or-take, get_or-drop}
use Rattle.std.specs.Simd.{first_chunks}
use Rattle.gear.specs.Record.{fitb}
use Rattle.std.specs.Prelude.{Option}
use Rattle.step.specs.declared.kind.Step.{Step}
use Rattle.step.specs.Kinds.{step_of, taken}
use Rattle.step.proofs.Decoded.{step_taken}
use Rattle.step.proofs.OnFit.{step_kept}
use native.Mathlib.Numerals.{add-one}
use native.Mathlib.Omega.{arith}
use Rattle.gear.specs.declared.answer.Outcome.{Outcome}
use Rattle.gear.specs.declared.record.Gear.{Gear}
use Rattle.gear.specs.Answer.{Answer}
use Rattle.runner.specs.declared.line.Lines.{Lines}
use Rattle.runner.specs.Line.{answer_text, line_text, number_text}
use Rattle.runner.specs.Lines.{HasRoom, Put}
use Rattle.runner.specs.Run.{answer_after, performed, state_after, text_after}
use Rattle.runner.proofs.Lines.{line_length}
use Rattle.runner.proofs.Put.{put_none, put_then}

module _ (steps : List ℕ) (g : Gear) where
  -- what step k, counted from 0, answers
  abbrev pub told : ℕ → Answer
  told k = (performed steps (state_after steps g k) k).answer

  pub text_length : (k : ℕ) → k ≤ 4096 → length (text_after steps g k) ≤ k * 11
  unfolding text_after
  text_length zero h = omega arith
  text_length (suc k) h =
      let before = text_length k (omega arith) in
      let line = line_length (k + 1) (told k) (omega arith) in
      rw length-append (omega arith)

  -- the line of step k, in its two parts
  abbrev number : ℕ → List ℕ
  number k = number_text (k + 1) 32

  abbrev answer : ℕ → List ℕ
  answer k = answer_text (told k) ++ (10 ∷ [])

  both_length : (k : ℕ) → k < 4096 → length (text_after steps g k) + (length (number k) + length (answer k)) ≤ (k + 1) * 11
  unfolding line_text
  both_length k h =
      let before = text_length k (omega arith) in
      omega (arith, line_length (k + 1) (told k) (omega arith), length-append (number k) (answer k))

  -- where n steps have room, each has it behind the lines of those before it
  pub number_room :
      {old mid : Lines} {n : ℕ} (k : ℕ) → k < n → n ≤ 4096 → old.at + n * 11 ≤ length old.out.now → Put old (text_after steps g k) mid →
      HasRoom mid (number_text (k + 1) 32)
  number_room k h few room before = omega (arith, both_length k (omega arith), before.size, before.wrote.next_is)

  pub answer_room :
      {old mid next : Lines} {n : ℕ} (k : ℕ) → k < n → n ≤ 4096 → old.at + n * 11 ≤ length old.out.now →
      Put old (text_after steps g k) mid → Put mid (number_text (k + 1) 32) next → HasRoom next (answer_text (told k) ++ (10 ∷ []))
  answer_room k h few room before put =
      omega (arith, both_length k (omega arith), before.size, before.wrote.next_is, put.size, put.wrote.next_is)

  pub line_more :
      {old mid next new : Lines} (k : ℕ) → Put old (text_after steps g k) mid → Put mid (number_text (k + 1) 32) next →
      Put next (answer_text (told k) ++ (10 ∷ [])) new → Put old (text_after steps g (k + 1)) new
  unfolding text_after line_text
  line_more k before first second = rw add-one (put_then before (put_then first second))

  pub line_none : {l : Lines} → l.at ≤ length l.out.now → Put l (text_after steps g 0) l
  unfolding text_after
  line_none within = put_none within

  pub state_more : (k : ℕ) → state_after steps g (k + 1) ≡ (performed steps (state_after steps g k) k).gear
  unfolding state_after
  state_more k = rw add-one

  pub answer_more : (k : ℕ) → answer_after steps g (k + 1) ≡ told k
  unfolding answer_after
  answer_more k = rw add-one

-- ## The steps as chunks of four bytes

chunk : (xs : List ℕ) (n k j : ℕ) → k < n → j < 4 → get_or (get_or (first_chunks 4 n xs) k []) j 0 ≡ get_or xs (k * 4 + j) 0
chunk xs zero k j h low = absurd (omega arith)
chunk xs (suc n) zero j h low = get_or-take 4 xs j 0 low ∙ ap (λ i. get_or xs i 0) (omega arith)
chunk xs (suc n) (suc k) j h low =
    chunk (drop 4 xs) n k j (omega arith) low ∙ get_or-drop 4 xs (k * 4 + j) 0 ∙ ap (λ i. get_or xs i 0) (omega arith)

-- a turn: what chunk k says is done to the record that k steps leave
pub turn :
    (steps : List ℕ) (g : Gear) (k : ℕ) {chunks : List (List ℕ)} {s : Gear} {t : Option Step} {o : Outcome} → chunks ≡ first_chunks 4 (length steps / 4) steps →
    k < length steps / 4 → s ≡ state_after steps g k → o ≡ taken s t →
    t ≡ step_of (get_or (get_or chunks k []) 0 0) (get_or (get_or chunks k []) 1 0) (get_or (get_or chunks k []) 2 0) (get_or (get_or chunks k []) 3 0) →
    o ≡ performed steps (state_after steps g k) k
unfolding performed
turn steps g k {s = s} whole below after done decoded =
    let n = length steps / 4 in
    done ∙ ap (taken s) decoded ∙ step_taken s _ _ _ _ ∙
    rw (whole, after, chunk steps n k 0 below (omega arith), chunk steps n k 1 below (omega arith), chunk steps n k 2 below (omega arith), chunk steps n k 3 below (omega arith), add-zero)

-- a step leaves a fit record fit
pub turn_fit :
    (steps : List ℕ) (g : Gear) (k : ℕ) {s : Gear} {o : Outcome} → ((i : ℕ) → get_or steps i 0 < 256) → fitb s ≡ true →
    s ≡ state_after steps g k → o ≡ performed steps (state_after steps g k) k → fitb o.gear ≡ true
unfolding performed
turn_fit steps g k byte fit after done =
    rw (done, ← after)
    (step_kept _ (get_or steps (k * 4 + 1) 0) _ _ (byte (k * 4 + 2)) (byte (k * 4 + 3)) fit (get_or steps (k * 4) 0))
