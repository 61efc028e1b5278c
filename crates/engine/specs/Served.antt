-- What a call on a lent slot answers, and the bytes that it leaves: those of the plain engine on the record of the image. 7 for a slot of
-- another length, then 2 for bytes that are no image of a fit record; a refused call writes nothing.
use Rattle.std.specs.Prelude.{ℕ, ◌≡◌, List, eqb, length, Err}
use Rattle.gear.specs.declared.answer.Outcome.{Outcome}
use Rattle.gear.specs.declared.answer.Refusal.TheVariants.{Length, Unfit}
use Rattle.gear.specs.declared.record.Gear.{Gear}
use Rattle.gear.specs.Answer.{Answer}
use Rattle.numbers.specs.Numbers.{pick}
use Rattle.slot.specs.Held.{heldb}
use Rattle.slot.specs.Image.{image_of}
use Rattle.slot.specs.Record.{gear_of}

-- the answer of a call that a rule of the plain engine answers
unfoldable pub told : (Gear → Answer) → List ℕ → Answer
told rule b = pick (eqb (length b) 512) (pick (heldb b) (rule (gear_of b)) (Err Unfit)) (Err Length)

-- the bytes after a call that leaves the record of a rule
unfoldable pub left : (Gear → Gear) → List ℕ → List ℕ
left rule b = pick (eqb (length b) 512) (pick (heldb b) (image_of (rule (gear_of b))) b) b

pub record Served (rule : Gear → Outcome) (b b' : List ℕ) (r : Answer) : Type 0 where
  pub answer : r ≡ told (λ g. (rule g).answer) b
  pub bytes : b' ≡ left (λ g. (rule g).gear) b
