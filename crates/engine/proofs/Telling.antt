-- A call that only answers reads the bytes: of the image of a fit record it reads that record.
use Prim.Native.Nat.{ℕ}
use mathlib.Core.Path.{◌≡◌}
use mathlib.Core.List.{List}
use Rattle.engine.specs.Served.{told}
use Rattle.gear.specs.declared.record.Gear.{Gear}
use Rattle.gear.specs.Answer.{Answer}
use Rattle.gear.specs.Serve.{tell}
use Rattle.numbers.proofs.Logic.{by_cases}
use Rattle.slot.proofs.Forth.{is_fit}
use Rattle.slot.specs.Held.{heldb}
use Rattle.slot.specs.Record.{gear_of}

pub told_read : (rule : Gear → Answer) (b : List ℕ) (a : Answer) → a ≡ rule (gear_of b) → told (λ g. a) b ≡ told (λ g. tell g (rule g)) b
unfolding told tell
told_read rule b a e = by_cases (heldb b) (λ held. rw (held, is_fit b held, e)) (λ held. rw held)
