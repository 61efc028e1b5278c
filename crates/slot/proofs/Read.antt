-- What is read in the bytes that hold a record is that record's.
use Prim.Native.Nat.{ℕ}
use mathlib.Core.Path.{◌≡◌, ap, ◌∙◌}
use mathlib.Core.List.{List}
use Rattle.gear.specs.declared.record.Gear.{Gear}
use Rattle.slot.proofs.Back.{gear_back, image_length}
use Rattle.slot.specs.Held.{Holds}
use Rattle.slot.specs.Record.{gear_of, listed}
use lib.ListN.{length}

pub held_back : (b : List ℕ) (g : Gear) → Holds b g → gear_of b ≡ listed g
held_back b g h = ap gear_of h.0 ∙ gear_back g h.1

pub held_length : (b : List ℕ) (g : Gear) → Holds b g → length b ≡ 512
held_length b g h = ap length h.0 ∙ image_length g

-- a part of the record, whatever else the bytes hold: `part b h (λ x. x.levels)`
pub part : {A : Type 0} (b : List ℕ) (g : Gear) → Holds b g → (f : Gear → A) → f (gear_of b) ≡ f (listed g)
part b g h f = ap f (held_back b g h)
