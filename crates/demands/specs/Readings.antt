-- How a reading of document 01 is written down, and when it holds of calls that behave in some way.
use Rattle.std.specs.Prelude.{ℕ, ◌≡◌, Bool, List, [], ◌∷◌}
use Rattle.demands.specs.Calls.{Behaviour, Call}
use Rattle.colour.specs.Activation.{automatic}
use Rattle.colour.specs.declared.tint.ColorMode.TheVariants.{Cct}
use Rattle.gear.specs.declared.profile.Profile.{Profile}
use Rattle.gear.specs.declared.record.Gear.{Gear}
use Rattle.gear.specs.Answer.{Answer}
use Rattle.gear.specs.Record.{new_gear}
use Rattle.gear.specs.Write.{scene}

-- ## What is seen of a record

pub data Sight : Type 0 where
  Level : ℕ → Sight
  LimitError : Bool → Sight
  Min : ℕ → Sight
  Max : ℕ → Sight
  PhysicalMin : ℕ → Sight
  ActiveTc : ℕ → Sight
  StagedTc : ℕ → Sight
  SceneTc : (scene tc : ℕ) → Sight
  Limits : (coolest warmest : ℕ) → Sight
  PhysicalLimits : (coolest warmest : ℕ) → Sight
  Activation : Bool → Sight

abbrev pub Seen : Sight → Gear → Type 0
Seen (Level n) g = g.levels.level ≡ n
Seen (LimitError b) g = g.levels.error ≡ b
Seen (Min n) g = g.levels.min ≡ n
Seen (Max n) g = g.levels.max ≡ n
Seen (PhysicalMin n) g = g.unit.minimum ≡ n
Seen (ActiveTc n) g = (g.colour.active.mode ≡ Cct) × (g.colour.active.tc ≡ n)
Seen (StagedTc n) g = (g.colour.pending.mode ≡ Cct) × (g.colour.pending.tc ≡ n)
Seen (SceneTc s n) g = ((scene g s).colour.kind ≡ 0x20) × ((scene g s).colour.tc ≡ n)
Seen (Limits c w) g = (g.colour.limits.stored.coolest ≡ c) × (g.colour.limits.stored.warmest ≡ w)
Seen (PhysicalLimits c w) g = (g.colour.limits.physical.coolest ≡ c) × (g.colour.limits.physical.warmest ≡ w)
Seen (Activation b) g = automatic g.colour ≡ b

abbrev pub AllSeen : List Sight → Gear → Type 0
AllSeen [] g = Unit {0}
AllSeen (sight ∷ sights) g = Seen sight g × AllSeen sights g

-- ## A reading

-- the record that calls leave
abbrev pub after : Behaviour → List Call → Gear → Gear
after f [] g = g
after f (call ∷ calls) g = after f calls (f call g).gear

-- calls, each with the answer that it gets; and what is seen of the record that they leave
abbrev pub Answered : Behaviour → List (Call × Answer) → List Sight → Gear → Type 0
Answered f [] sights g = AllSeen sights g
Answered f (asked ∷ more) sights g = ((f asked.0 g).answer ≡ asked.1) × Answered f more sights (f asked.0 g).gear

-- P number: a profile; the calls from its fresh gear to the start, and what is seen there; then
pub data Reading : Type 0 where
  -- the calls of the reading, each with its answer, and what is seen after them
  Shows : (number : ℕ) (profile : Profile) (start : List Call) (there : List Sight) (calls : List (Call × Answer)) (seen : List Sight) → Reading
  -- two calls, after which the records differ by their order
  OrdersDiffer : (number : ℕ) (profile : Profile) (start : List Call) (there : List Sight) (one other : Call) → Reading

abbrev pub number : Reading → ℕ
number (Shows n profile start there calls seen) = n
number (OrdersDiffer n profile start there one other) = n

abbrev pub start_of : Behaviour → Profile → List Call → Gear
start_of f profile start = after f start (new_gear profile).gear

abbrev pub Holds : Behaviour → Reading → Type 0
Holds f (Shows n profile start there calls seen) = AllSeen there (start_of f profile start) × Answered f calls seen (start_of f profile start)
Holds f (OrdersDiffer n profile start there one other) =
    AllSeen there (start_of f profile start) ×
    (after f (one ∷ other ∷ []) (start_of f profile start) ≡ after f (other ∷ one ∷ []) (start_of f profile start) → ⊥)

abbrev pub AllHold : Behaviour → List Reading → Type 0
AllHold f [] = Unit {0}
AllHold f (reading ∷ readings) = Holds f reading × AllHold f readings
