-- What a call on a slot does of any record that its bytes hold, fit or not: the record that it leaves, and what it answers.
use Rattle.std.specs.Prelude.{ℕ, ◌≡◌, List, MatchResult, None, Result, Err, Ok}
use Rattle.bank.specs.Memory.{write_memory_location}
use Rattle.calls.specs.Pairing.{is_open}
use Rattle.engine.specs.Served.{Served, told}
use Rattle.gear.specs.Answer.{Answer, done, flag, location_answer}
use Rattle.gear.specs.declared.answer.Outcome.{Outcome}
use Rattle.gear.specs.declared.answer.Refusal.{Refusal}
use Rattle.gear.specs.declared.record.Gear.{Gear}
use Rattle.gear.specs.Marks.{with_pair, with_walk}
use Rattle.gear.specs.Parts.{with_banks, with_marks}
use Rattle.gear.specs.Serve.{serve, tell}
use Rattle.slot.specs.Calls.{tested}
use Rattle.slot.specs.Held.{Does, Holds, Tells}
use Rattle.slot.specs.Record.{gear_of}

pub record Works (rule : Gear → Outcome) (b b' : List ℕ) (r : Answer) : Type 0 where
  pub does : Does (λ g. (rule g).gear) b b'
  pub tells : Tells (λ g. (rule g).answer) b r

-- ## A call on a lent slot, by what it does on the bytes of a slot

-- it is made on the image of a fit record; where it is refused, it is not, and nothing is written
abbrev pub Ran : {A : Type 0} → (List ℕ → A → List ℕ → Type 0) → List ℕ → List ℕ → Result A Refusal → Type 0
Ran call b b' r = MatchResult r (λ a. (Ok b ≡ tested b) × call b a b') (λ refusal. (Err refusal ≡ tested b) × (b' ≡ b))

-- it is served by every rule whose work it does there
abbrev pub ServedBy : (List ℕ → Answer → List ℕ → Type 0) → List ℕ → List ℕ → Answer → Type 0
ServedBy call b b' r =
    (rule : Gear → Outcome) → ((a : Answer) (l : List ℕ) → call b a l → Works rule b l a) → Served (λ g. serve g (rule g)) b b' r

-- one that has nothing to say, by every rule that leaves what it leaves there
abbrev pub ChangedBy : (List ℕ → List ℕ → Type 0) → List ℕ → List ℕ → Answer → Type 0
ChangedBy call b b' r =
    (rule : Gear → Gear) → ((l : List ℕ) → call b l → Does rule b l) → Served (λ g. serve g (done (rule g))) b b' r

-- one that changes nothing is told by every rule that answers as it does
abbrev pub ToldBy : (List ℕ → Answer → Type 0) → List ℕ → Answer → Type 0
ToldBy call b r =
    (rule : Gear → Answer) → ((a : Answer) → call b a → Holds b (gear_of b) → a ≡ rule (gear_of b)) → r ≡ told (λ g. tell g (rule g)) b

-- ## Outcomes that the plain engine has only under its test of fit

unfoldable pub hear_elsewhere : Gear → Outcome
hear_elsewhere g = record { answer = flag (is_open g.marks.pair); gear = with_marks g (with_pair (with_walk g.marks None) None) }

unfoldable pub write_location : Gear → ℕ → ℕ → ℕ → Outcome
write_location g bank offset value =
    record {
      answer = location_answer (write_memory_location g.banks g.condition.faults.unstored bank offset value).answer;
      gear = with_banks g (write_memory_location g.banks g.condition.faults.unstored bank offset value).banks;
    }
