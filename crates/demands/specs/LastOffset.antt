-- Request 6 of document 02: offset 0 of bank 1, which tells the bank's last offset, reads whatever was set there; so nothing has to stand
-- in for it where a write is judged. Nothing is asked of the banks: a record's may hold what no call puts there.
use Rattle.std.specs.Prelude.{ℕ, ◌<◌, ◌≡◌, Bool, true, Some, eqb, leb, get_or, length, Ok, Err}
use mathlib.Core.List.{List, Memᴰ as Among}
use Rattle.demands.specs.Calls.{Behaviour, Call, told}
use Rattle.demands.specs.Calls.Call.{ReadMemory, SetLocation, WriteMemory}
use Rattle.demands.specs.Fit.{Fit}
use Rattle.demands.specs.Kept.{Sized}
use Rattle.demands.specs.Readings.{after}
use Rattle.demands.specs.Runs.{Always}
use Rattle.bank.proofs.memory
use Rattle.bank.specs.Build.{with_profile}
use Rattle.bank.specs.Memory.{stored}
use Rattle.gear.specs.declared.answer.Reply.TheVariants.{Done, Value, Nothing, Incapable}
use Rattle.gear.specs.declared.answer.Outcome.{Outcome}
use Rattle.gear.specs.declared.record.Gear.{Gear}
use Rattle.gear.specs.Answer.{Answer}
use Rattle.gear.specs.Parts.{with_banks}
use Rattle.gear.specs.Serve.{serve, tell}
use Rattle.numbers.specs.Numbers.{both, pick}

-- ## A write as it was judged before

-- the last offset that a read tells; where it tells none, `instead`
abbrev pub told_or : ℕ → Answer → ℕ
told_or instead (Ok (Value last)) = last
told_or instead (Ok Nothing) = instead
told_or instead (Ok (Incapable need)) = instead
told_or instead (Ok Done) = instead
told_or instead (Err why) = instead

-- from the lock byte of bank 1, at offset 2, to the last offset; beyond the lock byte only where it holds 0x55
abbrev pub may_be_written : ℕ → Gear → ℕ → ℕ → Bool
may_be_written last g bank offset =
    both (eqb bank 1)
    (both (both (leb 2 offset) (leb offset last)) (pick (eqb offset 2) true (eqb (get_or g.banks.profile 2 0) 0x55)))

abbrev pub written_up_to : ℕ → Gear → ℕ → ℕ → ℕ → Outcome
written_up_to last g bank offset value =
    pick (may_be_written last g bank offset)
    (record {
      answer = Ok (Value value);
      gear = with_banks g (with_profile g.banks (stored g.banks.profile g.condition.faults.unstored offset value));
    })
    (told g (Ok Nothing))

-- ## Of calls that behave in some way

pub record LastOffset (f : Behaviour) : Type 0 where
  -- every record tells 16, but one that is not fit, which is refused
  pub reads : (g : Gear) → (f (ReadMemory 1 0) g).answer ≡ tell g (Ok (Value 16))
  -- so it does after any calls: writes, setters, a reset
  pub reads_on :
      (g : Gear) (calls : List Call) → Fit g → ((c : Call) → Among c calls → Sized c) →
      (f (ReadMemory 1 0) (after f calls g)).answer ≡ Ok (Value 16)
  -- a byte can be set there, and is in the record; no read shows it. A write there stores nothing
  pub set_there : (g : Gear) (value : ℕ) → Fit g → 0 < length g.banks.profile → get_or (f (SetLocation 0 value) g).gear.banks.profile 0 0 ≡ value
  pub not_written : (g : Gear) (value : ℕ) → f (WriteMemory 1 0 value) g ≡ serve g (told g (Ok Nothing))
  -- a write is what it was when 0 stood in for a last offset that does not read; and so it would be with any other number
  pub as_before :
      (instead : ℕ) (g : Gear) (bank offset value : ℕ) →
      f (WriteMemory bank offset value) g ≡ serve g (written_up_to (told_or instead (f (ReadMemory 1 0) g).answer) g bank offset value)

-- ## Of the read of crates/bank, by its own promise: any banks, with and without an indicator byte

abbrev pub BankReads : Type 0
BankReads = Always memory.memory_location.Reads.Post (λ κs args r e. args.1.1.0 ≡ 1 → args.1.1.1.0 ≡ 0 → r ≡ Some 16)
