-- The last offset of bank 1 reads, and writes are as they were (request 6 of document 02).
use Prim.Native.Nat.{ℕ, ◌<◌}
use mathlib.Core.Path.{◌≡◌, refl}
use mathlib.Core.List.{List, [], ◌∷◌, Memᴰ as Among}
use lib.ListN.{get_or, length}
use lib.Seq.{get_or-set_same}
use Rattle.std.specs.declared.result.Result.TheVariants.{Ok}
use Rattle.demands.specs.Calls.{Call, perform, told}
use Rattle.demands.specs.Calls.Call.{ReadMemory, SetLocation, WriteMemory}
use Rattle.demands.specs.Fit.{Fit}
use Rattle.demands.specs.Kept.{Sized}
use Rattle.demands.specs.LastOffset.{BankReads, LastOffset, told_or, written_up_to}
use Rattle.demands.specs.Readings.{after}
use Rattle.demands.proofs.Fit.{fit_exactly}
use Rattle.demands.proofs.Kept.{keeps_fit}
use Rattle.bank.proofs.Left.{profile_last_lem}
use Rattle.bank.specs.Memory.{profile_writable, store_profile, writable, write_memory_location}
use Rattle.bank.specs.Setters.{set_bank1_location}
use Rattle.calls.specs.Memory.{memory_location_call, rebanked, set_location_call, write_memory_call}
use Rattle.gear.specs.Answer.{location_answer}
use Rattle.gear.specs.declared.answer.Reply.TheVariants.{Nothing, Value}
use Rattle.gear.specs.declared.record.Gear.{Gear}
use Rattle.gear.specs.Record.{fitb}
use Rattle.gear.specs.Serve.{serve, tell}
use Rattle.numbers.proofs.Logic.{by_cases}

reads : (g : Gear) → (perform (ReadMemory 1 0) g).answer ≡ tell g (Ok (Value 16))
unfolding perform memory_location_call location_answer
reads g = rw (profile_last_lem g.banks g.unit.bare)

reads_fit : (g : Gear) → Fit g → (perform (ReadMemory 1 0) g).answer ≡ Ok (Value 16)
unfolding tell
reads_fit g fit = rw (reads g, (fit_exactly g).0 fit)

fit_after : (calls : List Call) (g : Gear) → Fit g → ((c : Call) → Among c calls → Sized c) → Fit (after perform calls g)
fit_after [] g fit sized = fit
fit_after (c ∷ calls) g fit sized =
    fit_after calls (perform c g).gear (keeps_fit c g (sized c (Among.head refl)) fit) (λ d among. sized d (Among.tail among))

set_there :
    (g : Gear) (value : ℕ) → Fit g → 0 < length g.banks.profile →
    get_or (perform (SetLocation 0 value) g).gear.banks.profile 0 0 ≡ value
unfolding perform set_location_call rebanked serve set_bank1_location store_profile
set_there g value fit long = rw ((fit_exactly g).0 fit) (get_or-set_same g.banks.profile 0 value 0 long)

not_written : (g : Gear) (value : ℕ) → perform (WriteMemory 1 0 value) g ≡ serve g (told g (Ok Nothing))
unfolding perform write_memory_call rebanked write_memory_location writable profile_writable location_answer
not_written g value = refl

-- with 16 for the last offset, by the rule as it stands
up_to_16 :
    (g : Gear) (bank offset value : ℕ) → perform (WriteMemory bank offset value) g ≡ serve g (written_up_to 16 g bank offset value)
unfolding perform write_memory_call rebanked write_memory_location writable profile_writable location_answer
up_to_16 g bank offset value = by_cases (writable g.banks bank offset) (λ e. rw e) (λ e. rw e)

as_before :
    (instead : ℕ) (g : Gear) (bank offset value : ℕ) →
    perform (WriteMemory bank offset value) g ≡
    serve g (written_up_to (told_or instead (perform (ReadMemory 1 0) g).answer) g bank offset value)
unfolding serve tell
as_before instead g bank offset value =
    by_cases (fitb g) (λ fit. rw (up_to_16 g bank offset value, reads g, fit)) (λ unfit. rw (up_to_16 g bank offset value, unfit))

pub last_offset : LastOffset perform
last_offset =
    record {
      reads = reads;
      reads_on = λ g calls fit sized. reads_fit (after perform calls g) (fit_after calls g fit sized);
      set_there = set_there;
      not_written = not_written;
      as_before = as_before;
    }

pub bank_reads : BankReads
bank_reads κs args r e promise bank offset = rw (promise, bank, offset) (profile_last_lem args.0 args.1.0)
