-- The steps of a session (document 01, 'Session file and runner'): each is one of the calls.
use Rattle.std.specs.Prelude.{ℕ, zero, suc, ◌≡◌, not, List, [], ◌∷◌, eqb}
use Rattle.std.proofs.Math.Option.{Option, none, some}
use Rattle.demands.specs.Calls.{Call, perform}
use Rattle.demands.specs.Calls.Call.{ArcPower, StandardWrite, Query, ReadMemory, WriteMemory, ColorValue, StoreTcLimit, TcStep, Stage, Activate, PowerCycle, CopyReport, SetFeatures}
use Rattle.demands.specs.Refusals.{refusal_of}
use Rattle.gear.specs.Answer.{refused}
use Rattle.gear.specs.declared.answer.Outcome.{Outcome}
use Rattle.gear.specs.declared.answer.Refusal.{Refusal}
use Rattle.gear.specs.declared.answer.Refusal.TheVariants.{Unfit, Byte}
use Rattle.gear.specs.declared.record.Gear.{Gear}
use Rattle.gear.specs.Record.{fitb}
use Rattle.numbers.specs.Numbers.{pick}
use Rattle.step.specs.Step.{pair, temperature}

-- kinds 0 to 12, in order; bytes not named are ignored
abbrev pub kinds : ℕ → ℕ → ℕ → List Call
kinds a b c =
    ArcPower a ∷
    StandardWrite a b ∷
    Query a ∷
    ReadMemory a b ∷
    WriteMemory a b c ∷
    ColorValue a ∷
    StoreTcLimit (pair b c) a ∷
    TcStep (not (eqb a 0)) ∷
    Stage (temperature (pair b c)) ∷
    Activate ∷
    PowerCycle ∷
    CopyReport ∷
    SetFeatures a ∷
    []

abbrev pub entry : List Call → ℕ → Option Call
entry [] n = none
entry (call ∷ calls) zero = some call
entry (call ∷ calls) (suc n) = entry calls n

-- a step performs its kind's call; a kind above 12 is refused, with 3 or, to an unfit record, with 2
abbrev pub Stepped : Option Call → Gear → Outcome → Type 0
Stepped none g o = o ≡ pick (fitb g) (refused g Byte) (refused g Unfit)
Stepped (some call) g o = o ≡ perform call g

-- document 01's table for a step: its call's refusal, or 3 for a kind not listed, and 2 before that
abbrev pub step_refusal : Option Call → Gear → Option Refusal
step_refusal none g = pick (fitb g) (some Byte) (some Unfit)
step_refusal (some call) g = refusal_of call g
