-- What the table names for a call and why, and what a given refusal says of it.
use mathlib.Core.Path.{◌≡◌, sym, ◌∙◌, ap, subst}
use mathlib.Core.Bool.{true, false}
use mathlib.Core.Option.{Option, none, some}
use lib.Dec.{ltb}
use borrow.Author.Tests.{lt-ltb, ltb-true}
use Rattle.std.specs.declared.result.Result.TheVariants.{Err}
use Rattle.demands.specs.Calls.{Call, perform}
use Rattle.demands.specs.Calls.Call.{StandardWrite, ArcPower, Query, Matches, TcStep, XyStep, StoreTcLimit, Stage, Activate, CopyReport, SetFeatures, ColorValue, ColourStatus, Features, ControlByte, FeatureByte, Automatic, ReadMemory, WriteMemory, AdvancesDtr0, ImplementsBank, SetLockByte, SetLocation, SetGearUnit, SetLastOffset, ClearNumber, Hear, HoldsFrame, HearElsewhere, PowerCycle, StatusByte, LampOn, FailureBits, ThermalShutDown, LampFailure, ActualLevel, IsType, SetEnabled, SetLampFailure, SetLampStarting, SetFaults}
use Rattle.demands.specs.Given.{Unlisted, Above}
use Rattle.demands.specs.Given.Unlisted.{write, query}
use Rattle.demands.specs.Given.Above.{group}
use Rattle.demands.specs.Refusals.{listed, write_bytes, query_bytes, group_refusal, table_of, refusal_of, is_refusal, Judged}
use Rattle.demands.proofs.Exactly.{exactly}
use Rattle.calls.specs.declared.address.Address.{Address}
use Rattle.calls.specs.declared.address.Address.TheVariants.{Short, Group, Broadcast, Unaddressed}
use Rattle.gear.specs.Answer.{refused}
use Rattle.gear.specs.declared.answer.Outcome.{Outcome}
use Rattle.gear.specs.declared.answer.Refusal.{Refusal}
use Rattle.gear.specs.declared.answer.Refusal.TheVariants.{Profile as ProfileRefused, Unfit, Byte, Group as GroupAbove, File as FileRefused, Length}
use Rattle.gear.specs.declared.record.Gear.{Gear}
use Rattle.gear.specs.Record.{fitb}
use Rattle.numbers.proofs.Logic.{by_cases, no_false}

abbrev pub Named : Option Refusal → Call → Type 0
Named none c = Unit {0}
Named (some ProfileRefused) c = ⊥
Named (some Unfit) c = ⊥
Named (some Byte) c = Unlisted c
Named (some GroupAbove) c = Above c
Named (some FileRefused) c = ⊥
Named (some Length) c = ⊥

whom_named : (a : Address) → Named (group_refusal a) (Matches a)
whom_named (Short a) = tt
whom_named (Group n) = by_cases (ltb 15 n) (λ e. rw e (group (ltb-true 15 n e))) (λ e. rw e tt)
whom_named Broadcast = tt
whom_named Unaddressed = tt

named : (c : Call) → Named (table_of c) c
named (StandardWrite byte dtr0) = by_cases (listed write_bytes byte) (λ e. rw e tt) (λ e. rw e (write e))
named (ArcPower level) = tt
named (Query byte) = by_cases (listed query_bytes byte) (λ e. rw e tt) (λ e. rw e (query e))
named (Matches whom) = whom_named whom
named (TcStep warmer) = tt
named (XyStep y up) = tt
named (StoreTcLimit value selector) = tt
named (Stage setting) = tt
named Activate = tt
named CopyReport = tt
named (SetFeatures features) = tt
named (ColorValue id) = tt
named ColourStatus = tt
named Features = tt
named ControlByte = tt
named FeatureByte = tt
named Automatic = tt
named (ReadMemory bank offset) = tt
named (WriteMemory bank offset value) = tt
named (AdvancesDtr0 bank offset) = tt
named (ImplementsBank bank) = tt
named (SetLockByte value) = tt
named (SetLocation offset value) = tt
named (SetGearUnit units index) = tt
named (SetLastOffset last) = tt
named ClearNumber = tt
named (Hear frame repeats) = tt
named (HoldsFrame frame) = tt
named HearElsewhere = tt
named PowerCycle = tt
named StatusByte = tt
named LampOn = tt
named FailureBits = tt
named ThermalShutDown = tt
named LampFailure = tt
named ActualLevel = tt
named (IsType code) = tt
named (SetEnabled enabled) = tt
named (SetLampFailure failure) = tt
named (SetLampStarting starting) = tt
named (SetFaults faults) = tt

-- ## From the table to each number

-- a refusal that was given is the one that the table names
pub told_named : (t : Option Refusal) (g : Gear) (o : Outcome) (r : Refusal) → Judged t g o → o.answer ≡ Err r → t ≡ some r
told_named none g o r j e = no_false (sym j ∙ ap is_refusal e)
told_named (some q) g o r j e = ap some (let same : Err q ≡ Err r = sym (ap (λ (x : Outcome). x.answer) j) ∙ e in cc)

module _ (c : Call) (g : Gear) (r : Refusal) where
  refusal_named : (perform c g).answer ≡ Err r → refusal_of c g ≡ some r
  refusal_named e = told_named (refusal_of c g) g (perform c g) r (exactly c g) e

  -- to a fit record the table's own entry
  pub fit_named : fitb g ≡ true → (perform c g).answer ≡ Err r → Named (some r) c
  fit_named fit e =
      let at : table_of c ≡ some r = rw fit at (refusal_named e) in subst (λ (t : Option Refusal). Named t c) at (named c)

  pub table_given : fitb g ≡ true → table_of c ≡ some r → perform c g ≡ refused g r
  table_given fit at = rw (fit, at) at (exactly c g)

pub unfit_given : (c : Call) (g : Gear) → fitb g ≡ false → perform c g ≡ refused g Unfit
unfit_given c g e = rw e at (exactly c g)

-- a refusal of an unfit record is number 2
unfit_only : (c : Call) (g : Gear) (r : Refusal) → fitb g ≡ false → (perform c g).answer ≡ Err r → Unfit ≡ r
unfit_only c g r unfit e = let at : some Unfit ≡ some r = rw unfit at (refusal_named c g r e) in cc

-- any other number is the table's own
pub fit_only : (c : Call) (g : Gear) (r : Refusal) → (Unfit ≡ r → ⊥) → (perform c g).answer ≡ Err r → (fitb g ≡ true) × Named (some r) c
fit_only c g r other e =
    by_cases (fitb g) (λ fit. (fit, fit_named c g r fit e)) (λ unfit. absurd (other (unfit_only c g r unfit e)))

pub unlisted_table : {c : Call} → Unlisted c → table_of c ≡ some Byte
unlisted_table (write e) = rw e
unlisted_table (query e) = rw e

pub above_table : {c : Call} → Above c → table_of c ≡ some GroupAbove
above_table (group {n = n} h) = rw (lt-ltb 15 n h)
