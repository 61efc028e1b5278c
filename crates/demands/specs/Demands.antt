-- The statements on one screen. That every public function has one outcome is said function by function: proofs/Outcomes*.antt.
use Rattle.std.specs.Prelude.{ℕ, ◌<◌, ◌≡◌, true, ◌↔◌}
use Rattle.std.proofs.Math.Option.{none}
use Rattle.demands.specs.Absent.{Absent, HostAbsent}
use Rattle.demands.specs.Blind.{KeepsBlind}
use Rattle.demands.specs.Calls.{Behaviour, Call, perform}
use Rattle.demands.specs.Fit.{Accepted, Fit}
use Rattle.demands.specs.Given.{Refusals}
use Rattle.demands.specs.Host.{Host}
use Rattle.demands.specs.Impostors.{Caught}
use Rattle.demands.specs.Kept.{KeepsFit, KeepsBounds, PowerCycleBreaks}
use Rattle.demands.specs.LastOffset.{BankReads, LastOffset}
use Rattle.demands.specs.Promises.{Promised, PromisedNew, PromisedStep}
use Rattle.demands.specs.Refusals.{Judged, RefusesExactly}
use Rattle.demands.specs.Runs.{Runs}
use Rattle.demands.specs.Scenes.{FreshArrays, Paired, TwoArrays}
use Rattle.demands.specs.Sessions.{Sessions}
use Rattle.demands.specs.Steps.{entry, kinds, Stepped, step_refusal}
use Rattle.demands.specs.Table.{Readings}
use Rattle.gear.specs.declared.answer.Outcome.{Outcome}
use Rattle.gear.specs.declared.profile.Profile.{Profile}
use Rattle.gear.specs.declared.record.Gear.{Gear}
use Rattle.gear.specs.Profile.{accepted}
use Rattle.gear.specs.Record.{fitb, new_gear}
use Rattle.step.specs.Step.{step}

-- Demands 1 and 2 of calls that behave in some way. The rules meet them, and an impostor does not (specs/Impostors.antt).
pub record Demanded (f : Behaviour) : Type 0 where
  -- every call gives the refusal that document 01's table names, with the record as it was; where it names none, no refusal
  pub exactly : RefusesExactly f
  -- each number of the table, exactly when
  pub refusals : Refusals f
  -- what every call keeps, and the one exception
  pub keeps_fit : KeepsFit f
  pub keeps_bounds : KeepsBounds f
  pub power_cycle : PowerCycleBreaks f
  -- no answer or field outside the banks depends on a bank byte
  pub keeps_blind : KeepsBlind f
  -- P1 to P13
  pub readings : Readings f

-- The tests and the steps of the rules
pub record ByTheRules : Type 0 where
  pub demanded : Demanded perform
  -- the test of a profile and that of a record are what document 01 says
  pub accepted_exactly : (p : Profile) → Accepted p ↔ (accepted p ≡ true)
  pub fit_exactly : (g : Gear) → Fit g ↔ (fitb g ≡ true)
  -- every step of a session is one of the calls, but for kinds above 12; and it is refused as the table says
  pub steps : (g : Gear) (kind a b c : ℕ) → Stepped (entry (kinds a b c) kind) g (step g kind a b c)
  pub step_kinds : (kind a b c : ℕ) → (entry (kinds a b c) kind ≡ none → 12 < kind) × (12 < kind → entry (kinds a b c) kind ≡ none)
  pub step_exactly : (g : Gear) (kind a b c : ℕ) → Judged (step_refusal (entry (kinds a b c) kind) g) g (step g kind a b c)
  -- a session's lines are those of the rules applied step by step
  pub sessions : Sessions
  -- the impostors of document 01 that take a record; the fifth is a runner, among the sessions
  pub impostors : Caught
  -- requests 6, 2 and 14 of document 02
  pub last_offset : LastOffset perform
  pub absent : Absent perform
  pub two_arrays : TwoArrays perform
  pub fresh_arrays : FreshArrays
  pub paired : Paired

-- The Rattle functions, by their own promises alone
pub record ByThePromises : Type 1 where
  -- whatever the functions give, as long as each meets its promise: the demands are met
  pub demanded : (f : Behaviour) → ((c : Call) (g : Gear) → Promised c g (f c g)) → Demanded f
  -- and the promises can be met: the rules do
  pub rule : (c : Call) (g : Gear) → Promised c g (perform c g)
  pub new : (p : Profile) (o : Outcome) → PromisedNew p o → o ≡ new_gear p
  pub step_exactly : (g : Gear) (kind a b c : ℕ) (o : Outcome) → PromisedStep g kind a b c o → Judged (step_refusal (entry (kinds a b c) kind) g) g o
  -- every function that takes a session file, and what a host is told by its library
  pub runs : Runs
  pub host : Host
  -- request 6 of document 02; and of the read of the bank library
  pub last_offset : (f : Behaviour) → ((c : Call) (g : Gear) → Promised c g (f c g)) → LastOffset f
  pub bank_reads : BankReads
  -- request 2; and of what a host is told by its library
  pub absent : (f : Behaviour) → ((c : Call) (g : Gear) → Promised c g (f c g)) → Absent f
  pub host_absent : HostAbsent
  -- request 14
  pub two_arrays : (f : Behaviour) → ((c : Call) (g : Gear) → Promised c g (f c g)) → TwoArrays f

pub record Demands : Type 1 where
  pub by_the_rules : ByTheRules
  pub by_the_promises : ByThePromises
