-- What every call keeps (document 01, 'Profile and fit record'), of calls that behave in some way.
use Rattle.std.specs.Prelude.{ℕ, ◌<◌, ◌≡◌}
use Rattle.demands.specs.Calls.{Behaviour, Call}
use Rattle.demands.specs.Calls.Call.{StoreTcLimit, PowerCycle}
use Rattle.demands.specs.Fit.{Fit}
use Rattle.gear.specs.declared.record.Gear.{Gear}
use Rattle.level.specs.Levels.{Bounded}

-- a limit has 16 bits, as in the call: a wider one could make the record unfit. Of no other number is anything asked
abbrev pub Sized : Call → Type 0
Sized c = (value selector : ℕ) → c ≡ StoreTcLimit value selector → value < 65536

-- a fit record stays fit
abbrev pub KeepsFit : Behaviour → Type 0
KeepsFit f = (c : Call) (g : Gear) → Sized c → Fit g → Fit (f c g).gear

-- 'level is 0 or within min..max' is kept by every call but the power cycle
abbrev pub KeepsBounds : Behaviour → Type 0
KeepsBounds f = (c : Call) (g : Gear) → (c ≡ PowerCycle → ⊥) → Bounded g.levels → Bounded (f c g).gear.levels

-- the power cycle does not: a fit record within bounds that it takes out of them
pub record PowerCycleBreaks (f : Behaviour) : Type 0 where
  pub gear : Gear
  pub fit : Fit gear
  pub bounded : Bounded gear.levels
  pub broken : Bounded (f PowerCycle gear).gear.levels → ⊥
