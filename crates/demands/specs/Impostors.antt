-- The impostors of document 01 ('What each call owes') that take a record, each written down as a behaviour of the calls; and that
-- each fails the demand which document 01 names for it. The fifth is a runner: specs/Sessions.antt.
use Rattle.std.specs.Prelude.{ℕ, ◌≡◌, Bool, true, false, Ok, Err}
use Rattle.demands.specs.Calls.{Behaviour, Call, perform}
use Rattle.demands.specs.Calls.Call.{StandardWrite, Query}
use Rattle.demands.specs.Refusals.{RefusesExactly}
use Rattle.demands.specs.Table.{RowsOf}
use Rattle.gear.specs.Answer.{Answer, refused}
use Rattle.gear.specs.declared.answer.Reply.TheVariants.{Done, Value, Nothing, Incapable}
use Rattle.gear.specs.declared.answer.Refusal.{Refusal}
use Rattle.gear.specs.declared.record.Gear.{Gear}
use Rattle.numbers.specs.Numbers.{pick}

-- it refuses every call, for whatever reason
abbrev pub refuses_every : (Call → Gear → Refusal) → Behaviour
refuses_every why c g = refused g (why c g)

-- it answers 0 always: what is done or refused is so as by the rules, and what is asked for is 0; whatever records it leaves
unfoldable pub zeroed : Answer → Answer
zeroed (Ok Done) = Ok Done
zeroed (Ok (Value n)) = Ok (Value 0)
zeroed (Ok Nothing) = Ok (Value 0)
zeroed (Ok (Incapable need)) = Ok (Value 0)
zeroed (Err r) = Err r

abbrev pub answers_zero : (Call → Gear → Gear) → Behaviour
answers_zero leaves c g = record { answer = zeroed (perform c g).answer; gear = leaves c g }

-- it answers by the rules and ignores some calls: the record stays as it was
abbrev pub ignores : (Call → Bool) → Behaviour
ignores which c g = record { answer = (perform c g).answer; gear = pick (which c) g (perform c g).gear }

-- writes are among them, whatever else is
abbrev pub OfWrites : (Call → Bool) → Type 0
OfWrites which = (byte dtr0 : ℕ) → which (StandardWrite byte dtr0) ≡ true

-- it answers by the rules and takes some calls twice where once is right
abbrev pub takes_twice : (Call → Bool) → Behaviour
takes_twice which c g =
    record { answer = (perform c g).answer; gear = pick (which c) (perform c (perform c g).gear).gear (perform c g).gear }

-- query 167 is among them and query 153 is not: the type walk miscounts
pub record OfTheWalk (which : Call → Bool) : Type 0 where
  pub begins : which (Query 153) ≡ false
  pub moves : which (Query 167) ≡ true

pub record Caught : Type 0 where
  -- demand 1, by the table's 'exactly when'
  pub refuses_every : (why : Call → Gear → Refusal) → RefusesExactly (refuses_every why) → ⊥
  -- demand 2, as P2 and P10 show
  pub answers_zero_at_P2 : (leaves : Call → Gear → Gear) → RowsOf 2 (answers_zero leaves) → ⊥
  pub answers_zero_at_P10 : (leaves : Call → Gear → Gear) → RowsOf 10 (answers_zero leaves) → ⊥
  -- demand 2: SetMaxLevel has to be seen. Demand 3 does not shut it out: crates/order, specs/Ignored.antt
  pub ignores_writes_at_P4 : (which : Call → Bool) → OfWrites which → RowsOf 4 (ignores which) → ⊥
  -- demand 2 at P10
  pub miscounts_at_P10 : (which : Call → Bool) → OfTheWalk which → RowsOf 10 (takes_twice which) → ⊥
