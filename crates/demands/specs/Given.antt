-- No input stops it (demand 1): one statement for each number of document 01's table, of calls that behave in some way.
use Rattle.std.specs.Prelude.{ℕ, ◌+◌, ◌*◌, ◌≤◌, ◌<◌, ◌≡◌, true, false, List, length, Ok, Err}
use Rattle.demands.specs.Calls.{Behaviour, Call}
use Rattle.demands.specs.Calls.Call.{StandardWrite, Query, Matches}
use Rattle.demands.specs.Fit.{Accepted, Fit}
use Rattle.demands.specs.Refusals.{listed, write_bytes, query_bytes}
use Rattle.calls.specs.declared.address.Address.TheVariants.{Group}
use Rattle.gear.specs.Answer.{done, refused}
use Rattle.gear.specs.declared.answer.Refusal.{Refusal}
use Rattle.gear.specs.declared.answer.Refusal.TheVariants.{Profile as ProfileRefused, Unfit, Byte, Group as GroupAbove, File as FileRefused}
use Rattle.gear.specs.declared.profile.Profile.{Profile}
use Rattle.gear.specs.declared.record.Gear.{Gear}
use Rattle.gear.specs.Record.{fresh_gear, new_gear}
use Rattle.file.specs.File.{byte, fault, checked, profile_at, step_count, well_formed}
use Rattle.runner.specs.declared.run.RunError.TheVariants.{Malformed, Short}
use Rattle.runner.specs.Ask.{asked}
use Rattle.runner.specs.Line.{bad_text, written}
use Rattle.runner.specs.Run.{last_of, lines_of, ran, ran_into, reported, reported_into, room}
use Rattle.step.specs.Step.{step}

-- ## The calls that take a record

-- the refusal is given exactly when, and then the record comes back unchanged
pub record GivenExactly (f : Behaviour) (r : Refusal) (When : Call → Gear → Type 0) : Type 0 where
  pub given : (c : Call) (g : Gear) → When c g → f c g ≡ refused g r
  pub only : (c : Call) (g : Gear) → (f c g).answer ≡ Err r → When c g

-- a byte not in this call's table
pub data Unlisted : Call → Type 0 where
  write : {byte dtr0 : ℕ} → listed write_bytes byte ≡ false → Unlisted (StandardWrite byte dtr0)
  query : {byte : ℕ} → listed query_bytes byte ≡ false → Unlisted (Query byte)

-- a group address above 15
pub data Above : Call → Type 0 where
  group : {n : ℕ} → 15 < n → Above (Matches (Group n))

-- ## Building a gear, and a session file

-- refusal 1 gives no record: every call refuses what comes with it
pub record ProfileJudged (f : Behaviour) (p : Profile) : Type 0 where
  pub given : (Accepted p → ⊥) → (new_gear p).answer ≡ Err ProfileRefused
  pub only : (new_gear p).answer ≡ Err ProfileRefused → Accepted p → ⊥
  pub useless : (Accepted p → ⊥) → (c : Call) → f c (new_gear p).gear ≡ refused (new_gear p).gear Unfit
  pub built : Accepted p → new_gear p ≡ done (fresh_gear p)

-- what each call that takes a file gives for one whose lowest fault is at this offset; `old` is what a lent buffer holds before
pub record RefusedAt (s old : List ℕ) (offset : ℕ) : Type 0 where
  pub by_check : checked s ≡ Err (fault offset)
  pub by_room : room s ≡ 16
  -- however long the buffer is: the file is judged first
  pub by_run : (ran s (length old) ≡ Err (Malformed (fault offset))) × (ran_into s old ≡ old)
  -- no refusal, but the line `bad` and the offset; and the buffer is judged first
  pub by_report :
      16 ≤ length old →
      (reported s (length old) ≡ Ok (length (bad_text offset))) × (reported_into s old ≡ written old 0 (bad_text offset))
  pub by_report_short : length old < 16 → (reported s (length old) ≡ Err (Short 16)) × (reported_into s old ≡ old)
  -- whatever is asked
  pub by_ask : (kind a b c : ℕ) → asked s kind a b c ≡ Err (fault offset)

-- and for a file that is well formed: none of them refuses it
pub record ServedWith (s old : List ℕ) : Type 0 where
  pub by_check : checked s ≡ Ok tt
  pub by_room : room s ≡ step_count s (profile_at s) * 11 + 16
  pub by_run :
      room s ≤ length old → (ran s (length old) ≡ Ok (length (lines_of s))) × (ran_into s old ≡ written old 0 (lines_of s))
  -- a buffer that is too short is no refusal: it gets its answer, and keeps every byte
  pub by_run_short : length old < room s → (ran s (length old) ≡ Err (Short (room s))) × (ran_into s old ≡ old)
  pub by_report : (reported s (length old) ≡ ran s (length old)) × (reported_into s old ≡ ran_into s old)
  pub by_ask : (kind a b c : ℕ) → asked s kind a b c ≡ Ok (step (last_of s) kind a b c).answer

-- a file is one or the other; and check, run and ask name an offset only where it is the file's
pub record FileJudged (s old : List ℕ) : Type 0 where
  pub given : well_formed s ≡ false → (offset : ℕ) × RefusedAt s old offset
  pub served : well_formed s ≡ true → ServedWith s old
  pub only_check : (offset : ℕ) → checked s ≡ Err (fault offset) → well_formed s ≡ false
  pub only_run :
      (offset : ℕ) → ran s (length old) ≡ Err (Malformed (fault offset)) → (well_formed s ≡ false) × (checked s ≡ Err (fault offset))
  pub only_ask :
      (kind a b c offset : ℕ) → asked s kind a b c ≡ Err (fault offset) → (well_formed s ≡ false) × (checked s ≡ Err (fault offset))
  -- of the other refusals only 3 is told: the record of a file is fit, since its bytes are below 256, and no step has a group address
  pub asked_byte :
      ((i : ℕ) → byte s i < 256) → (kind a b c : ℕ) (r : Refusal) → asked s kind a b c ≡ Ok (Err r) → r ≡ Byte

-- ## The table

pub record Refusals (f : Behaviour) : Type 0 where
  pub one : (p : Profile) → ProfileJudged f p
  pub two : GivenExactly f Unfit (λ c g. Fit g → ⊥)
  pub three : GivenExactly f Byte (λ c g. Fit g × Unlisted c)
  pub four : GivenExactly f GroupAbove (λ c g. Fit g × Above c)
  pub five : (s old : List ℕ) → FileJudged s old
  -- numbers 1 and 5 are no answers of a call that takes a record
  pub never_one : GivenExactly f ProfileRefused (λ c g. ⊥)
  pub never_five : GivenExactly f FileRefused (λ c g. ⊥)
