-- Refusal 5 and the lent buffer, over the own promises of the functions that take a session file: `file::check` and runner's.
use Rattle.std.specs.Prelude.{ℕ, ◌≤◌, ◌<◌, ◌≡◌, true, false, List, length, Result, Ok, Err}
use Rattle.file.proofs.check
use Rattle.file.specs.File.{fault, checked, well_formed}
use Rattle.runner.proofs.ask
use Rattle.runner.proofs.run
use Rattle.runner.specs.declared.run.RunError.{RunError}
use Rattle.runner.specs.declared.run.RunError.TheVariants.{Malformed, Short}
use Rattle.runner.specs.Line.{bad_text, written}
use Rattle.runner.specs.Run.{room}

-- every outcome that meets a promise is as a claim says: of the arguments, the result, and the parameters at exit
abbrev pub Always {ℓ} :
    {K : Type ℓ} {A R E : K → Type 0} → ((κs : K) → A κs → R κs → E κs → Type 0) → ((κs : K) → A κs → R κs → E κs → Type 0) → Type ℓ
Always {K = K} {A = A} {R = R} {E = E} Promise Claim = (κs : K) (args : A κs) (r : R κs) (e : E κs) → Promise κs args r e → Claim κs args r e

-- the file s is malformed: the claim holds of the offset of its lowest fault
abbrev pub AtFault : List ℕ → (ℕ → Type 0) → Type 0
AtFault s Claim = well_formed s ≡ false → (offset : ℕ) × (checked s ≡ Err (fault offset)) × Claim offset

-- an answer that names an offset is given only where the file is malformed, with the offset of its lowest fault
abbrev pub OnlyAt : List ℕ → (ℕ → Type 0) → Type 0
OnlyAt s Answer = (offset : ℕ) → Answer offset → (well_formed s ≡ false) × (checked s ≡ Err (fault offset))

-- the buffer is too short: the answer is the bytes that it wants, and it keeps every byte
abbrev pub Spares : List ℕ → List ℕ → Result ℕ RunError → List ℕ → Type 0
Spares s old r new = length old < room s → (r ≡ Err (Short (room s))) × (new ≡ old)

-- the line `bad` and the offset is the answer, at the start of the buffer
abbrev pub TellsBad : List ℕ → ℕ → Result ℕ RunError → List ℕ → Type 0
TellsBad old offset r new = (r ≡ Ok (length (bad_text offset))) × (new ≡ written old 0 (bad_text offset))

pub record Runs : Type 1 where
  -- of a malformed file
  pub check_refused : Always check.Reads.Post (λ κs args r e. AtFault args.0.now (λ offset. r ≡ Err (fault offset)))
  pub room_least : Always run.room.Reads.Post (λ κs args r e. AtFault args.0.now (λ offset. r ≡ 16))
  pub run_refused :
      Always run.run.Reads.Post
      (λ κs args r e. AtFault args.0.now (λ offset. (r ≡ Err (Malformed (fault offset))) × (e.1.0.now ≡ args.1.0.now)))
  pub report_told :
      Always run.report.Reads.Post
      (λ κs args r e.
      16 ≤ length args.1.0.now → AtFault args.0.now (λ offset. TellsBad args.1.0.now offset r e.1.0.now))
  pub ask_refused : Always ask.ask.Reads.Post (λ κs args r e. AtFault args.0.now (λ offset. r ≡ Err (fault offset)))
  -- and of no other
  pub check_only : Always check.Reads.Post (λ κs args r e. OnlyAt args.0.now (λ offset. r ≡ Err (fault offset)))
  pub run_only : Always run.run.Reads.Post (λ κs args r e. OnlyAt args.0.now (λ offset. r ≡ Err (Malformed (fault offset))))
  pub ask_only : Always ask.ask.Reads.Post (λ κs args r e. OnlyAt args.0.now (λ offset. r ≡ Err (fault offset)))
  -- `run` judges the file first, and `report` the buffer
  pub run_spared :
      Always run.run.Reads.Post
      (λ κs args r e. well_formed args.0.now ≡ true → Spares args.0.now args.1.0.now r e.1.0.now)
  pub report_spared : Always run.report.Reads.Post (λ κs args r e. Spares args.0.now args.1.0.now r e.1.0.now)
