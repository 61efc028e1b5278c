-- What a host is told of a malformed file, over the own promises of the five functions of the library that it links.
use Rattle.std.specs.Prelude.{ℕ, ◌≤◌, ◌<◌, ◌≡◌, false, List, length, Err}
use Rattle.demands.specs.Runs.{Always, AtFault}
use Rattle.dali_gear.proofs.dali_gear_ask
use Rattle.dali_gear.proofs.dali_gear_check
use Rattle.dali_gear.proofs.dali_gear_report
use Rattle.dali_gear.proofs.dali_gear_room
use Rattle.dali_gear.proofs.dali_gear_run
use Rattle.file.specs.File.{byte, fault, checked, well_formed}
use Rattle.runner.specs.Line.{bad_text, written}
use Rattle.runner.specs.Run.{room}

-- code 5 is given exactly where the file is malformed, and then the detail is the offset of its lowest fault
pub record Five (s : List ℕ) (code detail : ℕ) : Type 0 where
  pub given : well_formed s ≡ false → (code ≡ 5) × (checked s ≡ Err (fault detail))
  pub only : code ≡ 5 → well_formed s ≡ false

-- a report of a file whose lowest fault is at the offset is done, and no refusal: its line stands at the start of the buffer
abbrev pub Tells : ℕ → List ℕ → ℕ → ℕ → List ℕ → Type 0
Tells offset old code detail new = (code ≡ 0) × (detail ≡ length (bad_text offset)) × (new ≡ written old 0 (bad_text offset))

-- a buffer that is too short for a report: code 18, the bytes that it wants, and it keeps every byte
abbrev pub Spared : List ℕ → List ℕ → ℕ → ℕ → List ℕ → Type 0
Spared s old code detail new = length old < room s → (code ≡ 18) × (detail ≡ room s) × (new ≡ old)

pub record Host : Type 1 where
  pub by_check : Always dali_gear_check.Reads.Post (λ κs args r e. Five args.0.now r e.1.0.now)
  pub by_room : Always dali_gear_room.Reads.Post (λ κs args r e. well_formed args.0.now ≡ false → r ≡ 16)
  pub by_run : Always dali_gear_run.Reads.Post (λ κs args r e. Five args.0.now r e.1.1.0.now)
  pub run_kept :
      Always dali_gear_run.Reads.Post (λ κs args r e. well_formed args.0.now ≡ false → e.1.0.now ≡ args.1.0.now)
  pub by_report :
      Always dali_gear_report.Reads.Post
      (λ κs args r e.
      16 ≤ length args.1.0.now →
      AtFault args.0.now (λ offset. Tells offset args.1.0.now r e.1.1.0.now e.1.0.now))
  pub report_short :
      Always dali_gear_report.Reads.Post
      (λ κs args r e. Spared args.0.now args.1.0.now r e.1.1.0.now e.1.0.now)
  pub by_ask : Always dali_gear_ask.Reads.Post (λ κs args r e. Five args.0.now r e.1.1.1.1.1.0.now)
  -- of the numbers 1 to 4, where the file's bytes are below 256, only 3
  pub ask_three :
      Always dali_gear_ask.Reads.Post (λ κs args r e. ((i : ℕ) → byte args.0.now i < 256) → 0 < r → r < 5 → r ≡ 3)
