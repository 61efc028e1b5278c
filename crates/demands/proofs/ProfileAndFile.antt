-- Refusals 1 and 5: a profile that is not accepted, and a session file that is not well formed.
use Prim.Native.Nat.{ℕ, ◌+◌, ◌*◌, ◌≤◌}
use mathlib.Core.Path.{◌≡◌, refl, sym, ◌∙◌, ap}
use mathlib.Core.Bool.{Bool, true, false}
use mathlib.Core.List.{List}
use lib.Dec.{leb}
use lib.ListN.{length}
use native.Mathlib.Omega.{arith}
use borrow.Author.Tests.{le-leb}
use Rattle.std.specs.declared.result.Result.TheVariants.{Err}
use Rattle.demands.specs.Calls.{perform}
use Rattle.demands.specs.Given.{ProfileJudged, RefusedAt, ServedWith, FileJudged}
use Rattle.demands.specs.Refusals.{is_refusal}
use Rattle.demands.proofs.AskedByte.{last_byte}
use Rattle.demands.proofs.Fit.{accepted_exactly as profile-exactly, fails}
use Rattle.demands.proofs.Named.{unfit_given}
use Rattle.gear.specs.declared.profile.Profile.{Profile}
use Rattle.gear.specs.Record.{new_gear}
use Rattle.gear.proofs.Built.{none_unfit}
use Rattle.numbers.proofs.Logic.{by_cases, no_false}
use Rattle.gear.specs.declared.answer.Refusal.{Refusal}
use Rattle.std.specs.Prelude.{Result, Ok, Err, is_ok, ⊤}
use Rattle.file.specs.declared.Malformed.{Malformed}
use Rattle.file.specs.File.{fault, checked, profile_at, step_count, steps_of, well_formed}
use Rattle.file.proofs.Lowest.{accepted_exactly}
use Rattle.file.proofs.Shape.{steps_length}
use Rattle.runner.specs.declared.run.RunError.{RunError}
use Rattle.runner.specs.declared.run.RunError.TheVariants.{Malformed as Unrun, Short as TooShort}
use Rattle.runner.specs.Ask.{asked, asked_as}
use Rattle.runner.specs.Line.{bad_text, written}
use Rattle.runner.specs.Run.{last_of, lines_of, ran, ran_as, ran_into, reported, reported_into, room}
use Rattle.runner.proofs.Whole.{reported_none, served_bad}
use Rattle.step.specs.Step.{step}

pub profile_judged : (p : Profile) → ProfileJudged perform p
unfolding new_gear
profile_judged p =
    record {
      given = λ n. rw (fails (profile-exactly p) n);
      only = λ r a. let e = (profile-exactly p).0 a in no_false (ap is_refusal (rw e at r));
      useless = λ n c. unfit_given c (new_gear p).gear (rw (fails (profile-exactly p) n) none_unfit);
      built = λ a. rw ((profile-exactly p).0 a);
    }

pub bad_at : (v : Result ⊤ Malformed) → is_ok v ≡ false → (x : ℕ) × (v ≡ Err (fault x))
bad_at (Ok u) e = no_false (sym e)
bad_at (Err m) e = (m.offset, refl)

pub good_at : (v : Result ⊤ Malformed) → is_ok v ≡ true → v ≡ Ok tt
good_at (Ok u) e = refl
good_at (Err m) e = no_false e

abbrev is_malformed : Result ℕ RunError → Bool
is_malformed (Ok n) = false
is_malformed (Err (Unrun m)) = true
is_malformed (Err (TooShort n)) = false

module _ (s old : List ℕ) where
  good_so : well_formed s ≡ true → checked s ≡ Ok tt
  good_so e = good_at (checked s) (accepted_exactly s ∙ e)

  bad_so : {x : ℕ} → checked s ≡ Err (fault x) → well_formed s ≡ false
  bad_so e = sym (accepted_exactly s) ∙ ap is_ok e

  -- ## A malformed file

  -- it has no steps
  room_none : well_formed s ≡ false → room s ≡ 16
  unfolding room steps_of
  room_none e = rw e

  bad_reported :
      {x : ℕ} → checked s ≡ Err (fault x) → room s ≤ length old →
      (reported s (length old) ≡ Ok (length (bad_text x))) × (reported_into s old ≡ written old 0 (bad_text x))
  unfolding reported reported_into
  bad_reported bad h = let wide = le-leb (room s) (length old) h in (rw (wide, bad), rw (wide, bad))

  bad_asked : {x : ℕ} (kind a b c : ℕ) → checked s ≡ Err (fault x) → asked s kind a b c ≡ Err (fault x)
  unfolding asked
  bad_asked kind a b c bad = rw bad

  refused_at : well_formed s ≡ false → (offset : ℕ) × RefusedAt s old offset
  refused_at e =
      let bad = bad_at (checked s) (accepted_exactly s ∙ e) in
      let kept = served_bad s old bad.1 in
      let few = room_none e in (
        bad.0,
        record {
          by_check = bad.1;
          by_room = few;
          by_run = (sym kept.0, sym kept.1);
          by_report = λ h. bad_reported bad.1 (omega arith);
          by_report_short =
              λ h. let none = reported_none s {old = old} (omega arith) in (sym none.0 ∙ ap (λ n. Err (TooShort n)) few, sym none.1);
          by_ask = λ kind a b c. bad_asked kind a b c bad.1;
        },
      )

  -- ## A well-formed file

  room_steps : well_formed s ≡ true → room s ≡ step_count s (profile_at s) * 11 + 16
  unfolding room
  room_steps e = let long = steps_length s e in omega arith

  reported_so : well_formed s ≡ true → (ran s (length old) ≡ reported s (length old)) × (ran_into s old ≡ reported_into s old)
  unfolding ran ran_into
  reported_so e = let good = good_so e in (rw good, rw good)

  good_reported :
      checked s ≡ Ok tt → room s ≤ length old →
      (reported s (length old) ≡ Ok (length (lines_of s))) × (reported_into s old ≡ written old 0 (lines_of s))
  unfolding reported reported_into
  good_reported good h = let wide = le-leb (room s) (length old) h in (rw (wide, good), rw (wide, good))

  good_asked : (kind a b c : ℕ) → checked s ≡ Ok tt → asked s kind a b c ≡ Ok (step (last_of s) kind a b c).answer
  unfolding asked
  good_asked kind a b c good = rw good

  served_with : well_formed s ≡ true → ServedWith s old
  served_with e =
      let good = good_so e in
      let so = reported_so e in
      record {
        by_check = good;
        by_room = room_steps e;
        by_run = λ h. let lines = good_reported good h in (so.0 ∙ lines.0, so.1 ∙ lines.1);
        by_run_short = λ h. let none = reported_none s h in (so.0 ∙ sym none.0, so.1 ∙ sym none.1);
        by_report = (sym so.0, sym so.1);
        by_ask = λ kind a b c. good_asked kind a b c good;
      }

  -- ## The offset is the file's

  never_malformed : is_malformed (reported s (length old)) ≡ false
  unfolding reported
  never_malformed = by_cases (leb (room s) (length old)) (λ e. rw e) (λ e. rw e)

  ran_offset : (v : Result ⊤ Malformed) (x : ℕ) → ran_as s (length old) v ≡ Err (Unrun (fault x)) → v ≡ Err (fault x)
  ran_offset (Ok u) x e = no_false (sym never_malformed ∙ ap is_malformed e)
  ran_offset (Err m) x e = let same : Err (Unrun m) ≡ Err (Unrun (fault x)) = e in cc

  asked_offset : (kind a b c : ℕ) (v : Result ⊤ Malformed) (x : ℕ) → asked_as s kind a b c v ≡ Err (fault x) → v ≡ Err (fault x)
  asked_offset kind a b c (Ok u) x e = let z : ◌≡◌ {A = ℕ} 0 1 = cc in absurd (omega arith)
  asked_offset kind a b c (Err m) x e = cc

  told_so :
      (kind a b c : ℕ) (v : Result ⊤ Malformed) (r : Refusal) → asked_as s kind a b c v ≡ Ok (Err r) →
      (v ≡ Ok tt) × ((step (last_of s) kind a b c).answer ≡ Err r)
  told_so kind a b c (Ok u) r e = (refl, cc)
  told_so kind a b c (Err m) r e = let z : ◌≡◌ {A = ℕ} 0 1 = cc in absurd (omega arith)

  pub file_judged : FileJudged s old
  unfolding ran asked
  file_judged =
      record {
        given = refused_at;
        served = served_with;
        only_check = λ x e. bad_so e;
        only_run = λ x e. let bad = ran_offset (checked s) x e in (bad_so bad, bad);
        only_ask = λ kind a b c x e. let bad = asked_offset kind a b c (checked s) x e in (bad_so bad, bad);
        asked_byte =
            λ bytes kind a b c r e.
            let told = told_so kind a b c (checked s) r e in last_byte s bytes told.0 kind a b c r told.1;
      }
