-- The host's library gives code 5 exactly for malformed files, with the offset; a report of one is done.
use Prim.Native.Nat.{ℕ, ◌<◌}
use mathlib.Core.Path.{◌≡◌, refl, sym, ◌∙◌, ap}
use mathlib.Core.List.{List, []}
use mathlib.Core.Option.{Option, none, some}
use lib.Dec.{leb}
use lib.ListN.{length}
use native.Mathlib.Omega.{arith}
use borrow.Author.Tests.{leb-true, leb-false}
use Rattle.std.specs.declared.result.Result.TheVariants.{Ok, Err}
use Rattle.dali_gear.specs.Code.{answer_code, asked_code, asked_detail, ran_code, ran_detail, verdict_code, verdict_detail}
use Rattle.demands.specs.Calls.{Call}
use Rattle.demands.specs.Host.{Five, Host}
use Rattle.demands.specs.Steps.{entry, kinds, Stepped}
use Rattle.demands.proofs.Given.{refusals}
use Rattle.demands.proofs.ProfileAndFile.{file_judged}
use Rattle.demands.proofs.Steps.{stepped}
use Rattle.file.specs.File.{byte, checked, well_formed}
use Rattle.gear.specs.declared.answer.Reply.TheVariants.{Done, Value, Nothing, Incapable}
use Rattle.gear.specs.declared.answer.Outcome.{Outcome}
use Rattle.gear.specs.declared.answer.Refusal.{Refusal}
use Rattle.gear.specs.declared.answer.Refusal.TheVariants.{Profile, Unfit, Byte, Group, File, Length}
use Rattle.gear.specs.declared.record.Gear.{Gear}
use Rattle.gear.specs.Answer.{Answer}
use Rattle.gear.specs.Record.{fitb}
use Rattle.numbers.proofs.Logic.{by_cases}
use Rattle.std.specs.Prelude.{Ok}
use Rattle.runner.specs.Ask.{asked}
use Rattle.runner.specs.Run.{last_of, ran, room}
use Rattle.runner.proofs.Whole.{reported_none}
use Rattle.step.specs.Step.{step}

-- ## A step is never refused with 5

five_file : (a : Answer) → answer_code a ≡ 5 → a ≡ Err File
unfolding answer_code
five_file (Ok Done) e = absurd (omega arith)
five_file (Ok (Value n)) e = absurd (omega arith)
five_file (Ok Nothing) e = absurd (omega arith)
five_file (Ok (Incapable need)) e = absurd (omega arith)
five_file (Err Profile) e = absurd (omega arith)
five_file (Err Unfit) e = absurd (omega arith)
five_file (Err Byte) e = absurd (omega arith)
five_file (Err Group) e = absurd (omega arith)
five_file (Err File) e = refl
five_file (Err Length) e = absurd (omega arith)

stepped_not_five : (t : Option Call) (g : Gear) (o : Outcome) → Stepped t g o → answer_code o.answer ≡ 5 → ⊥
unfolding answer_code
stepped_not_five none g o e five =
    let told = ap (λ (x : Outcome). answer_code x.answer) e in
    by_cases (fitb g) (λ fit. omega (arith, rw fit at told)) (λ unfit. omega (arith, rw unfit at told))
stepped_not_five (some call) g o e five =
    refusals.never_five.only call g (sym (ap (λ (x : Outcome). x.answer) e) ∙ five_file o.answer five)

step_not_five : (g : Gear) (kind a b c : ℕ) → answer_code (step g kind a b c).answer ≡ 5 → ⊥
step_not_five g kind a b c five = stepped_not_five (entry (kinds a b c) kind) g (step g kind a b c) (stepped g kind a b c) five

-- ## Of the numbers 1 to 4 it is refused with 3 only

code_refused : (a : Answer) → 0 < answer_code a → answer_code a < 5 → (r : Refusal) × (a ≡ Err r)
unfolding answer_code
code_refused (Ok Done) h l = absurd (omega arith)
code_refused (Ok (Value n)) h l = absurd (omega arith)
code_refused (Ok Nothing) h l = absurd (omega arith)
code_refused (Ok (Incapable need)) h l = absurd (omega arith)
code_refused (Err r) h l = (r, refl)

code_three : (a : Answer) (r : Refusal) → a ≡ Err r → r ≡ Byte → answer_code a ≡ 3
unfolding answer_code
code_three a r e same = rw (e, same)

-- ## Code and detail of each function

module _ (s : List ℕ) where
  checked_five : Five s (verdict_code (checked s)) (verdict_detail (checked s))
  unfolding verdict_code verdict_detail
  checked_five =
      record {
        given = λ bad. rw ((file_judged s []).given bad).1.by_check (refl, refl);
        only =
            λ five.
            by_cases (well_formed s)
            (λ good. absurd (omega (arith, rw ((file_judged s []).served good).by_check at five)))
            (λ bad. bad);
      }

  ran_five : (old : List ℕ) → Five s (ran_code (ran s (length old))) (ran_detail (ran s (length old)))
  unfolding ran_code ran_detail
  ran_five old =
      record {
        given = λ bad. let at = ((file_judged s old).given bad).1 in rw (at.by_run.0, at.by_check) (refl, refl);
        only =
            λ five.
            by_cases (well_formed s)
            (λ good.
            let served = (file_judged s old).served good in
            by_cases (leb (room s) (length old))
            (λ wide. absurd (omega (arith, rw (served.by_run (leb-true (room s) (length old) wide)).0 at five)))
            (λ few.
            let short = served.by_run_short (omega (arith, leb-false (room s) (length old) few)) in
            absurd (omega (arith, rw short.0 at five))))
            (λ bad. bad);
      }

  asked_five : (kind a b c : ℕ) → Five s (asked_code (asked s kind a b c)) (asked_detail (asked s kind a b c))
  unfolding asked_code asked_detail
  asked_five kind a b c =
      record {
        given = λ bad. let at = ((file_judged s []).given bad).1 in rw (at.by_ask kind a b c, at.by_check) (refl, refl);
        only =
            λ five.
            by_cases (well_formed s)
            (λ good. absurd (step_not_five (last_of s) kind a b c (rw (((file_judged s []).served good).by_ask kind a b c) at five)))
            (λ bad. bad);
      }

  asked_three :
      ((i : ℕ) → byte s i < 256) → (kind a b c : ℕ) → 0 < asked_code (asked s kind a b c) → asked_code (asked s kind a b c) < 5 →
      asked_code (asked s kind a b c) ≡ 3
  unfolding asked_code
  asked_three bytes kind a b c low high =
      let judged = file_judged s [] in
      by_cases (well_formed s)
      (λ good.
      let told = (judged.served good).by_ask kind a b c in
      let named = code_refused _ (rw told at low) (rw told at high) in
      rw told (code_three _ named.0 named.1 (judged.asked_byte bytes kind a b c named.0 (told ∙ ap Ok named.1))))
      (λ bad. absurd (omega (arith, rw ((judged.given bad).1.by_ask kind a b c) at high)))

pub host : Host
unfolding ran_code ran_detail
host =
    record {
      by_check = λ κs args r e p. rw (p.0, p.1) (checked_five args.0.now);
      by_room = λ κs args r e p bad. p ∙ ((file_judged args.0.now []).given bad).1.by_room;
      by_run = λ κs args r e p. rw (p.0, p.1.0) (ran_five args.0.now args.1.0.now);
      run_kept = λ κs args r e p bad. p.1.1 ∙ ((file_judged args.0.now args.1.0.now).given bad).1.by_run.1;
      by_report =
          λ κs args r e p wide bad.
          let at = (file_judged args.0.now args.1.0.now).given bad in
          let told = at.1.by_report wide in
          (at.0, at.1.by_check, (p.0 ∙ ap ran_code told.0, p.1.0 ∙ ap ran_detail told.0, p.1.1 ∙ told.1));
      report_short =
          λ κs args r e p few.
          let kept = reported_none args.0.now few in
          let short = sym kept.0 in
          (p.0 ∙ ap ran_code short, p.1.0 ∙ ap ran_detail short, p.1.1 ∙ sym kept.1);
      by_ask = λ κs args r e p. rw (p.0, p.1) (asked_five args.0.now _ _ _ _);
      ask_three =
          λ κs args r e p bytes low high.
          p.0 ∙ asked_three args.0.now bytes _ _ _ _ (rw p.0 at low) (rw p.0 at high);
    }
