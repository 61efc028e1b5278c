-- A file that is malformed is refused with its offset, and a lent buffer that gets no lines is left as it was.
use mathlib.Core.Path.{sym, ◌∙◌}
use mathlib.Core.List.{[]}
use Rattle.demands.specs.Runs.{Runs}
use Rattle.demands.proofs.ProfileAndFile.{file_judged}
use Rattle.runner.proofs.Whole.{reported_none}

pub runs : Runs
runs =
    record {
      check_refused =
          λ κs args r e p bad.
          let at = (file_judged args.0.now []).given bad in (at.0, at.1.by_check, p ∙ at.1.by_check);
      room_least =
          λ κs args r e p bad.
          let at = (file_judged args.0.now []).given bad in (at.0, at.1.by_check, p ∙ at.1.by_room);
      run_refused =
          λ κs args r e p bad.
          let at = (file_judged args.0.now args.1.0.now).given bad in
          (at.0, at.1.by_check, (p.0 ∙ at.1.by_run.0, p.1.0 ∙ at.1.by_run.1));
      report_told =
          λ κs args r e p wide bad.
          let at = (file_judged args.0.now args.1.0.now).given bad in
          let told = at.1.by_report wide in
          (at.0, at.1.by_check, (p.0 ∙ told.0, p.1.0 ∙ told.1));
      ask_refused =
          λ κs args r e p bad.
          let at = (file_judged args.0.now []).given bad in (at.0, at.1.by_check, p ∙ at.1.by_ask _ _ _ _);
      check_only = λ κs args r e p x told. let bad = sym p ∙ told in ((file_judged args.0.now []).only_check x bad, bad);
      run_only = λ κs args r e p x told. (file_judged args.0.now args.1.0.now).only_run x (sym p.0 ∙ told);
      ask_only = λ κs args r e p x told. (file_judged args.0.now []).only_ask _ _ _ _ x (sym p ∙ told);
      run_spared =
          λ κs args r e p good few.
          let kept = ((file_judged args.0.now args.1.0.now).served good).by_run_short few in
          (p.0 ∙ kept.0, p.1.0 ∙ kept.1);
      report_spared =
          λ κs args r e p few. let kept = reported_none args.0.now few in (p.0 ∙ sym kept.0, p.1.0 ∙ sym kept.1);
    }
