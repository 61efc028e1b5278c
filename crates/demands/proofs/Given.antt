-- Each refusal's number is given exactly when document 01's table says.
use mathlib.Core.Path.{ap}
use native.Mathlib.Omega.{arith}
use Rattle.demands.specs.Calls.{perform}
use Rattle.demands.specs.Given.{Refusals}
use Rattle.demands.proofs.Fit.{fit_exactly, fails}
use Rattle.demands.proofs.ProfileAndFile.{profile_judged, file_judged}
use Rattle.demands.proofs.Named.{fit_named, table_given, unfit_given, fit_only, unlisted_table, above_table}
use Rattle.gear.specs.Answer.{refusal_number}
use Rattle.gear.specs.declared.answer.Refusal.TheVariants.{Profile as ProfileRefused, Unfit, Byte, Group as GroupAbove, File as FileRefused}

pub refusals : Refusals perform
refusals =
    record {
      one = profile_judged;
      two =
          record {
            given = λ c g n. unfit_given c g (fails (fit_exactly g) n);
            only = λ c g e f. fit_named c g Unfit ((fit_exactly g).0 f) e;
          };
      three =
          record {
            given = λ c g w. table_given c g Byte ((fit_exactly g).0 w.0) (unlisted_table w.1);
            only =
                λ c g e.
                let t = fit_only c g Byte (λ z. omega (arith, ap refusal_number z)) e in
                ((fit_exactly g).1 t.0, t.1);
          };
      four =
          record {
            given = λ c g w. table_given c g GroupAbove ((fit_exactly g).0 w.0) (above_table w.1);
            only =
                λ c g e.
                let t = fit_only c g GroupAbove (λ z. omega (arith, ap refusal_number z)) e in
                ((fit_exactly g).1 t.0, t.1);
          };
      five = file_judged;
      never_one =
          record {
            given = λ c g w. absurd w;
            only = λ c g e. (fit_only c g ProfileRefused (λ z. omega (arith, ap refusal_number z)) e).1;
          };
      never_five =
          record {
            given = λ c g w. absurd w;
            only = λ c g e. (fit_only c g FileRefused (λ z. omega (arith, ap refusal_number z)) e).1;
          };
    }
