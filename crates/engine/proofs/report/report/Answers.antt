-- `report::report` meets its contract: the fourteen bytes at 111 are the report's.
use mathlib.Core.Path.{◌≡◌, ◌∙◌}
use lib.ListN.{length}
use Rattle.std.proofs.Common.{rules}
use Rattle.engine.proofs.Reporting.{report_stored}
use Rattle.engine.specs.Reported.{shown_by}
use Rattle.slot.proofs.Read.{part}
use Rattle.engine.proofs.report.report.Goals as goal

pub returns-then-reports : goal.returns-then-reports
returns-then-reports c =
    λ g h.
    let b = c.args.slot.now in
    let n = c.args.byte in
    let colour = c.shown-colour.result in
    let same : colour ≡ shown_by g n = c.shown-colour.ensures ∙ part b g h (λ x. shown_by x n) in
    let six : length colour.levels ≡ 6 = search rules in
    rw (← c.reports.ensures, c.if-reports.true, ← same, c.put_colour_at.ensures) (report_stored b g colour h six)
