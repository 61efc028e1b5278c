-- `reply::reported` meets its contract: `reported_shown` says what is reported, by the callees.
use Rattle.query.proofs.Parts.{reported_shown}
use Rattle.query.proofs.reply.reported.Goals as goal

pub returns-then-reports : goal.returns-then-reports
returns-then-reports c = simp (reported_shown, ← c.reports.ensures, c.if-reports.true, ← c.load_report_from.ensures, ← c.shown-told.ensures, ← c.scene_at.ensures)

pub returns : goal.returns
returns c = simp (reported_shown, ← c.reports.ensures, c.if-reports.false)
