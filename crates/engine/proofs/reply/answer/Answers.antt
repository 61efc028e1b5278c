-- `reply::answer` meets its contract: the parts that are read answer it, and the walk and the report that are stored follow it.
use Rattle.engine.proofs.Querying.{answers, leaves}
use Rattle.engine.proofs.reply.answer.Goals as goal

pub returns : goal.returns
returns c = record { does = leaves _ _ _ _ _ _ c.seen-told.ensures c.walked-marks.ensures c.put_walk.ensures c.report.ensures; tells = answers _ _ _ _ c.seen-told.ensures c.query_answer.ensures }
