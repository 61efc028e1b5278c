-- `reply::gear_query_reply` meets its contract: a fit image is served.
use Rattle.std.proofs.Common.{rules}
use Rattle.query.specs.Reply.{gear_query_reply}
use Rattle.engine.proofs.reply.gear_query_reply.Goals as goal

pub returns : goal.returns
unfolding gear_query_reply
returns c = c.serve.ensures _ (λ a l k. search rules)
