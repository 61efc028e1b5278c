-- `write::apply_standard_write` meets its contract: on an image of a fit record it is the write of its command.
use Rattle.std.proofs.Common.{rules}
use Rattle.gear.specs.Write.{apply_standard_write}
use Rattle.engine.proofs.write.apply_standard_write.Goals as goal

pub returns : goal.returns
unfolding apply_standard_write
returns c = c.serve.ensures _ (λ a l k. search rules)
