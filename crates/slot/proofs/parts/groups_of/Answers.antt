-- `parts::groups_of` meets its contract: each flag is read at its place.
use Rattle.std.proofs.Common.{rules, ◌+◌, false}
use Rattle.numbers.proofs.Made.{made}
use Rattle.slot.specs.Record.{flag_at}
use Rattle.slot.proofs.parts.groups_of.Goals as goal

pub returns : goal.returns
returns c = made _ (λ i. flag_at (32 + i) c.args.slot.now) _ (λ i q y k. search rules) false c.from_fn.ensures.items
