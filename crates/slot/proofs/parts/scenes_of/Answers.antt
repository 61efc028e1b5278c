-- `parts::scenes_of` meets its contract: each entry is made of what stands at its place.
use Rattle.std.proofs.Common.{rules, ◌+◌, ◌*◌, ◌∙◌, drop}
use lib.Seq.{drop-drop}
use Rattle.gear.specs.Scene.{nowhere}
use Rattle.numbers.proofs.Made.{made}
use Rattle.slot.specs.Record.{setting_in}
use Rattle.slot.proofs.parts.scenes_of.Goals as goal

pub returns : goal.returns
returns c =
    made _ (λ i. setting_in (drop (155 + 15 * i) c.args.slot.now)) _ (λ i q y k. search rules) nowhere c.from_fn.ensures.items ∙ simp drop-drop
