-- `activation::activate_tc` meets its contract: what is read is the record's, and the stores are those of the image.
use mathlib.Core.Path.{◌≡◌, refl, ◌∙◌}
use Rattle.colour.specs.Activation.{activate, activated, strays}
use Rattle.slot.specs.Image.{image_of}
use Rattle.engine.proofs.Blocks.{staged_tc}
use Rattle.slot.proofs.Puts.{flag_stored}
use Rattle.slot.proofs.Read.{part}
use Rattle.slot.specs.Record.{gear_of}
use Rattle.engine.proofs.activation.activate_tc.Goals as goal

pub returns : goal.returns
unfolding image_of gear_of activate activated strays
returns c =
    λ g h m.
    let b = c.args.slot.now in
    let limits : c.limits_of-limits.result ≡ g.colour.limits = c.limits_of-limits.ensures ∙ part b g h (λ x. x.colour.limits) in
    let staged : c.word-staged.result ≡ g.colour.pending.tc = c.word-staged.ensures ∙ staged_tc b g h in
    rw (c.unstage.ensures, c.unlinked.ensures, c.put_word.ensures, c.from.ensures, flag_stored, c.hold-tc.ensures, limits, staged, h.0, m) (refl, h.1)
