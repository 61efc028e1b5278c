-- `reset::reset_banks` meets its contract: both banks are built, and their rows are those of the image.
use mathlib.Core.Path.{refl, ◌∙◌}
use Rattle.bank.specs.Build.{build, build_bank0, build_bank1}
use Rattle.slot.proofs.Read.{part}
use Rattle.slot.specs.Record.{gear_of}
use Rattle.slot.specs.Image.{image_of}
use Rattle.engine.proofs.reset.reset_banks.Goals as goal

pub returns : goal.returns
unfolding image_of gear_of build build_bank0 build_bank1
returns c =
    λ g h.
    let unit = c.unit_of.ensures ∙ part c.args.slot.now g h (λ x. x.unit) in
    rw (c.copy_from_slice-2.ensures.after, c.copy_from_slice.ensures.after, c.build-banks.ensures, unit, h.0) (refl, (h.1.0, h.1.1, h.1.2, h.1.3, h.1.4, (refl, refl)))
