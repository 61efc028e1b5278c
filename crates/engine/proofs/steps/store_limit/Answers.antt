-- `steps::store_limit` meets its contract: what is read are the record's numbers, and the store of these is put back.
use mathlib.Core.Path.{◌≡◌, ap, sym, ◌∙◌}
use Rattle.colour.proofs.Left.{store_put_back}
use Rattle.colour.specs.Bounded.{put_back, store_bounded}
use Rattle.engine.proofs.Blocks.{active_mode, active_tc, same_colour}
use Rattle.slot.proofs.Read.{part}
use Rattle.slot.specs.Record.{gear_of}
use Rattle.engine.proofs.steps.store_limit.Goals as goal

pub returns : goal.returns
unfolding gear_of
returns c =
    λ g h.
    let b = c.args.slot.now in
    let limits : c.limits_of.result ≡ g.colour.limits = c.limits_of.ensures ∙ part b g h (λ x. x.colour.limits) in
    let tc : c.word.result ≡ g.colour.active.tc = c.word.ensures ∙ active_tc b g h in
    let mode : c.from.result ≡ g.colour.active.mode = c.from.ensures ∙ sym (active_mode b g h) in
    let outside : c.flag.result ≡ g.colour.outside = c.flag.ensures ∙ part b g h (λ x. x.colour.outside) in
    let stored = c.store.ensures ∙ (λ i. store_bounded (record { limits = limits i; tc = tc i; mode = mode i; outside = outside i }) c.args.value c.args.selector) in
    same_colour _ g _ _ (ap (put_back g.colour) stored ∙ store_put_back g.colour c.args.value c.args.selector) (c.put_bounded.ensures g h)
