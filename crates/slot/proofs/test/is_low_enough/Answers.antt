-- `test::is_low_enough` meets its contract: the places of the table are all where not any byte will do.
use Rattle.std.proofs.Common.{sym, ◌∙◌, rules}
use Rattle.std.proofs.lemmas.Iterator.{YieldsList-from_slice}
use Rattle.std.proofs.lemmas.Iterator.Search.{all_from_yields_List}
use Rattle.slot.proofs.Limited.{below, by_limits}
use Rattle.slot.proofs.Lists.{all_bytes}
use Rattle.slot.specs.declared.test.TheConstants.{LIMITS}
use Rattle.slot.proofs.test.is_low_enough.Goals as goal

pub returns : goal.returns
returns c =
    let b = c.args.slot.now in
    let bytes = all_bytes b c.type_inv.slot in
    all_from_yields_List (below b) _ _ _ c.all.ensures.ran (YieldsList-from_slice LIMITS cc) (λ r x q k. search rules) ∙ sym (by_limits b bytes)
