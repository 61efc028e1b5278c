-- `Unit::is_type` meets its contract: `any` over the first entries is membership in them.
use mathlib.Core.Path.{◌∙◌}
use lib.Dec.{eqb}
use lib.ListN.{take}
use Rattle.std.proofs.Common.{rules, tests}
use Rattle.std.proofs.lemmas.Iterator.{YieldsList-from_slice, YieldsList-from_take}
use Rattle.std.proofs.lemmas.Iterator.Search.{any_from_yields_List}
use Rattle.gear.proofs.Member.{any_member}
use Rattle.gear.specs.Profile.{is_type}
use Rattle.gear.specs.Types.{has_type}
use Rattle.gear.proofs.profile.Unit.is_type.Goals as goal

pub returns : goal.returns
unfolding is_type has_type
returns c =
    let u = c.args.self in
    any_from_yields_List (λ x. eqb x c.args.code) _ _ _ c.any.ensures.ran
    (YieldsList-from_take u.count (YieldsList-from_slice u.types (cc)) (c.take.ensures.count ∙ c.from.ensures)) (λ x b q k. search (rules, tests)) ∙
    any_member c.args.code (take u.count u.types)
