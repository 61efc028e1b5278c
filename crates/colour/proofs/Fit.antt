-- What a fit colour record says of its numbers, and the other way round.
use Prim.Native.Nat.{◌≤◌, ◌<◌}
use mathlib.Core.Path.{◌≡◌}
use mathlib.Core.Bool.{true}
use lib.Dec.{leb, ltb}
use borrow.Author.Tests.{le-leb, lt-ltb, leb-true, ltb-true}
use Rattle.colour.specs.declared.limits.Limits.{Limits}
use Rattle.colour.specs.declared.record.Colour.{Colour}
use Rattle.colour.specs.Limits.{effective_coolest, effective_warmest, limits_fit}
use Rattle.numbers.specs.Numbers.{both}
use Rattle.colour.specs.Record.{fitb}
use Rattle.colour.specs.Tint.{lies_within}
use Rattle.numbers.proofs.Logic.{both_true, both_left, both_right, both_three}

-- the limits in order, within the physical pair, and no physical limit 65,535
pub record Ordered (l : Limits) : Type 0 where
  pub cool : l.physical.coolest ≤ effective_coolest l
  pub order : effective_coolest l ≤ effective_warmest l
  pub warm : effective_warmest l ≤ l.physical.warmest
  pub below : l.physical.warmest < 65535

pub record Fit (c : Colour) : Type 0 where
  pub channels : c.can.channels ≤ 6
  pub limits : Ordered c.limits
  pub active : lies_within c.active c.limits ≡ true

pub ordered : (l : Limits) → limits_fit l ≡ true → Ordered l
unfolding limits_fit
ordered l e =
    let warm = leb (effective_warmest l) l.physical.warmest in
    let below = ltb l.physical.warmest 65535 in
    let t = both_three (leb l.physical.coolest (effective_coolest l)) (leb (effective_coolest l) (effective_warmest l)) (both warm below) e in
    record {
      cool = leb-true _ _ t.0;
      order = leb-true _ _ t.1;
      warm = leb-true (effective_warmest l) l.physical.warmest (both_left warm below t.2);
      below = ltb-true l.physical.warmest 65535 (both_right warm below t.2);
    }

pub limits_fit_lem : {l : Limits} → Ordered l → limits_fit l ≡ true
unfolding limits_fit
limits_fit_lem {l} o =
    both_true (le-leb l.physical.coolest (effective_coolest l) o.cool)
    (both_true (le-leb (effective_coolest l) (effective_warmest l) o.order)
    (both_true (le-leb (effective_warmest l) l.physical.warmest o.warm) (lt-ltb l.physical.warmest 65535 o.below)))

pub facts : (c : Colour) → fitb c ≡ true → Fit c
unfolding fitb
facts c e =
    let t = both_three (leb c.can.channels 6) (limits_fit c.limits) (lies_within c.active c.limits) e in
    record { channels = leb-true c.can.channels 6 t.0; limits = ordered c.limits t.1; active = t.2 }

pub fit : {c : Colour} → Fit c → fitb c ≡ true
unfolding fitb
fit {c} f = both_true (le-leb c.can.channels 6 f.channels) (both_true (limits_fit_lem f.limits) f.active)
