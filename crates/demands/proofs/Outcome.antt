-- The one law behind every outcome: an equation determines its left side.
use mathlib.Core.Path.{◌≡◌, sym, ◌∙◌}

pub determined : {R : Type 0} {x y z : R} → x ≡ z → y ≡ z → x ≡ y
determined p q = p ∙ sym q
