-- Steps of the active colour, and the limit store with its snap (part 209, 9.13 and 11.3.4).
use Rattle.std.specs.Prelude.{ℕ, ◌+◌, ◌-◌, min, max, Bool, true, false, not, eqb, leb}
use Rattle.colour.specs.declared.limits.Limits.{Limits}
use Rattle.colour.specs.declared.record.Colour.{Colour}
use Rattle.colour.specs.declared.tint.Tint.{Tint}
use Rattle.colour.specs.Activation.{within}
use Rattle.colour.specs.Limits.{effective_coolest, effective_warmest, store_limit}
use Rattle.numbers.specs.Numbers.{pick}
use Rattle.colour.specs.Tint.{is_cct, is_xy}

-- limits, active colour and mark put back at once
abbrev pub with_active : Colour → Limits → Tint → Bool → Colour
with_active c l a o =
    record {
      can = c.can;
      limits = l;
      active = a;
      outside = o;
      pending = c.pending;
      report = c.report;
      features = c.features;
    }

abbrev pub with_tc : Tint → ℕ → Tint
with_tc a tc = record { mode = a.mode; x = a.x; y = a.y; tc = tc; levels = a.levels; control = a.control }

abbrev pub with_xy : Tint → ℕ → ℕ → Tint
with_xy a x y = record { mode = a.mode; x = x; y = y; tc = a.tc; levels = a.levels; control = a.control }

-- one mirek; warmer ends at the warmest, cooler at the coolest
unfoldable pub stepped_tc : ℕ → Limits → Bool → ℕ
stepped_tc tc l warmer = pick warmer (min (min (tc + 1) 65535) (effective_warmest l)) (max (tc - 1) (effective_coolest l))

unfoldable pub tc_step : Colour → Bool → Colour
tc_step c warmer =
    with_active c c.limits
    (with_tc c.active (pick (is_cct c.active.mode) (stepped_tc c.active.tc c.limits warmer) c.active.tc))
    (pick (is_cct c.active.mode) false c.outside)

-- 256 along the axis, from 0 to 65,534
unfoldable pub stepped_xy : ℕ → Bool → ℕ
stepped_xy at up = pick up (min (at + 256) 65534) (at - 256)

unfoldable pub moved : Tint → Bool → Bool → Tint
moved a y up = with_xy a (pick y a.x (stepped_xy a.x up)) (pick y (stepped_xy a.y up) a.y)

unfoldable pub xy_step : Colour → Bool → Bool → Colour
xy_step c y up = with_active c c.limits (pick (is_xy c.active.mode) (moved c.active y up) c.active) c.outside

-- a new limit moves an active colour temperature that lies beyond it
unfoldable pub snaps : Tint → Limits → Bool
snaps a l = pick (is_cct a.mode) (not (eqb (within a.tc l) a.tc)) false

unfoldable pub snapped : Tint → Limits → Tint
snapped a l = with_tc a (pick (is_cct a.mode) (within a.tc l) a.tc)

-- the limit that the selector names, then the snap; above 3 nothing changes, a colour temperature beyond the limits neither
unfoldable pub store_tc_limit : Colour → ℕ → ℕ → Colour
store_tc_limit c v s =
    pick (leb s 3)
    (with_active c (store_limit c.limits v s) (snapped c.active (store_limit c.limits v s))
    (pick (snaps c.active (store_limit c.limits v s)) true c.outside))
    c
