-- The colour record: fresh, reset and at power-up (part 209, table 8), and when it is fit (document 01).
use Rattle.std.specs.Prelude.{ℕ, Bool, false, leb, replicate}
use Rattle.colour.specs.declared.record.Capabilities.{Capabilities}
use Rattle.colour.specs.declared.record.Colour.{Colour}
use Rattle.colour.specs.Limits.{range, limits_fit}
use Rattle.numbers.specs.Numbers.{both}
use Rattle.colour.specs.Setting.{mask}
use Rattle.colour.specs.Tint.{dark, unstaged, lies_within}

unfoldable pub fresh : Capabilities → ℕ → ℕ → Colour
fresh can coolest warmest =
    record {
      can = can;
      limits = record { stored = range coolest warmest; physical = range coolest warmest };
      active = dark 0x3F;
      outside = false;
      pending = dark 0xFF;
      report = mask;
      features = 1;
    }

-- the active colour and its mark stay; the rest is fresh, over the physical limits as they are now
unfoldable pub reset : Colour → Colour
reset c =
    record {
      can = c.can;
      limits = record { stored = c.limits.physical; physical = c.limits.physical };
      active = c.active;
      outside = c.outside;
      pending = dark 0xFF;
      report = mask;
      features = 1;
    }

-- the channels dark and all linked; nothing staged, though its coordinates and temperature stay behind
unfoldable pub power_up : Colour → Colour
power_up c =
    record {
      can = c.can;
      limits = c.limits;
      active =
          record {
            mode = c.active.mode;
            x = c.active.x;
            y = c.active.y;
            tc = c.active.tc;
            levels = replicate 6 0;
            control = 0x3F;
          };
      outside = c.outside;
      pending =
          record {
            mode = (unstaged c.pending).mode;
            x = c.pending.x;
            y = c.pending.y;
            tc = c.pending.tc;
            levels = replicate 6 0;
            control = 0xFF;
          };
      report = mask;
      features = 1;
    }

unfoldable pub with_features : Colour → ℕ → Colour
with_features c f =
    record {
      can = c.can;
      limits = c.limits;
      active = c.active;
      outside = c.outside;
      pending = c.pending;
      report = c.report;
      features = f;
    }

-- at most six channels, limits in order, and an active colour temperature within them
unfoldable pub fitb : Colour → Bool
fitb c = both (leb c.can.channels 6) (both (limits_fit c.limits) (lies_within c.active c.limits))
