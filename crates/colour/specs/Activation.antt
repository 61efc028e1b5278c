-- Activating the staged colour (part 209, 9.12.5).
use Rattle.std.specs.Prelude.{ℕ, ◌*◌, ◌/◌, ◌%◌, Bool, true, false, not, eqb}
use Rattle.colour.specs.declared.limits.Limits.{Limits}
use Rattle.colour.specs.declared.record.Colour.{Colour}
use Rattle.colour.specs.declared.setting.ColourSetting.{ColourSetting}
use Rattle.colour.specs.declared.tint.Tint.{Tint}
use Rattle.colour.specs.declared.tint.ColorMode.TheVariants.{Cct, Xy, Rgb}
use Rattle.colour.specs.Limits.{effective_coolest, effective_warmest}
use Rattle.numbers.specs.Numbers.{pick, clamp_to}
use Rattle.colour.specs.Staging.{load_temporaries_from}
use Rattle.colour.specs.Tint.{by_mode, is_cct, is_lit, unstaged}

-- the control without its six channel bits
unfoldable pub unlinked : ℕ → ℕ
unlinked control = control / 64 * 64

-- the staged control, unless it says 'no change'
unfoldable pub chosen : ℕ → ℕ → ℕ
chosen control staged = pick (eqb staged 0xFF) control staged

-- a colour temperature within the effective limits
abbrev pub within : ℕ → Limits → ℕ
within tc l = clamp_to tc (effective_coolest l) (effective_warmest l)

-- xy and Tc unlink the channels; Tc is clamped to the limits as they are now
unfoldable pub activated : Tint → Tint → Limits → Tint
activated a p l =
    record {
      mode = by_mode p.mode a.mode Xy Cct Rgb;
      x = by_mode p.mode a.x p.x a.x a.x;
      y = by_mode p.mode a.y p.y a.y a.y;
      tc = by_mode p.mode a.tc a.tc (within p.tc l) a.tc;
      levels = by_mode p.mode a.levels a.levels a.levels p.levels;
      control =
          by_mode p.mode a.control (unlinked a.control) (unlinked a.control) (chosen a.control p.control);
    }

-- the mark follows a staged colour temperature alone: set where it was clamped
unfoldable pub strays : Bool → Tint → Limits → Bool
strays outside p l = pick (is_cct p.mode) (not (eqb (within p.tc l) p.tc)) outside

unfoldable pub activate : Colour → Colour
activate c =
    record {
      can = c.can;
      limits = c.limits;
      active = activated c.active c.pending c.limits;
      outside = strays c.outside c.pending c.limits;
      pending = unstaged c.pending;
      report = c.report;
      features = c.features;
    }

-- bit 0 of the gear features
unfoldable pub automatic : Colour → Bool
automatic c = eqb (c.features % 2) 1

-- arc power changes nothing: it does not activate, or no mode is staged and the staged control is masked already
unfoldable pub is_idle : Colour → Bool
is_idle c = pick (automatic c) (pick (is_lit c.pending.mode) false (eqb c.pending.control 0xFF)) true

unfoldable pub arc_power : Colour → Colour
arc_power c = pick (automatic c) (activate c) c

-- a scene without a colour leaves what is staged
unfoldable pub recall : Colour → ColourSetting → Colour
recall c s = pick (eqb s.kind 0xFF) c (arc_power (load_temporaries_from c s))
