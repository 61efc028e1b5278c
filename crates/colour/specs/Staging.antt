-- Staging a colour and taking it away (part 209, 9.12.4 and table 6).
use Rattle.std.specs.Prelude.{ℕ, eqb}
use Rattle.colour.specs.declared.record.Colour.{Colour}
use Rattle.colour.specs.declared.setting.ColourSetting.{ColourSetting}
use Rattle.colour.specs.declared.staging.Taken.{Taken}
use Rattle.colour.specs.declared.tint.Tint.{Tint}
use Rattle.colour.specs.declared.tint.ColorMode.TheVariants.{None, Cct, Xy, Rgb}
use Rattle.numbers.specs.Numbers.{pick}
use Rattle.colour.specs.Tint.{captured, is_lit, unstaged}

abbrev pub with_pending : Colour → Tint → Colour
with_pending c p =
    record {
      can = c.can;
      limits = c.limits;
      active = c.active;
      outside = c.outside;
      pending = p;
      report = c.report;
      features = c.features;
    }

-- a value for each type byte: xy, Tc, RGBWAF, any other
abbrev pub by_type : {A : Type 0} → ℕ → A → A → A → A → A
by_type k x t r u = pick (eqb k 0x10) x (pick (eqb k 0x20) t (pick (eqb k 0x80) r u))

-- the setting's own numbers over those that were staged; the control is masked but for RGBWAF; an unknown type unstages
unfoldable pub load : Tint → ColourSetting → Tint
load p s =
    record {
      mode = by_type s.kind Xy Cct Rgb None;
      x = by_type s.kind s.x p.x p.x p.x;
      y = by_type s.kind s.y p.y p.y p.y;
      tc = by_type s.kind p.tc s.tc p.tc p.tc;
      levels = by_type s.kind p.levels p.levels s.levels p.levels;
      control = by_type s.kind 0xFF 0xFF s.control 0xFF;
    }

unfoldable pub load_temporaries_from : Colour → ColourSetting → Colour
load_temporaries_from c s = with_pending c (load c.pending s)

unfoldable pub copy_report : Colour → Colour
copy_report c = load_temporaries_from c c.report

-- the staged colour, or what was kept where none is staged; then nothing is staged
unfoldable pub take_staged_colour : Colour → ColourSetting → Taken
take_staged_colour c kept =
    record {
      setting = pick (is_lit c.pending.mode) (captured c.pending) kept;
      colour = with_pending c (pick (is_lit c.pending.mode) (unstaged c.pending) c.pending);
    }
