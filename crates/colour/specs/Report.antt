-- Reports (part 209, 9.12.6 and 11.3.2).
use Rattle.colour.specs.declared.record.Colour.{Colour}
use Rattle.colour.specs.declared.setting.ColourSetting.{ColourSetting}
use Rattle.colour.specs.Tint.{captured}

unfoldable pub report_from : Colour → ColourSetting → Colour
report_from c s =
    record {
      can = c.can;
      limits = c.limits;
      active = c.active;
      outside = c.outside;
      pending = c.pending;
      report = s;
      features = c.features;
    }

unfoldable pub report_from_actual : Colour → Colour
report_from_actual c = report_from c (captured c.active)
