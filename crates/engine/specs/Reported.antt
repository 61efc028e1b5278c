-- The colour that a query reports, of a record and of the type list that is known apart from it.
use Rattle.std.specs.Prelude.{ℕ, ◌%◌}
use Rattle.colour.specs.declared.setting.ColourSetting.{ColourSetting}
use Rattle.colour.specs.Report.{report_from}
use Rattle.gear.specs.declared.profile.Unit.{Unit}
use Rattle.gear.specs.declared.record.Gear.{Gear}
use Rattle.gear.specs.Parts.{with_colour}
use Rattle.gear.specs.Write.{scene}
use Rattle.numbers.specs.Numbers.{pick}
use Rattle.query.specs.Heard.{reports, shown}

abbrev pub shown_by : Gear → ℕ → ColourSetting
shown_by g b = shown g.colour.active g.settings.on.colour g.settings.failure.colour (scene g (b % 16)).colour b

abbrev pub with_report : Gear → Unit → ℕ → Gear
with_report g u b = with_colour g (pick (reports u b) (report_from g.colour (shown_by g b)) g.colour)
