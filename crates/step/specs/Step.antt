-- One step of a session (document 01, 'Session file and runner').
use Rattle.std.specs.Prelude.{ℕ, ◌+◌, ◌*◌, not, eqb, replicate}
use Rattle.calls.specs.Colours.{activate_call, color_value_call, copy_report_call, set_features_call, stage_call, store_tc_limit_call, tc_step_call}
use Rattle.calls.specs.Memory.{memory_location_call, write_memory_call}
use Rattle.calls.specs.Power.{power_cycle_call}
use Rattle.colour.specs.declared.setting.ColourSetting.{ColourSetting}
use Rattle.gear.specs.Answer.{refused, unchanged}
use Rattle.gear.specs.declared.answer.Outcome.{Outcome}
use Rattle.gear.specs.declared.answer.Refusal.TheVariants.{Byte}
use Rattle.gear.specs.declared.record.Gear.{Gear}
use Rattle.gear.specs.Serve.{serve}
use Rattle.gear.specs.Write.{apply_standard_write, direct_arc_power}
use Rattle.numbers.specs.Numbers.{pick}
use Rattle.query.specs.Reply.{gear_query_reply}

-- high byte first
abbrev pub pair : ℕ → ℕ → ℕ
pair high low = high * 256 + low

-- a colour temperature to be staged; the other numbers of such a setting are not looked at
unfoldable pub temperature : ℕ → ColourSetting
temperature tc = record { kind = 0x20; x = 0xFFFF; y = 0xFFFF; tc = tc; levels = replicate 6 0xFF; control = 0xFF }

-- 6 Tc limit by selector a, 7 Tc step, cooler if a is 0, 8 stage Tc, 9 activate, 10 power cycle, 11 copy report, 12 gear features;
-- a kind above is refusal 3
unfoldable pub colour_step : Gear → ℕ → ℕ → ℕ → Outcome
colour_step g kind a value =
    pick (eqb kind 6) (store_tc_limit_call g value a)
    (pick (eqb kind 7) (tc_step_call g (not (eqb a 0)))
    (pick (eqb kind 8) (stage_call g (temperature value))
    (pick (eqb kind 9) (activate_call g)
    (pick (eqb kind 10) (power_cycle_call g)
    (pick (eqb kind 11) (copy_report_call g)
    (pick (eqb kind 12) (set_features_call g a) (serve g (refused g Byte))))))))

-- 0 arc power a, 1 write a with DTR0 b, 2 query a, 3 read bank a offset b, 4 write bank a offset b value c, 5 colour value a
unfoldable pub step : Gear → ℕ → ℕ → ℕ → ℕ → Outcome
step g kind a b c =
    pick (eqb kind 0) (direct_arc_power g a)
    (pick (eqb kind 1) (apply_standard_write g a b)
    (pick (eqb kind 2) (gear_query_reply g a)
    (pick (eqb kind 3) (unchanged g (memory_location_call g a b))
    (pick (eqb kind 4) (write_memory_call g a b c)
    (pick (eqb kind 5) (unchanged g (color_value_call g a)) (colour_step g kind a (pair b c)))))))
