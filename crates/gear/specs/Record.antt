-- The record of a gear: fresh, fit and reset.
use Rattle.std.specs.Prelude.{Bool, replicate}
use Rattle.gear.specs.declared.answer.Outcome.{Outcome}
use Rattle.gear.specs.declared.answer.Refusal.TheVariants.{Profile as ProfileRefused}
use Rattle.gear.specs.declared.condition.Condition.{Condition}
use Rattle.gear.specs.declared.profile.Profile.{Profile}
use Rattle.gear.specs.declared.profile.Unit.{Unit}
use Rattle.gear.specs.declared.record.Gear.{Gear}
use Rattle.gear.specs.Answer.{done, refused}
use Rattle.gear.specs.Condition.{fresh_condition, reset_condition}
use Rattle.gear.specs.Marks.{fresh_marks, reset_marks, walk_fit}
use Rattle.gear.specs.Profile.{floor, unit_fit, accepted, no_profile}
use Rattle.gear.specs.Settings.{factory_settings, unset}
use Rattle.bank.specs.Build.{build}
use Rattle.colour.specs.declared.record.Colour.{Colour}
use Rattle.colour.specs.Record.{fresh as fresh_colour, reset as reset_colour, fitb as colour_fit}
use Rattle.level.specs.Levels.{fresh as fresh_levels, levels_fit}
use Rattle.numbers.specs.Numbers.{both, pick}

-- the fresh gear of a profile, accepted or not
unfoldable pub fresh_gear : Profile → Gear
fresh_gear p =
    record {
      unit = p.unit;
      levels = fresh_levels p.unit.minimum;
      marks = fresh_marks;
      colour = fresh_colour p.can p.physical.coolest p.physical.warmest;
      settings = factory_settings p.unit p.can;
      scenes = replicate 16 unset;
      condition = fresh_condition;
      banks = build p.unit.random;
    }

-- refusal 1 comes with a record that no call accepts
unfoldable pub new_gear : Profile → Outcome
new_gear p = pick (accepted p) (done (fresh_gear p)) (refused (fresh_gear no_profile) ProfileRefused)

-- document 01's fit record
unfoldable pub fitb : Gear → Bool
fitb g =
    both (unit_fit 16 g.unit)
    (both (levels_fit (floor g.unit) g.levels) (both (colour_fit g.colour) (walk_fit g.marks.walk)))

-- profile, enabled, faults and the active colour stay; both banks are rebuilt; no power cycle is seen
unfoldable pub reset_gear : Unit → Condition → Colour → Gear
reset_gear u k c =
    record {
      unit = u;
      levels = fresh_levels u.minimum;
      marks = reset_marks;
      colour = reset_colour c;
      settings = factory_settings u c.can;
      scenes = replicate 16 unset;
      condition = reset_condition k;
      banks = build u.random;
    }
