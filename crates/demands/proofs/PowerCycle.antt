-- The power cycle of a LED gear whose highest level was set to 200 puts it at 254, its power-on level (document 01's session).
use Prim.Native.Nat.{ℕ, ◌≤◌}
use mathlib.Core.Path.{◌≡◌, refl}
use mathlib.Core.List.{[], ◌∷◌}
use mathlib.Core.Logic.{◌⊎◌, inl, inr}
use native.Mathlib.Omega.{arith}
use Rattle.demands.specs.Calls.{perform}
use Rattle.demands.specs.Kept.{PowerCycleBreaks}
use Rattle.demands.specs.Readings.{start_of}
use Rattle.demands.specs.Table.{led, set_max_level}
use Rattle.demands.proofs.Fit.{fit_exactly}
use Rattle.calls.specs.Power.{power_cycle, power_cycle_call}
use Rattle.colour.specs.Limits.{effective_coolest, effective_warmest, limits_fit}
use Rattle.colour.specs.Record.{fitb as colour_fit, fresh}
use Rattle.colour.specs.Setting.{factory}
use Rattle.colour.specs.Tint.{lies_within}
use Rattle.gear.specs.Command.{level_command, config_command, command_of}
use Rattle.gear.specs.Marks.{configured, walk_fit}
use Rattle.gear.specs.Profile.{accepted, fixed, floor, is_type, short_fit, unit_fit}
use Rattle.gear.specs.Record.{fitb, fresh_gear, new_gear}
use Rattle.gear.specs.Serve.{serve, tell}
use Rattle.gear.specs.Types.{has_type, member}
use Rattle.gear.specs.Write.{apply_standard_write, config_write, write}
use Rattle.level.specs.Levels.{levels_fit, readjust, readjusts, set_max_level as max_levels, power_up}

out : (◌≡◌ {A = ℕ} 254 0) ⊎ ((1 ≤ 254) × (254 ≤ 200)) → ⊥
out (inl e) = omega arith
out (inr (low, high)) = omega arith

pub power_cycle_breaks : PowerCycleBreaks perform
unfolding perform accepted apply_standard_write colour_fit command_of config_command config_write configured effective_coolest effective_warmest factory fitb fixed floor fresh fresh_gear has_type is_type level_command levels_fit lies_within limits_fit max_levels member new_gear power_cycle power_cycle_call power_up readjust readjusts serve short_fit tell unit_fit walk_fit write
power_cycle_breaks =
    record {
      gear = start_of perform led (set_max_level 200 ∷ []);
      fit = (fit_exactly _).1 refl;
      bounded = inl refl;
      broken = out;
    }
