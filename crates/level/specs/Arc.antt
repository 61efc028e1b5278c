-- What each arc power command asks of the level (part 102, 11.3).
use Rattle.std.specs.Prelude.{ℕ, ◌+◌, ◌-◌, min, max, eqb, leb, ltb}
use Rattle.level.specs.declared.arc.ArcCommand.{ArcCommand}
use Rattle.level.specs.declared.arc.ArcCommand.TheVariants.{DirectArcPower, Off, Up, Down, StepUp, StepDown, RecallMaxLevel, RecallMinLevel, StepDownAndOff, OnAndStepUp, GoToLastActiveLevel}
use Rattle.level.specs.declared.levels.Levels.{Levels}
use Rattle.level.specs.Levels.{set_level}
use Rattle.numbers.specs.Numbers.{pick}

-- up, stopping at 255, and only from a level above 0
unfoldable pub level_up : Levels → ℕ → Levels
level_up l delta = pick (ltb 0 l.level) (set_level l (min (l.level + delta) 255)) l

-- down to min, and only from a level above 0
unfoldable pub level_down : Levels → ℕ → Levels
level_down l delta = pick (ltb 0 l.level) (set_level l (max (l.level - delta) l.min)) l

unfoldable pub step_down_and_off : Levels → Levels
step_down_and_off l = set_level l (pick (leb l.level l.min) 0 (l.level - 1))

unfoldable pub on_and_step_up : Levels → Levels
on_and_step_up l = set_level l (pick (eqb l.level 0) l.min (min (l.level + 1) 255))

-- 255 asks for no level
unfoldable pub arc_power : Levels → ℕ → Levels
arc_power l v = pick (eqb v 255) l (set_level l v)

unfoldable pub arc_levels : Levels → ArcCommand → Levels
arc_levels l (DirectArcPower v) = arc_power l v
arc_levels l Off = set_level l 0
arc_levels l Up = level_up l 8
arc_levels l Down = level_down l 8
arc_levels l StepUp = level_up l 1
arc_levels l StepDown = level_down l 1
arc_levels l RecallMaxLevel = set_level l l.max
arc_levels l RecallMinLevel = set_level l l.min
arc_levels l StepDownAndOff = step_down_and_off l
arc_levels l OnAndStepUp = on_and_step_up l
arc_levels l GoToLastActiveLevel = set_level l l.last
