-- The kinds of steps, and what a step of each does.
use Rattle.std.specs.Prelude.{ℕ, not, eqb, Option, Some, None}
use Rattle.calls.specs.Colours.{activate_call, color_value_call, copy_report_call, set_features_call, stage_call, store_tc_limit_call, tc_step_call}
use Rattle.calls.specs.Memory.{memory_location_call, write_memory_call}
use Rattle.calls.specs.Power.{power_cycle_call}
use Rattle.gear.specs.Answer.{refused, unchanged}
use Rattle.gear.specs.declared.answer.Outcome.{Outcome}
use Rattle.gear.specs.declared.answer.Refusal.TheVariants.{Byte}
use Rattle.gear.specs.declared.record.Gear.{Gear}
use Rattle.gear.specs.Serve.{serve}
use Rattle.gear.specs.Write.{apply_standard_write, direct_arc_power}
use Rattle.numbers.specs.Numbers.{pick}
use Rattle.query.specs.Reply.{gear_query_reply}
use Rattle.step.specs.declared.kind.Step.{Step}
use Rattle.step.specs.declared.kind.Step.TheVariants.{DirectArcPower, Write, Query, ReadMemory, WriteMemory, ColourValue, StoreTcLimit, TcStep, StageTc, Activate, PowerCycle, CopyReport, SetFeatures}
use Rattle.step.specs.Step.{pair, temperature}

-- document 01's table, 'Session file and runner': the kind, and what its bytes a, b and c say
unfoldable pub step_of : ℕ → ℕ → ℕ → ℕ → Option Step
step_of kind a b c =
    pick (eqb kind 0) (Some (DirectArcPower a))
    (pick (eqb kind 1) (Some (Write a b))
    (pick (eqb kind 2) (Some (Query a))
    (pick (eqb kind 3) (Some (ReadMemory a b))
    (pick (eqb kind 4) (Some (WriteMemory a b c))
    (pick (eqb kind 5) (Some (ColourValue a))
    (pick (eqb kind 6) (Some (StoreTcLimit a (pair b c)))
    (pick (eqb kind 7) (Some (TcStep (not (eqb a 0))))
    (pick (eqb kind 8) (Some (StageTc (pair b c)))
    (pick (eqb kind 9) (Some Activate)
    (pick (eqb kind 10) (Some PowerCycle)
    (pick (eqb kind 11) (Some CopyReport)
    (pick (eqb kind 12) (Some (SetFeatures a)) None))))))))))))

-- one that is none is refusal 3
unfoldable pub taken : Gear → Option Step → Outcome
taken g (Some (DirectArcPower level)) = direct_arc_power g level
taken g (Some (Write byte dtr0)) = apply_standard_write g byte dtr0
taken g (Some (Query byte)) = gear_query_reply g byte
taken g (Some (ReadMemory bank offset)) = unchanged g (memory_location_call g bank offset)
taken g (Some (WriteMemory bank offset value)) = write_memory_call g bank offset value
taken g (Some (ColourValue id)) = unchanged g (color_value_call g id)
taken g (Some (StoreTcLimit selector value)) = store_tc_limit_call g value selector
taken g (Some (TcStep warmer)) = tc_step_call g warmer
taken g (Some (StageTc tc)) = stage_call g (temperature tc)
taken g (Some Activate) = activate_call g
taken g (Some PowerCycle) = power_cycle_call g
taken g (Some CopyReport) = copy_report_call g
taken g (Some (SetFeatures features)) = set_features_call g features
taken g None = serve g (refused g Byte)
