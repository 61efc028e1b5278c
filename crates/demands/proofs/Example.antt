-- Document 01's example by computation, and the runner that performs only step 1, caught on it.
use Prim.Native.Nat.{ℕ}
use mathlib.Core.Path.{◌≡◌, refl, ◌∙◌, ap}
use mathlib.Core.List.{List}
use lib.ListN.{get_or}
use native.Mathlib.Omega.{arith}
use Rattle.demands.specs.Calls.{perform}
use Rattle.demands.specs.Example.{file, lines}
use Rattle.demands.specs.Sessions.{StepByStep, first_performed, only_printed, only_step_one, perform_step, steps_in}
use Rattle.demands.proofs.StepByStep.{one_outcome, rules_step_by_step}
use Rattle.calls.specs.Power.{power_cycle, power_cycle_call}
use Rattle.colour.specs.Activation.{activate, activated, arc_power, automatic}
use Rattle.colour.specs.Limits.{effective_coolest, effective_warmest, limits_fit}
use Rattle.colour.specs.Record.{fitb as colour_fit, fresh}
use Rattle.colour.specs.Report.{report_from, report_from_actual}
use Rattle.colour.specs.Tint.{lies_within}
use Rattle.file.specs.File.{checked, profile_of, steps_of, types_of, well_formed}
use Rattle.file.specs.Profile.{padded, profile_from, profile_in, short_of, unit_from}
use Rattle.gear.specs.Command.{command_of, config_command}
use Rattle.gear.specs.Marks.{asked, configured, walk_fit}
use Rattle.gear.specs.Profile.{accepted, floor, is_type, short_fit, unit_fit}
use Rattle.gear.specs.Record.{fitb, fresh_gear, new_gear}
use Rattle.gear.specs.Serve.{serve}
use Rattle.gear.specs.Types.{has_type, member}
use Rattle.gear.specs.Write.{apply_standard_write, arc_write, config_write, direct_arc_power, write}
use Rattle.level.specs.Arc.{arc_levels, arc_power as arc_level}
use Rattle.level.specs.Levels.{held, levels_fit, power_up as power_up_levels, readjust, readjusts, set_level, set_max_level as max_levels}
use Rattle.query.specs.Bits.{weight}
use Rattle.query.specs.Lamp.{actual_level, lamp_failure_from207, lamp_on, overheated, shows_level, thermal_shut_down}
use Rattle.query.specs.Reply.{gear_query_reply, heard_query, is_query, is_setting_query, is_status_query, query, reply, report_for, reported, setting_reply, status_reply}
use Rattle.query.specs.Status.{lamp_failing, missing, status_byte}
use Rattle.runner.specs.Line.{answer_text, digits, end_text, line_text, number_text}
use Rattle.runner.specs.Run.{lines_of, performed, printed, state_after, text_after}
use Rattle.step.specs.Step.{colour_step, step as step_rule}

pub example : printed file ≡ lines
unfolding accepted activate activated actual_level answer_text apply_standard_write arc_level arc_levels arc_power arc_write asked automatic checked colour_fit colour_step command_of config_command config_write configured digits direct_arc_power effective_coolest effective_warmest end_text fitb floor fresh fresh_gear gear_query_reply has_type heard_query held is_query is_setting_query is_status_query is_type lamp_failing lamp_failure_from207 lamp_on levels_fit lies_within limits_fit line_text lines_of max_levels member missing new_gear number_text overheated padded performed power_cycle power_cycle_call power_up_levels profile_from profile_in profile_of query readjust reply report_for report_from report_from_actual reported serve set_level setting_reply short_fit short_of shows_level state_after status_byte status_reply step_rule steps_of text_after thermal_shut_down types_of unit_fit unit_from walk_fit weight well_formed write
example = refl

-- byte 10 is the first of the third answer: the arc power of step 2 is not performed, and so it is `0` and not `200`
third_answer : get_or (only_step_one file) 10 0 ≡ 48
unfolding accepted actual_level answer_text apply_standard_write checked colour_fit command_of config_command config_write configured digits direct_arc_power effective_coolest effective_warmest first_performed fitb floor fresh fresh_gear gear_query_reply has_type is_query is_setting_query is_type levels_fit lies_within limits_fit line_text max_levels member new_gear number_text only_printed only_step_one overheated padded perform perform_step profile_from profile_in profile_of query readjust readjusts reply serve setting_reply short_fit short_of shows_level steps_in steps_of types_of unit_fit unit_from walk_fit well_formed write
third_answer = refl

pub only_step_one_caught : StepByStep only_step_one → ⊥
only_step_one_caught h =
    let same : only_step_one file ≡ lines = one_outcome only_step_one printed h rules_step_by_step file ∙ example in
    let third : get_or (only_step_one file) 10 0 ≡ 50 = ap (λ (text : List ℕ). get_or text 10 0) same in
    omega (arith, third_answer)
