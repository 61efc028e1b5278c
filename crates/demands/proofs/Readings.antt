-- P1 to P13, by computation.
use mathlib.Core.Path.{◌≡◌, refl, sym, ◌∙◌, ap}
use mathlib.Core.Bool.{Bool, true, false}
use lib.Dec.{eqb}
use Rattle.demands.specs.Calls.{perform}
use Rattle.demands.specs.Table.{Readings}
use Rattle.bank.specs.Build.{build, build_bank0, build_bank1}
use Rattle.bank.specs.Memory.{identity_location, lacks_indicator_byte, memory_location, profile_location, profile_writable, store_profile, stored as stored_bank, writable, write_memory_location}
use Rattle.calls.specs.Colours.{activate_call, color_value_call, colour_status_call, recoloured, set_features_call, stage_call, store_tc_limit_call}
use Rattle.calls.specs.Memory.{memory_location_call, rebanked, write_memory_call}
use Rattle.colour.specs.Activation.{activate, activated, arc_power, automatic, recall, strays, unlinked}
use Rattle.colour.specs.Limits.{effective_coolest, effective_warmest, limits_fit, store_coolest, store_warmest, store_limit}
use Rattle.colour.specs.Record.{fitb as colour_fit, fresh, with_features}
use Rattle.colour.specs.Setting.{factory}
use Rattle.colour.specs.Staging.{load, load_temporaries_from, take_staged_colour}
use Rattle.colour.specs.Steps.{snaps, snapped, store_tc_limit}
use Rattle.colour.specs.Tint.{captured, face, lies_within}
use Rattle.colour.specs.Kinds.{kind_of}
use Rattle.colour.specs.Value.{color_value, colour_status}
use Rattle.gear.specs.Answer.{flag, location_answer, value_answer}
use Rattle.gear.specs.Command.{level_command, config_command, command_of}
use Rattle.gear.specs.Marks.{asked, configured, walk_fit}
use Rattle.gear.specs.Profile.{accepted, fixed, floor, is_type, short_fit, unit_fit}
use Rattle.gear.specs.Record.{fitb, fresh_gear, new_gear}
use Rattle.gear.specs.Scene.{scene_at, stored}
use Rattle.gear.specs.Serve.{serve, tell}
use Rattle.gear.specs.Settings.{store_level_setting}
use Rattle.gear.specs.Types.{has_type, member}
use Rattle.gear.specs.Write.{apply_standard_write, arc_write, config_write, direct_arc_power, keeps_identify, recalled_levels, recall_scene, scene, set_min, set_scene as store_scene, write}
use Rattle.level.specs.Arc.{arc_levels, arc_power as arc_level, level_down, level_up, step_down_and_off as off_levels}
use Rattle.level.specs.Levels.{held, levels_fit, readjust, readjusts, set_level, set_max_level as max_levels, set_min_level as min_levels}
use Rattle.query.specs.Lamp.{actual_level, overheated, shows_level}
use Rattle.query.specs.Reply.{gear_query_reply, heard_query, is_query, is_setting_query, is_status_query, query, reply, reported, setting_reply, status_reply, yes}
use Rattle.query.specs.Walk.{device_type, next, next_at, next_device_type, type_at}
use Rattle.step.specs.Step.{temperature}
use Rattle.gear.specs.declared.record.Gear.{Gear}
use Rattle.numbers.proofs.Logic.{no_false}

-- a fact and the facts behind it
infixr 30 ◌&◌
◌&◌ : {A B : Type 0} → A → B → A × B
◌&◌ a b = (a, b)

-- what a test tells apart is not the same
apart : {A : Type 0} {x y : A} (test : A → Bool) → test x ≡ true → test y ≡ false → x ≡ y → ⊥
apart test p q e = no_false (sym q ∙ ap test (sym e) ∙ p)

pub readings : Readings perform
unfolding perform accepted activate activate_call activated actual_level apply_standard_write arc_level arc_levels arc_power arc_write asked automatic build build_bank0 build_bank1 captured color_value color_value_call colour_fit colour_status colour_status_call command_of config_command config_write configured device_type direct_arc_power effective_coolest effective_warmest face factory fitb fixed flag floor fresh fresh_gear gear_query_reply has_type heard_query held identity_location is_query is_setting_query is_status_query is_type keeps_identify kind_of lacks_indicator_byte level_command level_down level_up levels_fit lies_within limits_fit load load_temporaries_from location_answer max_levels member memory_location memory_location_call min_levels new_gear next next_at next_device_type off_levels overheated profile_location profile_writable query readjust readjusts rebanked recall recall_scene recalled_levels recoloured reply reported scene_at serve set_features_call set_level setting_reply set_min short_fit shows_level snapped snaps stage_call status_reply store_coolest store_level_setting store_limit store_profile store_scene store_tc_limit store_tc_limit_call store_warmest stored stored_bank strays take_staged_colour tell temperature type_at unit_fit unlinked value_answer walk_fit with_features writable write write_memory_call write_memory_location yes
readings =
    (tt & refl & refl & refl & tt) &
    ((refl & refl & refl & tt) & refl & refl & refl & refl & refl & tt) &
    ((refl & refl & refl & tt) & refl & refl & refl & tt) &
    ((refl & refl & tt) & refl & refl & tt) &
    ((refl & refl & tt) & refl & refl & tt) &
    ((refl & tt) & refl & refl & tt) &
    (((refl, refl) & (refl, refl) & tt) & refl & refl & (refl, refl) & tt) &
    (((refl, refl) & (refl, refl) & tt) & refl & refl & (refl, refl) & tt) &
    (((refl, refl) & (refl, refl) & tt) & refl & (refl, refl) & tt) &
    (((refl, refl) & tt) & refl & (refl, refl) & (refl, refl) & tt) &
    (tt & refl & refl & refl & refl & refl & refl & tt) &
    (tt & refl & refl & refl & refl & refl & refl & tt) &
    (tt & refl & refl & refl & refl & tt) &
    (tt & refl & refl & refl & tt) &
    (tt & refl & refl & refl & refl & refl & tt) &
    (((refl, refl) & tt) & apart (λ (g : Gear). eqb (scene g 0).colour.tc 300) refl refl) &
    ((refl & (refl, refl) & tt) & apart (λ (g : Gear). eqb (scene g 1).colour.tc 300) refl refl) &
    ((refl & tt) & apart (λ (g : Gear). eqb g.levels.level 20) refl refl) &
    tt
