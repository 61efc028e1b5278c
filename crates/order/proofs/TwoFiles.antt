-- The example of specs/TwoFiles: it meets the premises, and so both files print these lines after the two writes.
use mathlib.Core.Path.{◌≡◌, refl}
use mathlib.Core.List.Permᴰ
use mathlib.Core.List.{[], ◌∷◌}
use Rattle.order.specs.Files.{SameAfter, Stand, TwoOrders, rest}
use Rattle.order.specs.Keys.{command_keys, config_keys, keys}
use Rattle.order.specs.TwoFiles.{arc, ask, fade, file, file_too, printed_after}
use Rattle.order.specs.Writes.Write.{ArcPower, Standard}
use Rattle.order.specs.Writes.{call_of}
use Rattle.order.proofs.Files.{files_in_any_order}
use Rattle.order.proofs.Test.{listed_sound}
use Rattle.colour.specs.Activation.{activate, activated, arc_power, automatic}
use Rattle.colour.specs.Limits.{effective_coolest, effective_warmest, limits_fit}
use Rattle.demands.proofs.Fit.{fit_exactly}
use Rattle.colour.specs.Record.{fitb as colour_fit, fresh}
use Rattle.colour.specs.Tint.{lies_within}
use Rattle.demands.specs.Calls.{perform as perform_call}
use Rattle.demands.specs.Sessions.{after_steps, bytes, lines_from, perform_step, text_from}
use Rattle.file.specs.File.{profile_of, steps_of, types_of, well_formed}
use Rattle.file.specs.Profile.{padded, profile_from, profile_in, short_of, unit_from}
use Rattle.gear.specs.Command.{command_of, config_command}
use Rattle.gear.specs.Marks.{asked, configured, walk_fit}
use Rattle.gear.specs.Profile.{accepted, floor, is_type, short_fit, unit_fit}
use Rattle.gear.specs.Record.{fitb, fresh_gear, new_gear}
use Rattle.gear.specs.Serve.{serve}
use Rattle.gear.specs.Types.{has_type, member}
use Rattle.gear.specs.Write.{apply_standard_write, arc_write, config_write, direct_arc_power, write}
use Rattle.level.specs.Arc.{arc_levels, arc_power as arc_level}
use Rattle.level.specs.Levels.{held, levels_fit, set_level}
use Rattle.query.specs.Lamp.{actual_level, overheated, shows_level}
use Rattle.query.specs.Reply.{gear_query_reply, heard_query, is_query, is_setting_query, query, reply, setting_reply}
use Rattle.runner.specs.Line.{answer_text, digits, end_text, line_text, number_text}
use Rattle.runner.specs.Run.{printed}

two_orders : TwoOrders file file_too [] (arc ∷ fade ∷ []) (fade ∷ arc ∷ []) (ask ∷ []) (ArcPower 100 ∷ Standard 46 5 ∷ [])
unfolding accepted after_steps automatic bytes call_of colour_fit command_keys command_of config_command config_keys effective_coolest effective_warmest fitb floor fresh fresh_gear has_type is_type keys levels_fit lies_within limits_fit member new_gear padded profile_from profile_in profile_of short_fit short_of steps_of types_of unit_fit unit_from walk_fit well_formed
two_orders =
    record {
      formed = refl;
      formed_too = refl;
      profile = refl;
      steps = refl;
      steps_too = refl;
      order = Permᴰ.swap refl refl;
      stand = Stand.more refl (Stand.more refl Stand.none);
      listed = listed_sound (ArcPower 100 ∷ Standard 46 5 ∷ []) refl;
      ready = record { fit = (fit_exactly _).1 refl; unstaged = refl; activates = refl };
    }

pub both_print : SameAfter printed file file_too [] (arc ∷ fade ∷ []) (fade ∷ arc ∷ []) (ask ∷ [])
both_print = files_in_any_order.rules _ _ _ _ _ _ _ two_orders

pub after_both : rest file [] (arc ∷ fade ∷ []) (ask ∷ []) ≡ printed_after
unfolding accepted activate activated actual_level after_steps answer_text apply_standard_write arc_level arc_levels arc_power arc_write asked automatic colour_fit command_of config_command config_write configured digits direct_arc_power effective_coolest effective_warmest end_text fitb floor fresh fresh_gear gear_query_reply has_type heard_query held is_query is_setting_query is_type levels_fit lies_within limits_fit line_text lines_from member new_gear number_text overheated padded perform_call perform_step profile_from profile_in profile_of query reply serve set_level setting_reply short_fit short_of shows_level text_from types_of unit_fit unit_from walk_fit well_formed write
after_both = refl
