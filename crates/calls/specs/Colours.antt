-- Colour calls on a record: colour's rules under the fit test.
use Rattle.std.specs.Prelude.{ℕ, Bool, Ok}
use Rattle.colour.specs.Activation.{activate, automatic}
use Rattle.colour.specs.declared.record.Colour.{Colour}
use Rattle.colour.specs.declared.setting.ColourSetting.{ColourSetting}
use Rattle.colour.specs.Record.{with_features}
use Rattle.colour.specs.Staging.{copy_report, load_temporaries_from}
use Rattle.colour.specs.Steps.{store_tc_limit, tc_step, xy_step}
use Rattle.colour.specs.Value.{color_value, colour_status, control_byte, features}
use Rattle.gear.specs.Answer.{Answer, done, flag, unexplained, value_answer}
use Rattle.gear.specs.declared.answer.Reply.TheVariants.{Value}
use Rattle.gear.specs.declared.answer.Outcome.{Outcome}
use Rattle.gear.specs.declared.record.Gear.{Gear}
use Rattle.gear.specs.Parts.{with_colour}
use Rattle.gear.specs.Serve.{serve, tell}

unfoldable pub recoloured : Gear → Colour → Outcome
recoloured g c = serve g (done (with_colour g c))

unfoldable pub tc_step_call : Gear → Bool → Outcome
tc_step_call g warmer = recoloured g (tc_step g.colour warmer)

unfoldable pub xy_step_call : Gear → Bool → Bool → Outcome
xy_step_call g y up = recoloured g (xy_step g.colour y up)

unfoldable pub store_tc_limit_call : Gear → ℕ → ℕ → Outcome
store_tc_limit_call g value selector = recoloured g (store_tc_limit g.colour value selector)

unfoldable pub stage_call : Gear → ColourSetting → Outcome
stage_call g s = recoloured g (load_temporaries_from g.colour s)

unfoldable pub activate_call : Gear → Outcome
activate_call g = recoloured g (activate g.colour)

unfoldable pub copy_report_call : Gear → Outcome
copy_report_call g = recoloured g (copy_report g.colour)

unfoldable pub set_features_call : Gear → ℕ → Outcome
set_features_call g f = recoloured g (with_features g.colour f)

unfoldable pub color_value_call : Gear → ℕ → Answer
color_value_call g id = tell g (value_answer (color_value g.colour id))

unfoldable pub colour_status_call : Gear → Answer
colour_status_call g = tell g (Ok (Value (colour_status g.colour)))

unfoldable pub features_call : Gear → Answer
features_call g = tell g (Ok (Value (features g.colour)))

-- a query of the bus: a gear without channels has no answer to it
unfoldable pub control_call : Gear → Answer
control_call g = tell g (unexplained (value_answer (control_byte g.colour)))

unfoldable pub feature_byte_call : Gear → Answer
feature_byte_call g = tell g (Ok (Value g.colour.features))

unfoldable pub automatic_call : Gear → Answer
automatic_call g = tell g (flag (automatic g.colour))
