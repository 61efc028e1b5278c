-- One outcome of every public function of colour, by its own promise (`Post`, the function's `ensures`).
use Rattle.demands.specs.Outcome.{OneOutcome}
use Rattle.demands.proofs.Outcome.{determined}
use Rattle.colour.proofs.activation
use Rattle.colour.proofs.bounded
use Rattle.colour.proofs.capability
use Rattle.colour.proofs.limits
use Rattle.colour.proofs.record
use Rattle.colour.proofs.report
use Rattle.colour.proofs.setting
use Rattle.colour.proofs.staging
use Rattle.colour.proofs.steps
use Rattle.colour.proofs.tint
use Rattle.colour.proofs.value

pub activation::activate_pending_color : OneOutcome activation.activate_pending_color.Reads.Post
activation::activate_pending_color κs args r r' e e' = determined

pub activation::automatic_activation : OneOutcome activation.automatic_activation.Reads.Post
activation::automatic_activation κs args r r' e e' = determined

pub activation::arc_power_activation : OneOutcome activation.arc_power_activation.Reads.Post
activation::arc_power_activation κs args r r' e e' = determined

pub «activation::recall» : OneOutcome activation.recall.Reads.Post
«activation::recall» κs args r r' e e' = determined

pub «capability::U8FromCapability::from» : OneOutcome capability.U8FromCapability.from.Reads.Post
«capability::U8FromCapability::from» κs args r r' e e' = determined

pub «record::Colour::fresh» : OneOutcome record.Colour.fresh.Reads.Post
«record::Colour::fresh» κs args r r' e e' = determined

pub «record::Colour::reset» : OneOutcome record.Colour.reset.Reads.Post
«record::Colour::reset» κs args r r' e e' = determined

pub record::Colour::power_up : OneOutcome record.Colour.power_up.Reads.Post
record::Colour::power_up κs args r r' e e' = determined

pub record::Colour::with_features : OneOutcome record.Colour.with_features.Reads.Post
record::Colour::with_features κs args r r' e e' = determined

pub «record::Colour::fit» : OneOutcome record.Colour.fit.Reads.Post
«record::Colour::fit» κs args r r' e e' = determined

pub report::load_report_from : OneOutcome report.load_report_from.Reads.Post
report::load_report_from κs args r r' e e' = determined

pub «setting::ColourSetting::mask» : OneOutcome setting.ColourSetting.mask.Reads.Post
«setting::ColourSetting::mask» κs args r r' e e' = determined

pub «setting::ColourSetting::factory» : OneOutcome setting.ColourSetting.factory.Reads.Post
«setting::ColourSetting::factory» κs args r r' e e' = determined

pub staging::load_temporaries_from : OneOutcome staging.load_temporaries_from.Reads.Post
staging::load_temporaries_from κs args r r' e e' = determined

pub staging::copy_report_to_temporary : OneOutcome staging.copy_report_to_temporary.Reads.Post
staging::copy_report_to_temporary κs args r r' e e' = determined

pub staging::take_staged_colour : OneOutcome staging.take_staged_colour.Reads.Post
staging::take_staged_colour κs args r r' e e' = determined

pub steps::tc_step : OneOutcome steps.tc_step.Reads.Post
steps::tc_step κs args r r' e e' = determined

pub steps::xy_step : OneOutcome steps.xy_step.Reads.Post
steps::xy_step κs args r r' e e' = determined

pub steps::store_tc_limit : OneOutcome steps.store_tc_limit.Reads.Post
steps::store_tc_limit κs args r r' e e' = determined

pub «tint::U8FromColorMode::from» : OneOutcome tint.U8FromColorMode.from.Reads.Post
«tint::U8FromColorMode::from» κs args r r' e e' = determined

pub «tint::ColorModeFromU8::from» : OneOutcome tint.ColorModeFromU8.from.Reads.Post
«tint::ColorModeFromU8::from» κs args r r' e e' = determined

pub «tint::Tint::face» : OneOutcome tint.Tint.face.Reads.Post
«tint::Tint::face» κs args r r' e e' = determined

pub «tint::Tint::captured» : OneOutcome tint.Tint.captured.Reads.Post
«tint::Tint::captured» κs args r r' e e' = determined

pub value::color_value : OneOutcome value.color_value.Reads.Post
value::color_value κs args r r' e e' = determined

pub value::dt8_colour_status : OneOutcome value.dt8_colour_status.Reads.Post
value::dt8_colour_status κs args r r' e e' = determined

pub value::dt8_features : OneOutcome value.dt8_features.Reads.Post
value::dt8_features κs args r r' e e' = determined

pub value::rgbwaf_control_byte : OneOutcome value.rgbwaf_control_byte.Reads.Post
value::rgbwaf_control_byte κs args r r' e e' = determined

pub value::gear_features_byte : OneOutcome value.gear_features_byte.Reads.Post
value::gear_features_byte κs args r r' e e' = determined

pub «activation::unlinked» : OneOutcome activation.unlinked.Reads.Post
«activation::unlinked» κs args r r' e e' = determined

pub «activation::chosen» : OneOutcome activation.chosen.Reads.Post
«activation::chosen» κs args r r' e e' = determined

pub «bounded::BoundedTc::store» : OneOutcome bounded.BoundedTc.store.Reads.Post
«bounded::BoundedTc::store» κs args r r' e e' = determined

pub limits::Limits::effective_coolest : OneOutcome limits.Limits.effective_coolest.Reads.Post
limits::Limits::effective_coolest κs args r r' e e' = determined

pub limits::Limits::effective_warmest : OneOutcome limits.Limits.effective_warmest.Reads.Post
limits::Limits::effective_warmest κs args r r' e e' = determined

pub «limits::Limits::hold» : OneOutcome limits.Limits.hold.Reads.Post
«limits::Limits::hold» κs args r r' e e' = determined

pub steps::stepped_tc : OneOutcome steps.stepped_tc.Reads.Post
steps::stepped_tc κs args r r' e e' = determined

pub steps::stepped_xy : OneOutcome steps.stepped_xy.Reads.Post
steps::stepped_xy κs args r r' e e' = determined
