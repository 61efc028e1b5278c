-- One outcome of every public function of gear, by its own promise (`Post`, the function's `ensures`).
use mathlib.Core.Path.{refl}
use Rattle.demands.specs.Outcome.{OneOutcome, OneSeen}
use Rattle.demands.proofs.Outcome.{determined}
use Rattle.gear.proofs.answer
use Rattle.gear.proofs.command
use Rattle.gear.proofs.marks
use Rattle.gear.proofs.parts
use Rattle.gear.proofs.profile
use Rattle.gear.proofs.record
use Rattle.gear.proofs.scene
use Rattle.gear.proofs.serve
use Rattle.gear.proofs.settings
use Rattle.gear.proofs.write

pub «answer::U8FromRefusal::from» : OneOutcome answer.U8FromRefusal.from.Reads.Post
«answer::U8FromRefusal::from» κs args r r' e e' = determined

pub «answer::ReplyFromU8::from» : OneOutcome answer.ReplyFromU8.from.Reads.Post
«answer::ReplyFromU8::from» κs args r r' e e' = determined

pub «answer::flag» : OneOutcome answer.flag.Reads.Post
«answer::flag» κs args r r' e e' = determined

pub «answer::done» : OneOutcome answer.done.Reads.Post
«answer::done» κs args r r' e e' = determined

pub «answer::refused» : OneOutcome answer.refused.Reads.Post
«answer::refused» κs args r r' e e' = determined

pub answer::unchanged : OneOutcome answer.unchanged.Reads.Post
answer::unchanged κs args r r' e e' = determined

pub answer::value_answer : OneOutcome answer.value_answer.Reads.Post
answer::value_answer κs args r r' e e' = determined

pub «answer::unexplained» : OneOutcome answer.unexplained.Reads.Post
«answer::unexplained» κs args r r' e e' = determined

pub answer::location_answer : OneOutcome answer.location_answer.Reads.Post
answer::location_answer κs args r r' e e' = determined

pub command::command_of : OneOutcome command.command_of.Reads.Post
command::command_of κs args r r' e e' = determined

pub «marks::Marks::asked» : OneOutcome marks.Marks.asked.Reads.Post
«marks::Marks::asked» κs args r r' e e' = determined

pub «marks::Marks::configured» : OneOutcome marks.Marks.configured.Reads.Post
«marks::Marks::configured» κs args r r' e e' = determined

pub «marks::Marks::identified» : OneOutcome marks.Marks.identified.Reads.Post
«marks::Marks::identified» κs args r r' e e' = determined

pub «marks::Marks::enabled» : OneOutcome marks.Marks.enabled.Reads.Post
«marks::Marks::enabled» κs args r r' e e' = determined

pub marks::Marks::with_walk : OneOutcome marks.Marks.with_walk.Reads.Post
marks::Marks::with_walk κs args r r' e e' = determined

pub marks::Marks::with_pair : OneOutcome marks.Marks.with_pair.Reads.Post
marks::Marks::with_pair κs args r r' e e' = determined

pub marks::Marks::power_up : OneOutcome marks.Marks.power_up.Reads.Post
marks::Marks::power_up κs args r r' e e' = determined

pub parts::keeps_identify : OneOutcome parts.keeps_identify.Reads.Post
parts::keeps_identify κs args r r' e e' = determined

pub parts::recalled_levels : OneOutcome parts.recalled_levels.Reads.Post
parts::recalled_levels κs args r r' e e' = determined

pub parts::set_min : OneOutcome parts.set_min.Reads.Post
parts::set_min κs args r r' e e' = determined

pub parts::extended_fade : OneOutcome parts.extended_fade.Reads.Post
parts::extended_fade κs args r r' e e' = determined

pub profile::Unit::is_type : OneOutcome profile.Unit.is_type.Reads.Post
profile::Unit::is_type κs args r r' e e' = determined

pub profile::Unit::is_dt6 : OneOutcome profile.Unit.is_dt6.Reads.Post
profile::Unit::is_dt6 κs args r r' e e' = determined

pub profile::Unit::is_dt8 : OneOutcome profile.Unit.is_dt8.Reads.Post
profile::Unit::is_dt8 κs args r r' e e' = determined

pub «profile::Profile::none» : OneOutcome profile.Profile.none.Reads.Post
«profile::Profile::none» κs args r r' e e' = determined

pub «profile::Profile::accepted» : OneOutcome profile.Profile.accepted.Reads.Post
«profile::Profile::accepted» κs args r r' e e' = determined

pub «record::Gear::new» : OneOutcome record.Gear.new.Reads.Post
«record::Gear::new» κs args r r' e e' = determined

pub «record::Gear::fit» : OneOutcome record.Gear.fit.Reads.Post
«record::Gear::fit» κs args r r' e e' = determined

pub record::Gear::reset_gear : OneOutcome record.Gear.reset_gear.Reads.Post
record::Gear::reset_gear κs args r r' e e' = determined

pub scene::scene_at : OneOutcome scene.scene_at.Reads.Post
scene::scene_at κs args r r' e e' = determined

pub scene::is_member : OneOutcome scene.is_member.Reads.Post
scene::is_member κs args r r' e e' = determined

pub «serve::serve» : OneOutcome serve.serve.Reads.Post
«serve::serve» κs args r r' e e' = determined

pub «serve::tell» : OneOutcome serve.tell.Reads.Post
«serve::tell» κs args r r' e e' = determined

pub «settings::LevelSetting::unset» : OneOutcome settings.LevelSetting.unset.Reads.Post
«settings::LevelSetting::unset» κs args r r' e e' = determined

pub settings::store_level : OneOutcome settings.store_level.Reads.Post
settings::store_level κs args r r' e e' p q = refl

pub settings::store_level_kept : OneSeen (λ κs r e. e.0.now) settings.store_level.Reads.Post
settings::store_level_kept κs args r r' e e' p q = determined p.0 q.0

pub settings::store_level_colour : OneSeen (λ κs r e. e.1.0.now) settings.store_level.Reads.Post
settings::store_level_colour κs args r r' e e' p q = determined p.1 q.1

pub settings::store_level_setting : OneOutcome settings.store_level_setting.Reads.Post
settings::store_level_setting κs args r r' e e' = determined

pub write::apply_standard_write : OneOutcome write.apply_standard_write.Reads.Post
write::apply_standard_write κs args r r' e e' = determined

pub write::direct_arc_power : OneOutcome write.direct_arc_power.Reads.Post
write::direct_arc_power κs args r r' e e' = determined

pub profile::Unit::min_level_floor : OneOutcome profile.Unit.min_level_floor.Reads.Post
profile::Unit::min_level_floor κs args r r' e e' = determined
