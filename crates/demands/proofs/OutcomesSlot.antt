-- One outcome of every public function of slot, by its own promise (`Post`, the function's `ensures`).
use mathlib.Core.Path.{refl}
use Rattle.demands.specs.Outcome.{OneOutcome, OneSeen}
use Rattle.demands.proofs.Outcome.{determined}
use Rattle.slot.specs.Calls.{lent}
use Rattle.slot.proofs.bytes
use Rattle.slot.proofs.image
use Rattle.slot.proofs.parts
use Rattle.slot.proofs.test

pub «bytes::byte» : OneOutcome bytes.byte.Reads.Post
«bytes::byte» κs args r r' e e' = determined

pub «bytes::flag» : OneOutcome bytes.flag.Reads.Post
«bytes::flag» κs args r r' e e' = determined

pub «bytes::word» : OneOutcome bytes.word.Reads.Post
«bytes::word» κs args r r' e e' = determined

pub image::put_colour_at : OneOutcome image.put_colour_at.Reads.Post
image::put_colour_at κs args r r' e e' p q = refl

pub image::put_colour_at_slot : OneSeen (λ κs r e. e.0.now) image.put_colour_at.Reads.Post
image::put_colour_at_slot κs args r r' e e' = determined

pub «image::store» : OneOutcome image.store.Reads.Post
«image::store» κs args r r' e e' p q = determined p.0 q.0

pub «image::store-slot» : OneSeen (λ κs r e. e.0.now) image.store.Reads.Post
«image::store-slot» κs args r r' e e' p q = determined p.1 q.1

pub image::record_of : OneOutcome image.record_of.Reads.Post
image::record_of κs args r r' e e' = determined

pub parts::short_of : OneOutcome parts.short_of.Reads.Post
parts::short_of κs args r r' e e' = determined

pub parts::levels_of : OneOutcome parts.levels_of.Reads.Post
parts::levels_of κs args r r' e e' = determined

pub parts::limits_of : OneOutcome parts.limits_of.Reads.Post
parts::limits_of κs args r r' e e' = determined

pub parts::colour_at : OneOutcome parts.colour_at.Reads.Post
parts::colour_at κs args r r' e e' = determined

pub parts::tint_at : OneOutcome parts.tint_at.Reads.Post
parts::tint_at κs args r r' e e' = determined

pub parts::setting_at : OneOutcome parts.setting_at.Reads.Post
parts::setting_at κs args r r' e e' = determined

pub parts::unit_of : OneOutcome parts.unit_of.Reads.Post
parts::unit_of κs args r r' e e' = determined

pub parts::marks_of : OneOutcome parts.marks_of.Reads.Post
parts::marks_of κs args r r' e e' = determined

pub parts::colour_of : OneOutcome parts.colour_of.Reads.Post
parts::colour_of κs args r r' e e' = determined

pub parts::condition_of : OneOutcome parts.condition_of.Reads.Post
parts::condition_of κs args r r' e e' = determined

pub parts::groups_of : OneOutcome parts.groups_of.Reads.Post
parts::groups_of κs args r r' e e' = determined

pub parts::fades_of : OneOutcome parts.fades_of.Reads.Post
parts::fades_of κs args r r' e e' = determined

pub parts::scene_place : OneOutcome parts.scene_place.Reads.Post
parts::scene_place κs args r r' e e' = determined

pub test::is_held : OneOutcome test.is_held.Reads.Post
test::is_held κs args r r' e e' = determined

pub «test::tested» : OneSeen (λ κs r e. lent r) test.tested.Reads.Post
«test::tested» κs args r r' e e' = determined
