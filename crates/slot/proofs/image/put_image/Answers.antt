-- `image::put_image` meets its contract: each part is put behind those before it, and nothing is left behind the spare bytes.
use Rattle.std.proofs.Common.{◌≡◌, [], length, replicate, take, refl, sym, ap, ◌∙◌, rules}
use Rattle.std.specs.List.{flat_map}
use Rattle.colour.specs.Tint.{face}
use Rattle.gear.specs.Scene.{nowhere}
use Rattle.slot.proofs.Made.{mapped}
use Rattle.slot.proofs.Puts.{Begun, all_joined, ended, in_full, put_next}
use Rattle.slot.specs.Image.{image_of, put_all, put_bytes, put_colour, put_flags, put_front, put_marks, put_numbers, put_setting, typed}
use Rattle.slot.proofs.image.put_image.Goals as goal

pub returns : goal.returns
unfolding image_of face
returns c =
    let w = c.args.slot.now in
    let g = c.args.gear in
    let p0 : Begun [] w w = record { is = refl } in
    let p1 = put_next (put_front g []) c.front_bytes.ensures p0 refl c.put.ensures in
    let p2 = put_next (put_bytes 16 (take g.unit.count g.unit.types) []) c.types_bytes.ensures p1 refl c.put-2.ensures in
    let p3 = put_next (put_flags 16 g.settings.groups []) c.groups_bytes.ensures p2 refl c.put-3.ensures in
    let p4 = put_next (put_marks g []) c.marks_bytes.ensures p3 refl c.put-4.ensures in
    let p5 = put_next (put_numbers g []) c.numbers_bytes.ensures p4 refl c.put-5.ensures in
    let p6 = put_next (put_colour (typed g.colour.active) []) (rw c.face.ensures at c.colour_bytes.ensures) p5 refl c.put-6.ensures in
    let p7 = put_next (put_colour (typed g.colour.pending) []) (rw c.face-2.ensures at c.colour_bytes-2.ensures) p6 refl c.put-7.ensures in
    let p8 = put_next (put_colour g.colour.report []) c.colour_bytes-3.ensures p7 refl c.put-8.ensures in
    let p9 = put_next (put_setting g.settings.on []) c.setting_bytes.ensures p8 refl c.put-9.ensures in
    let p10 = put_next (put_setting g.settings.failure []) c.setting_bytes-2.ensures p9 refl c.put-10.ensures in
    let many : length g.scenes ≡ 16 = search rules in
    let scenes : c.as_flattened.result.now ≡ put_all put_setting nowhere 16 g.scenes [] =
    c.as_flattened.ensures.value ∙
    ap (flat_map (λ x. x)) (mapped _ (λ s. put_setting s []) (λ p q x y k. search rules) nowhere many c.map.ensures.items) ∙
    sym (all_joined put_setting nowhere (λ s t. refl) 16 g.scenes many)
    in
    let p11 = put_next (put_all put_setting nowhere 16 g.scenes []) scenes p10 refl c.put-11.ensures in
    let p12 = put_next (put_bytes 29 g.banks.identity []) (in_full 29 g.banks.identity (search rules)) p11 refl c.put-12.ensures in
    let p13 = put_next (put_bytes 17 g.banks.profile []) (in_full 17 g.banks.profile (search rules)) p12 refl c.put-13.ensures in
    let p14 = put_next (replicate 71 0) refl p13 refl c.put-14.ensures in
    ended 512 refl (search rules) p14
