-- `write::recall_scene` meets its contract: the entry is read at its place.
use mathlib.Core.Path.{◌≡◌, ap, sym, ◌∙◌}
use mathlib.Core.List.{List}
use Rattle.engine.proofs.Places.{scene_place}
use Rattle.gear.specs.declared.settings.LevelSetting.{LevelSetting}
use Rattle.gear.specs.Scene.{scene_at}
use Rattle.gear.specs.Write.{recall_scene, scene}
use Rattle.slot.proofs.Read.{part}
use Rattle.slot.specs.Record.{gear_of}
use Rattle.engine.proofs.write.recall_scene.Goals as goal

pub returns-then-scene-lt16 : goal.returns-then-scene-lt16
unfolding recall_scene gear_of
returns-then-scene-lt16 c =
    λ g h.
    let b = c.args.slot.now in
    let s = c.args.scene in
    let levels : c.levels_of-levels.result ≡ g.levels = c.levels_of-levels.ensures ∙ part b g h (λ x. x.levels) in
    let entry : c.setting_at-entry.result ≡ scene g s =
    rw c.scene_place.ensures at c.setting_at-entry.ensures ∙ sym (scene_place s b c.if-scene-lt16.true) ∙ ap (λ (x : List LevelSetting). scene_at x s) (part b g h (λ x. x.scenes))
    in
    rw (c.recalled_levels.ensures, levels, entry) at (c.recall_colour.ensures _ (c.ask.ensures _ (c.put_levels.ensures g h)))
