-- `storing::remove_scene` meets its contract: an entry without a level and without a colour.
use Rattle.engine.proofs.Taking.{none_removed, scene_removed}
use Rattle.engine.proofs.storing.remove_scene.Goals as goal

pub returns-then-scene-lt16 : goal.returns-then-scene-lt16
returns-then-scene-lt16 c =
    λ g h. rw (c.put_setting.ensures, c.unset.ensures, c.scene_place.ensures) (scene_removed c.args.slot.now g c.args.scene h c.if-scene-lt16.true)

pub returns-else-scene-lt16 : goal.returns-else-scene-lt16
returns-else-scene-lt16 c = λ g h. none_removed c.args.slot.now g c.args.scene h c.if-scene-lt16.false
