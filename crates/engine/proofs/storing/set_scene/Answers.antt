-- `storing::set_scene` meets its contract: the level is stored at the scene's place, or what is staged is taken away.
use Rattle.engine.proofs.Taking.{scene_level_put, scene_passed, scene_unstaged}
use Rattle.engine.proofs.storing.set_scene.Goals as goal

pub returns-then-scene-lt16 : goal.returns-then-scene-lt16
returns-then-scene-lt16 c =
    λ g h. rw (c.store_level.ensures, c.scene_place.ensures) (scene_level_put c.args.slot.now g h c.args.level c.args.scene c.if-scene-lt16.true)

pub returns-then-slot : goal.returns-then-slot
returns-then-slot c =
    λ g h. rw c.unstage.ensures (scene_unstaged c.args.slot.now g h c.args.level c.args.scene c.if-scene-lt16.false c.if-slot.true)

pub returns-else-slot : goal.returns-else-slot
returns-else-slot c = λ g h. scene_passed c.args.slot.now g h c.args.level c.args.scene c.if-scene-lt16.false c.if-slot.false
