-- Whom a frame is for (part 102, 7.2).
use Rattle.std.specs.Prelude.{ℕ, Bool, true, false, eqb, ltb, Err, Option, None, Some}
use Rattle.calls.specs.declared.address.Address.{Address}
use Rattle.calls.specs.declared.address.Address.TheVariants.{Short, Group, Broadcast, Unaddressed}
use Rattle.gear.specs.Answer.{Answer, flag}
use Rattle.gear.specs.declared.answer.Refusal.TheVariants.{Group as GroupRefused}
use Rattle.gear.specs.declared.record.Gear.{Gear}
use Rattle.gear.specs.Scene.{member_at}
use Rattle.gear.specs.Serve.{tell}
use Rattle.numbers.specs.Numbers.{pick}
use Rattle.query.specs.Status.{missing}

unfoldable pub is_short : Option ℕ → ℕ → Bool
is_short None a = false
is_short (Some own) a = eqb own a

unfoldable pub addressed : Gear → Address → Bool
addressed g (Short a) = is_short g.unit.short a
addressed g (Group n) = member_at g.settings.groups n
addressed g Broadcast = true
addressed g Unaddressed = missing g.unit.short

-- a gear that is not enabled is addressed by nothing
unfoldable pub matching : Gear → Address → Answer
matching g a = flag (pick g.condition.enabled (addressed g a) false)

unfoldable pub beyond : Address → Bool
beyond (Short a) = false
beyond (Group n) = ltb 15 n
beyond Broadcast = false
beyond Unaddressed = false

-- refusal 4, at a gear that is not enabled too
unfoldable pub judged : Gear → Address → Answer
judged g a = pick (beyond a) (Err GroupRefused) (matching g a)

unfoldable pub matches_call : Gear → Address → Answer
matches_call g a = tell g (judged g a)
