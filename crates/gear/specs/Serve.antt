-- Refusal 2: every call that takes a record serves a fit one and hands any other back unchanged.
use Rattle.std.specs.Prelude.{Err}
use Rattle.gear.specs.declared.answer.Outcome.{Outcome}
use Rattle.gear.specs.declared.answer.Refusal.TheVariants.{Unfit}
use Rattle.gear.specs.declared.record.Gear.{Gear}
use Rattle.gear.specs.Answer.{Answer, refused}
use Rattle.gear.specs.Record.{fitb}
use Rattle.numbers.specs.Numbers.{pick}

unfoldable pub serve : Gear → Outcome → Outcome
serve g o = pick (fitb g) o (refused g Unfit)

unfoldable pub tell : Gear → Answer → Answer
tell g a = pick (fitb g) a (Err Unfit)
