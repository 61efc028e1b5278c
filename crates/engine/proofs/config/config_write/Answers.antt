-- `config::config_write` meets its contract: a fade is one byte.
use Rattle.gear.specs.Write.{config_write}
use Rattle.engine.proofs.Fades.{extended_stored, rate_stored, time_stored}
use Rattle.engine.proofs.config.config_write.Goals as goal

pub returns-in-SetFadeTime : goal.returns-in-SetFadeTime
unfolding config_write
returns-in-SetFadeTime c = λ g h. rw c.in-SetFadeTime.is (time_stored _ _ (c.configure.ensures g h) c.args.dtr0)

pub returns-in-SetFadeRate : goal.returns-in-SetFadeRate
unfolding config_write
returns-in-SetFadeRate c = λ g h. rw c.in-SetFadeRate.is (rate_stored _ _ (c.configure.ensures g h) c.args.dtr0)

pub returns-in-SetExtendedFadeTime : goal.returns-in-SetExtendedFadeTime
unfolding config_write
returns-in-SetExtendedFadeTime c = λ g h. rw (c.in-SetExtendedFadeTime.is, c.extended_fade.ensures) (extended_stored _ _ (c.configure.ensures g h) _)
