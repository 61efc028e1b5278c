-- The writes that document 01 gives keys to, and what each does: the rule of its call, to which the call is proved equal.
use Rattle.std.specs.Prelude.{ℕ, ◌<◌, Bool, List, [], ◌∷◌}
use Rattle.demands.specs.Calls.{Call, perform as perform_call}
use Rattle.gear.specs.declared.answer.Outcome.{Outcome}
use Rattle.gear.specs.declared.record.Gear.{Gear}
use Rattle.gear.specs.Answer.{Answer}

pub data Write : Type 0 where
  ArcPower : (level : ℕ) → Write
  Standard : (byte dtr0 : ℕ) → Write
  TcStep : (warmer : Bool) → Write
  XyStep : (y up : Bool) → Write
  TcLimit : (value selector : ℕ) → Write
  Activation : Write
  Memory : (bank offset value : ℕ) → Write

-- the call that carries it out
unfoldable pub call_of : Write → Call
call_of (ArcPower level) = Call.ArcPower level
call_of (Standard byte dtr0) = Call.StandardWrite byte dtr0
call_of (TcStep warmer) = Call.TcStep warmer
call_of (XyStep y up) = Call.XyStep y up
call_of (TcLimit value selector) = Call.StoreTcLimit value selector
call_of Activation = Call.Activate
call_of (Memory bank offset value) = Call.WriteMemory bank offset value

unfoldable pub perform : Write → Gear → Outcome
perform w g = perform_call (call_of w) g

-- the record that a write leaves, served or refused
abbrev pub after : Write → Gear → Gear
after w g = (perform w g).gear

-- what the writes of a list answer, in turn
unfoldable pub replies : List Write → Gear → List Answer
replies [] g = []
replies (w ∷ ws) g = (perform w g).answer ∷ replies ws (after w g)

-- a limit has 16 bits, as in the call: a wider one could make the record unfit. Of no other number is anything asked
abbrev pub Sized : Write → Type 0
Sized (ArcPower level) = Unit {0}
Sized (Standard byte dtr0) = Unit {0}
Sized (TcStep warmer) = Unit {0}
Sized (XyStep y up) = Unit {0}
Sized (TcLimit value selector) = value < 65536
Sized Activation = Unit {0}
Sized (Memory bank offset value) = Unit {0}
