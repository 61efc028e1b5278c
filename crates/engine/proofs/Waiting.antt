-- The tests of the code on the frame that waits are those of the rules, and so is the frame that waits from then on.
use mathlib.Core.Path.{◌≡◌, refl}
use Rattle.std.specs.Prelude.{ℕ, Bool, true, false, Option, None, Some, is_some, nat_eq}
use Rattle.std.specs.Bool.{then_some}
use Rattle.std.specs.Option.{option_eq}
use Rattle.calls.specs.Pairing.{is_open, waiting, waits}

pub waits_is : (pair : Option ℕ) (frame : ℕ) → waits pair frame ≡ option_eq nat_eq pair (Some frame)
unfolding waits
waits_is None frame = refl
waits_is (Some f) frame = refl

pub is_open_is : (pair : Option ℕ) → is_open pair ≡ is_some pair
unfolding is_open
is_open_is None = refl
is_open_is (Some f) = refl

pub waiting_is : (frame : ℕ) (repeats : Bool) → waiting frame repeats ≡ then_some repeats frame
unfolding waiting
waiting_is frame true = refl
waiting_is frame false = refl
