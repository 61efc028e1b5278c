-- The list's premises as a test that a program or a proof can compute.
use Rattle.std.specs.Prelude.{ℕ, ◌+◌, ◌*◌, Bool, true, false, not, List, [], ◌∷◌, eqb, ltb}
use Rattle.order.specs.Keys.{Key, keys}
use Rattle.order.specs.Keys.Key.{Level, Colour, FadeTime, FadeRate, ExtendedFade, PowerOn, SystemFailure, WriteEnable, Bank1, Scene, Group}
use Rattle.order.specs.Writes.{Write}
use Rattle.order.specs.Writes.Write.{ArcPower, Standard, TcStep, XyStep, TcLimit, Activation, Memory}
use Rattle.numbers.specs.Numbers.{both}

-- a number of its own for each key
abbrev pub key_number : Key → ℕ
key_number Level = 0
key_number Colour = 1
key_number FadeTime = 2
key_number FadeRate = 3
key_number ExtendedFade = 4
key_number PowerOn = 5
key_number SystemFailure = 6
key_number WriteEnable = 7
key_number Bank1 = 8
key_number (Scene s) = 9 + 2 * s
key_number (Group n) = 10 + 2 * n

abbrev pub lacks : Key → List Key → Bool
lacks k [] = true
lacks k (l ∷ ls) = both (not (eqb (key_number k) (key_number l))) (lacks k ls)

abbrev pub disjoint : List Key → List Key → Bool
disjoint [] ls = true
disjoint (k ∷ ks) ls = both (lacks k ls) (disjoint ks ls)

abbrev pub any : List Key → Bool
any [] = false
any (k ∷ ks) = true

abbrev pub sized : Write → Bool
sized (ArcPower level) = true
sized (Standard byte dtr0) = true
sized (TcStep warmer) = true
sized (XyStep y up) = true
sized (TcLimit value selector) = ltb value 65536
sized Activation = true
sized (Memory bank offset value) = true

abbrev pub apart : Write → List Write → Bool
apart w [] = true
apart w (v ∷ vs) = both (disjoint (keys w) (keys v)) (apart w vs)

-- every write has a key, and no two share one
abbrev pub listed : List Write → Bool
listed [] = true
listed (w ∷ ws) = both (both (any (keys w)) (sized w)) (both (apart w ws) (listed ws))
