-- Document 01's list of keys by bytes, as it is written there; proofs/Bytes.antt holds `keys` to it at all 256 bytes.
use Rattle.std.specs.Prelude.{ℕ, ◌-◌, Bool, List, [], ◌∷◌, eqb, leb}
use Rattle.order.specs.Keys.{Key}
use Rattle.order.specs.Keys.Key.{Level, Colour, FadeTime, FadeRate, ExtendedFade, PowerOn, SystemFailure, WriteEnable, Scene, Group}
use Rattle.numbers.specs.Numbers.{both, pick}

abbrev pub within : ℕ → ℕ → ℕ → Bool
within low high b = both (leb low b) (leb b high)

-- Reset, byte 32, IdentifyDevice, byte 37, and every byte that is no write have none
abbrev pub byte_keys : ℕ → List Key
byte_keys b =
    pick (within 0 8 b) (Level ∷ [])
    (pick (eqb b 10) (Level ∷ [])
    (pick (within 16 31 b) (Level ∷ Colour ∷ Scene (b - 16) ∷ [])
    (pick (within 42 43 b) (Level ∷ [])
    (pick (eqb b 44) (SystemFailure ∷ [])
    (pick (eqb b 45) (PowerOn ∷ [])
    (pick (eqb b 46) (FadeTime ∷ [])
    (pick (eqb b 47) (FadeRate ∷ [])
    (pick (eqb b 48) (ExtendedFade ∷ [])
    (pick (within 64 79 b) (Scene (b - 64) ∷ [])
    (pick (within 80 95 b) (Scene (b - 80) ∷ [])
    (pick (within 96 111 b) (Group (b - 96) ∷ [])
    (pick (within 112 127 b) (Group (b - 112) ∷ []) (pick (eqb b 129) (WriteEnable ∷ []) [])))))))))))))
