-- Lists of steps: what holds of every step, what holds of every two, and the state that a list leads to.
use Rattle.std.specs.Prelude.{List, [], ◌∷◌}

-- every step of a list has a property
pub data All {W : Type 0} (P : W → Type 0) : List W → Type 0 where
  none : All P []
  more : {w : W} {ws : List W} → P w → All P ws → All P (w ∷ ws)

-- every two steps of a list are related
pub data Apart {W : Type 0} (R : W → W → Type 0) : List W → Type 0 where
  none : Apart R []
  more : {w : W} {ws : List W} → All (R w) ws → Apart R ws → Apart R (w ∷ ws)

-- the state after a list of steps, the first one first
unfoldable pub run : {S W : Type 0} → (W → S → S) → List W → S → S
run step [] s = s
run step (w ∷ ws) s = run step ws (step w s)
