-- Demand 3 where a host stands: two session files that differ in the order of some writes print the same lines after them.
use Rattle.std.specs.Prelude.{ℕ, ◌+◌, ◌≡◌, true, length}
use mathlib.Core.List.{List, [], ◌∷◌, ◌++◌, Permᴰ}
use Rattle.std.proofs.Math.Option.{some}
use Rattle.order.specs.Premises.{Listed, Ready}
use Rattle.order.specs.Writes.{Write, call_of}
use Rattle.demands.specs.Sessions.{Step, StepByStep, after_steps, bytes, call_in, lines_from, start_in, text_from}
use Rattle.file.specs.File.{steps_of, well_formed}
use Rattle.file.specs.Profile.{profile_in}
use Rattle.runner.specs.Run.{printed}

-- the steps are these writes, one by one: the call that a step's kind names is the write's
pub data Stand : List Step → List Write → Type 0 where
  none : Stand [] []
  more :
      {step : Step} {w : Write} {steps : List Step} {ws : List Write} → call_in step ≡ some (call_of w) → Stand steps ws →
      Stand (step ∷ steps) (w ∷ ws)

-- Two files with one profile: the same steps before, the same writes in two orders, and the same steps after. The list of writes and
-- the record that they start from meet demand 3's premises.
pub record TwoOrders (s t : List ℕ) (before one other after : List Step) (ws : List Write) : Type 0 where
  pub formed : well_formed s ≡ true
  pub formed_too : well_formed t ≡ true
  pub profile : profile_in s ≡ profile_in t
  pub steps : steps_of s ≡ bytes (before ++ (one ++ after))
  pub steps_too : steps_of t ≡ bytes (before ++ (other ++ after))
  pub order : Permᴰ one other
  pub stand : Stand one ws
  pub listed : Listed ws
  pub ready : Ready (after_steps before (start_in s))

-- what is printed after the writes, the last line too: numbered on, from the record that the first order leaves
abbrev pub rest : List ℕ → List Step → List Step → List Step → List ℕ
rest s before one after = lines_from (1 + length before + length one) (after_steps one (after_steps before (start_in s))) after

-- the lines before, the writes' own lines, and then the same lines for both
pub record SameAfter (runner : List ℕ → List ℕ) (s t : List ℕ) (before one other after : List Step) : Type 0 where
  pub lines :
      runner s ≡
      text_from 1 (start_in s) before ++ (text_from (1 + length before) (after_steps before (start_in s)) one ++ rest s before one after)
  pub lines_too :
      runner t ≡
      text_from 1 (start_in s) before ++ (text_from (1 + length before) (after_steps before (start_in s)) other ++ rest s before one after)

-- of any runner that goes step by step, and so of `printed`
pub record FilesInAnyOrder : Type 0 where
  pub any_runner :
      (runner : List ℕ → List ℕ) → StepByStep runner →
      (s t : List ℕ) (before one other after : List Step) (ws : List Write) →
      TwoOrders s t before one other after ws → SameAfter runner s t before one other after
  pub rules :
      (s t : List ℕ) (before one other after : List Step) (ws : List Write) →
      TwoOrders s t before one other after ws → SameAfter printed s t before one other after
