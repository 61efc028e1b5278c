-- Membership is what `any` looks for.
use Prim.Native.Nat.{ℕ}
use mathlib.Core.Path.{◌≡◌, refl}
use mathlib.Core.List.{List, [], ◌∷◌}
use lib.Dec.{eqb}
use Rattle.std.specs.List.{list_any}
use Rattle.gear.specs.Types.{member}
use Rattle.numbers.proofs.Logic.{by_cases}

pub any_member : (code : ℕ) (xs : List ℕ) → list_any (λ x. eqb x code) xs ≡ member code xs
unfolding member
any_member code [] = refl
any_member code (x ∷ xs) = by_cases (eqb x code) (λ e. rw e) (λ e. rw e (any_member code xs))
