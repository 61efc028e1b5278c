-- A query changes of the marks the walk alone.
use Prim.Native.Nat.{ℕ}
use mathlib.Core.Path.{◌≡◌, refl}
use lib.Dec.{eqb, leb}
use Rattle.std.specs.Prelude.{Option, Some, None}
use Rattle.gear.specs.declared.marks.Marks.{Marks}
use Rattle.gear.specs.declared.profile.Unit.{Unit}
use Rattle.gear.specs.Marks.{with_walk}
use Rattle.numbers.proofs.Logic.{by_cases}
use Rattle.query.specs.Heard.{moved_on, stepped, walked}
use Rattle.query.specs.Reply.{is_query}

stepped_alone : (count : ℕ) (m : Marks) (w : Option ℕ) → stepped count m w ≡ with_walk m (stepped count m w).walk
unfolding stepped moved_on
stepped_alone count m None = refl
stepped_alone count m (Some n) = by_cases (leb count n) (λ e. simp e) (λ e. simp e)

pub walk_alone : (u : Unit) (m : Marks) (b : ℕ) → walked u m b ≡ with_walk m (walked u m b).walk
unfolding walked
walk_alone u m b =
    by_cases (eqb b 153) (λ e. simp e)
    (λ e. by_cases (eqb b 167) (λ t. rw (e, t) (stepped_alone u.count m m.walk)) (λ t. by_cases (is_query b) (λ q. simp (e, t, q)) (λ q. simp (e, t, q))))
