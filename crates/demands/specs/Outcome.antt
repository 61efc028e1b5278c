-- One outcome (document 01, 'What each call owes'): two outcomes that both meet a function's own promise are the same.
use Rattle.std.specs.Prelude.{◌≡◌}

-- A promise is the function's `ensures`: of the lifetimes and the arguments of a call, of its result, and of what its parameters
-- hold at exit. What a caller sees of result and exit is the same whenever both meet the promise.
abbrev pub OneSeen {ℓ} :
    {K : Type ℓ} {A R E S : K → Type 0} → ((κs : K) → R κs → E κs → S κs) → ((κs : K) → A κs → R κs → E κs → Type 0) → Type ℓ
OneSeen {K = K} {A = A} {R = R} {E = E} see Promise =
    (κs : K) (args : A κs) (r r' : R κs) (e e' : E κs) → Promise κs args r e → Promise κs args r' e' → see κs r e ≡ see κs r' e'

-- what is seen is the result
abbrev pub OneOutcome {ℓ} : {K : Type ℓ} {A R E : K → Type 0} → ((κs : K) → A κs → R κs → E κs → Type 0) → Type ℓ
OneOutcome Promise = OneSeen (λ κs r e. r) Promise
