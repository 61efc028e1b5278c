-- From swaps to permutations: if related steps swap under an invariant that every step keeps, then every order of a list whose
-- steps are pairwise related leads to the same state.
use mathlib.Core.Path.{◌≡◌, refl, ◌∙◌, ap, ap₂, subst, subst₂}
use mathlib.Core.List.{List, [], ◌∷◌, Permᴰ}
use Rattle.order.specs.Lists.{All, Apart, run}

pub all_perm : {W : Type 0} {P : W → Type 0} {ws vs : List W} → Permᴰ ws vs → All P ws → All P vs
all_perm Permᴰ.nil All.none = All.none
all_perm {P = P} (Permᴰ.cons e d) (All.more p a) = All.more (subst P e p) (all_perm d a)
all_perm {P = P} (Permᴰ.swap e f) (All.more p (All.more q a)) = All.more (subst P f q) (All.more (subst P e p) a)
all_perm (Permᴰ.trans d e) a = all_perm e (all_perm d a)

module _ {W : Type 0} (R : W → W → Type 0) (turn : (v w : W) → R v w → R w v) where
  pub apart_perm : {ws vs : List W} → Permᴰ ws vs → Apart R ws → Apart R vs
  apart_perm Permᴰ.nil Apart.none = Apart.none
  apart_perm (Permᴰ.cons {b = b} {l₂ = vs} e d) (Apart.more a r) =
      Apart.more (subst (λ w. All (R w) vs) e (all_perm d a)) (apart_perm d r)
  apart_perm (Permᴰ.swap {l = l} e f) (Apart.more (All.more p a) (Apart.more b r)) =
      Apart.more (All.more (turn _ _ (subst₂ R e f p)) (subst (λ w. All (R w) l) f b)) (Apart.more (subst (λ w. All (R w) l) e a) r)
  apart_perm (Permᴰ.trans d e) r = apart_perm e (apart_perm d r)

-- `Ok` holds of every step of the list
module _ {S W : Type 0}
    (step : W → S → S)
    (Inv : S → Type 0)
    (Ok : W → Type 0)
    (R : W → W → Type 0)
    (turn : (v w : W) → R v w → R w v)
    (kept : (w : W) (s : S) → Ok w → Inv s → Inv (step w s))
    (swap : (v w : W) (s : S) → Ok v → Ok w → R v w → Inv s → step w (step v s) ≡ step v (step w s)) where
  pub run_kept : (ws : List W) (s : S) → All Ok ws → Inv s → Inv (run step ws s)
  unfolding run
  run_kept [] s All.none i = i
  run_kept (w ∷ ws) s (All.more k a) i = run_kept ws (step w s) a (kept w s k i)

  pub same_end : {ws vs : List W} → Permᴰ ws vs → All Ok ws → Apart R ws → (s : S) → Inv s → run step ws s ≡ run step vs s
  unfolding run
  same_end Permᴰ.nil k a s i = refl
  same_end (Permᴰ.cons {a = w} {b = v} {l₂ = vs} e d) (All.more k ks) (Apart.more a r) s i =
      same_end d ks r (step w s) (kept w s k i) ∙ ap (λ x. run step vs (step x s)) e
  same_end (Permᴰ.swap {a = a} {b = b} {l = l} e f) (All.more k (All.more m ks)) (Apart.more (All.more p _) _) s i =
      ap (run step l) (swap a b s k m p i) ∙ ap₂ (λ x y. run step l (step y (step x s))) f e
  same_end (Permᴰ.trans d e) k r s i = same_end d k r s i ∙ same_end e (all_perm d k) (apart_perm R turn d r) s i
