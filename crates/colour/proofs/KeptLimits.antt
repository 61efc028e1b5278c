-- The limit store, a reset and the fresh record: the limits stay in order and within the physical pair, no physical limit
-- becomes 65,535, and an active colour temperature stays within the effective limits.
use Prim.Native.Nat.{ℕ, ◌≤◌, ◌<◌, min, max}
use mathlib.Core.Path.{◌≡◌, refl}
use mathlib.Core.Bool.{Bool, true, false}
use lib.Dec.{eqb, leb, ltb}
use native.Mathlib.Omega.{arith}
use borrow.Author.Tests.{le-leb, leb-true, eqb-false, ltb-false, ne_eqb}
use Rattle.colour.specs.declared.limits.Limits.{Limits}
use Rattle.colour.specs.declared.record.Capabilities.{Capabilities}
use Rattle.colour.specs.declared.record.Colour.{Colour}
use Rattle.colour.specs.declared.tint.Tint.{Tint}
use Rattle.colour.specs.Limits.{effective, effective_coolest, effective_warmest, rendered, store_limit, store_coolest, store_warmest, store_physical, pulled}
use Rattle.numbers.specs.Numbers.{both, clamp_to}
use Rattle.colour.specs.Record.{fresh, reset}
use Rattle.colour.specs.Steps.{store_tc_limit, snapped}
use Rattle.colour.specs.Tint.{lies_within, is_cct}
use Rattle.colour.proofs.Fit.{Ordered, Fit}
use Rattle.numbers.proofs.Logic.{by_cases, both_true, both_left, both_right}
use Rattle.colour.proofs.Kept.{within_lies}

-- 'in order', with the effective limits named
in_order :
    (l : Limits) (coolest warmest : ℕ) →
    effective l.stored.coolest l.physical.coolest ≡ coolest →
    effective l.stored.warmest l.physical.warmest ≡ warmest →
    l.physical.coolest ≤ coolest → coolest ≤ warmest → warmest ≤ l.physical.warmest → l.physical.warmest < 65535 →
    Ordered l
unfolding effective_coolest effective_warmest
in_order l coolest warmest p q a b c d = record { cool = rw p a; order = rw (p, q) b; warm = rw q c; below = d }

-- a number below 65,535 is its own effective limit
set_limit : (s p : ℕ) → s < 65535 → effective s p ≡ s
set_limit s p h = rw (ne_eqb s 65535 (λ e. omega arith))

-- two limits that are both stored are in order
stored_order :
    (l : Limits) → eqb l.stored.coolest 65535 ≡ false → eqb l.stored.warmest 65535 ≡ false → Ordered l →
    l.stored.coolest ≤ l.stored.warmest
unfolding effective_coolest effective_warmest
stored_order l e t o = rw (e, t) at o.order

module _ (l : Limits) (v : ℕ) (o : Ordered l) where
  rendered_low : l.physical.coolest ≤ rendered v l
  rendered_low = omega arith

  rendered_high : rendered v l ≤ l.physical.warmest
  rendered_high = omega arith

  rendered_set : (p : ℕ) → effective (rendered v l) p ≡ rendered v l
  rendered_set p = set_limit (rendered v l) p (omega arith)

store_coolest_kept : (l : Limits) (v : ℕ) → Ordered l → Ordered (store_coolest v l)
unfolding store_coolest effective_coolest effective_warmest
store_coolest_kept l v o =
    let low = rendered_low l v o in
    let high = rendered_high l v o in
    let own = rendered_set l v o in
    by_cases (eqb v 65535)
    (λ e.
    in_order (store_coolest v l) l.physical.coolest (effective_warmest l) (rw e) (rw e) (omega arith)
    (omega (arith, o.cool, o.order))
    o.warm
    o.below)
    (λ e.
    by_cases (ltb (effective_warmest l) (rendered v l))
    (λ t.
    in_order (store_coolest v l) (rendered v l) (rendered v l) (rw e (own l.physical.coolest))
    (rw (e, t) (own l.physical.warmest))
    low
    (omega arith)
    high
    o.below)
    (λ t.
    in_order (store_coolest v l) (rendered v l) (effective_warmest l) (rw e (own l.physical.coolest)) (rw (e, t))
    low
    (ltb-false (effective_warmest l) (rendered v l) t)
    o.warm
    o.below))

store_warmest_kept : (l : Limits) (v : ℕ) → Ordered l → Ordered (store_warmest v l)
unfolding store_warmest effective_coolest effective_warmest
store_warmest_kept l v o =
    let low = rendered_low l v o in
    let high = rendered_high l v o in
    let own = rendered_set l v o in
    by_cases (eqb v 65535)
    (λ e.
    in_order (store_warmest v l) (effective_coolest l) l.physical.warmest (rw e) (rw e) o.cool
    (omega (arith, o.order, o.warm))
    (omega arith)
    o.below)
    (λ e.
    by_cases (ltb (rendered v l) (effective_coolest l))
    (λ t.
    in_order (store_warmest v l) (rendered v l) (rendered v l) (rw (e, t) (own l.physical.coolest))
    (rw e (own l.physical.warmest))
    low
    (omega arith)
    high
    o.below)
    (λ t.
    in_order (store_warmest v l) (effective_coolest l) (rendered v l) (rw (e, t)) (rw e (own l.physical.warmest))
    o.cool
    (ltb-false (rendered v l) (effective_coolest l) t)
    high
    o.below))

-- a stored limit pulled between new physical ones has an effective limit between them, and two keep their order
pulled_set : (s low high p : ℕ) → high < 65535 → eqb s 65535 ≡ false → effective (pulled s low high) p ≡ clamp_to s low high
unfolding pulled
pulled_set s low high p h e = rw e (set_limit (clamp_to s low high) p (omega arith))

pulled_unset : (s low high p : ℕ) → eqb s 65535 ≡ true → effective (pulled s low high) p ≡ p
unfolding pulled
pulled_unset s low high p e = rw e (rw e)

store_physical_kept : (l : Limits) (low high : ℕ) → low ≤ high → high < 65535 → Ordered l → Ordered (store_physical low high l)
unfolding store_physical
store_physical_kept l low high h b o =
    let s = store_physical low high l in
    let k = l.stored.coolest in
    let w = l.stored.warmest in
    by_cases (eqb k 65535)
    (λ e.
    by_cases (eqb w 65535)
    (λ t. in_order s low high (pulled_unset k low high low e) (pulled_unset w low high high t) (omega arith) h (omega arith) b)
    (λ t.
    in_order s low (clamp_to w low high) (pulled_unset k low high low e) (pulled_set w low high high b t) (omega arith) (omega arith)
    (omega arith)
    b))
    (λ e.
    by_cases (eqb w 65535)
    (λ t.
    in_order s (clamp_to k low high) high (pulled_set k low high low b e) (pulled_unset w low high high t) (omega arith) (omega arith)
    (omega arith)
    b)
    (λ t.
    in_order s (clamp_to k low high) (clamp_to w low high) (pulled_set k low high low b e) (pulled_set w low high high b t)
    (omega arith)
    (omega (arith, stored_order l e t o))
    (omega arith)
    b))

store_limit_kept : (l : Limits) (v s : ℕ) → v < 65536 → Ordered l → Ordered (store_limit l v s)
unfolding store_limit
store_limit_kept l v s h o =
    by_cases (eqb s 0) (λ e. rw e (store_coolest_kept l v o))
    (λ e.
    by_cases (eqb s 1) (λ e1. rw (e, e1) (store_warmest_kept l v o))
    (λ e1.
    by_cases (eqb v 65535) (λ u. rw (e, e1, u) o)
    (λ u.
    by_cases (eqb s 2) (λ e2. rw (e, e1, u, e2) (store_physical_kept l (min v l.physical.warmest) l.physical.warmest (omega arith) o.below o))
    (λ e2.
    by_cases (eqb s 3)
    (λ e3. rw (e, e1, u, e2, e3) (store_physical_kept l l.physical.coolest (max v l.physical.coolest) (omega arith) (below u) o))
    (λ e3. rw (e, e1, u, e2, e3) o)))))
  where
    below : eqb v 65535 ≡ false → max v l.physical.coolest < 65535
    below u = let n = eqb-false v 65535 u in omega (arith, o.cool, o.order, o.warm, o.below)

snapped_lies : (a : Tint) (l : Limits) → Ordered l → lies_within (snapped a l) l ≡ true
unfolding lies_within snapped
snapped_lies a l o = by_cases (is_cct a.mode) (λ e. simp e (within_lies l a.tc o)) (λ e. simp e)

pub store_tc_limit_kept : {c : Colour} (v s : ℕ) → v < 65536 → Fit c → Fit (store_tc_limit c v s)
unfolding store_tc_limit
store_tc_limit_kept {c} v s h f =
    let o = store_limit_kept c.limits v s h f.limits in
    by_cases (leb s 3) (λ e. rw e (record { channels = f.channels; limits = o; active = snapped_lies c.active (store_limit c.limits v s) o })) (λ e. rw e f)

-- ---- building and resetting

-- limits that are stored as the physical ones are
same_ordered : (l : Limits) → l.stored ≡ l.physical → l.physical.coolest ≤ l.physical.warmest → l.physical.warmest < 65535 → Ordered l
unfolding effective_coolest effective_warmest
same_ordered l e h b =
    in_order l l.physical.coolest l.physical.warmest (rw e (set_limit l.physical.coolest l.physical.coolest (omega arith)))
    (rw e (set_limit l.physical.warmest l.physical.warmest b))
    (omega arith)
    h
    (omega arith)
    b

pub fresh_fit : (can : Capabilities) (coolest warmest : ℕ) → can.channels ≤ 6 → coolest ≤ warmest → warmest < 65535 → Fit (fresh can coolest warmest)
unfolding fresh lies_within
fresh_fit can coolest warmest n h b =
    record { channels = n; limits = same_ordered (fresh can coolest warmest).limits refl h b; active = refl }

-- wider limits keep a colour temperature within them
wider_lies :
    (a : Tint) (l k : Limits) → effective_coolest k ≤ effective_coolest l → effective_warmest l ≤ effective_warmest k →
    lies_within a l ≡ true → lies_within a k ≡ true
unfolding lies_within
wider_lies a l k p q h = by_cases (is_cct a.mode) (λ e. simp e (inside e)) (λ e. simp e)
  where
    low : Bool
    low = leb (effective_coolest l) a.tc

    high : Bool
    high = leb a.tc (effective_warmest l)

    inside : is_cct a.mode ≡ true → both (leb (effective_coolest k) a.tc) (leb a.tc (effective_warmest k)) ≡ true
    inside e =
        let x = leb-true (effective_coolest l) a.tc (both_left low high (simp e at h)) in
        let y = leb-true a.tc (effective_warmest l) (both_right low high (simp e at h)) in
        both_true (le-leb (effective_coolest k) a.tc (omega arith)) (le-leb a.tc (effective_warmest k) (omega arith))

pub reset_kept : {c : Colour} → Fit c → Fit (reset c)
unfolding reset effective_coolest effective_warmest
reset_kept {c} f =
    let o = f.limits in
    let r : Limits = (reset c).limits in
    let k = set_limit c.limits.physical.coolest c.limits.physical.coolest (omega (arith, o.cool, o.order, o.warm, o.below)) in
    let w = set_limit c.limits.physical.warmest c.limits.physical.warmest o.below in
    record {
      channels = f.channels;
      limits = same_ordered r refl (omega (arith, o.cool, o.order, o.warm)) o.below;
      active = wider_lies c.active c.limits r (rw k o.cool) (rw w o.warm) f.active;
    }
