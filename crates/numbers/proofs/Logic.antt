-- Tests taken apart and put together.
use mathlib.Core.Path.{◌≡◌, refl, sym, subst}
use mathlib.Core.Bool.{Bool, true, false}
use Rattle.numbers.specs.Numbers.{both}

pub by_cases {ℓ} : {P : Type ℓ} (b : Bool) → (b ≡ true → P) → (b ≡ false → P) → P
by_cases true holds fails = holds refl
by_cases false holds fails = fails refl

pub both_true : {a b : Bool} → a ≡ true → b ≡ true → both a b ≡ true
both_true {a} {b} p q = rw (p, q)

abbrev IsTrue : Bool → Type 0
IsTrue true = Unit {0}
IsTrue false = ⊥

pub no_false : {P : Type 0} → false ≡ true → P
no_false e = absurd (subst IsTrue (sym e) tt)

pub both_left : (a b : Bool) → both a b ≡ true → a ≡ true
both_left true b e = refl
both_left false b e = no_false e

pub both_right : (a b : Bool) → both a b ≡ true → b ≡ true
both_right true b e = e
both_right false b e = no_false e

pub both_three : (a b c : Bool) → both a (both b c) ≡ true → (a ≡ true) × (b ≡ true) × (c ≡ true)
both_three a b c e = let r : both b c ≡ true = both_right a (both b c) e in (both_left a (both b c) e, both_left b c r, both_right b c r)
