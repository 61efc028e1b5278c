-- The digits of a number: each of them, how many there are, and that they say the number.
use Prim.Native.Nat.{ℕ, zero, suc, ◌+◌, ◌-◌, ◌*◌, ◌/◌, ◌%◌, ◌^◌, ◌≤◌, ◌<◌}
use native.Mathlib.Nat.{pow-suc, div-lt_iff_lt-mul, div-add-mod'}
use native.Mathlib.Omega.{arith}
use mathlib.Core.Path.{◌≡◌, refl, ap}
use mathlib.Core.List.{List, [], ◌∷◌, ◌++◌}
use lib.Dec.{leb, ltb}
use lib.ListN.{length, get_or, length-append, get_or-append}
use borrow.Author.Tests.{le-leb, leb-false, leb-true, lt-leb, lt-ltb, ltb-false, ltb-true}
use Rattle.runner.specs.Line.{digit, digits}
use Rattle.numbers.specs.Numbers.{pick}
use Rattle.numbers.proofs.Logic.{by_cases}

-- ## One digit after the other, from the first

-- the units of the first four digits of five, and those of the digits before them
abbrev pub unit : ℕ → ℕ
unit i = get_or (10000 ∷ 1000 ∷ 100 ∷ 10 ∷ []) i 0

abbrev pub unit_before : ℕ → ℕ
unit_before i = get_or (100000 ∷ 10000 ∷ 1000 ∷ 100 ∷ 10 ∷ []) i 0

-- of the first i digits those that are not leading zeros; what is left behind the first i is the rest of a division
unfoldable pub front : ℕ → ℕ → List ℕ
front i n = pick (leb (unit_before i) n) (digits i (n / unit_before i)) []

pub front_none : (n : ℕ) → front 0 n ≡ []
unfolding front digits
front_none n = by_cases (leb 100000 n) (λ e. rw e refl) (λ e. rw e refl)

-- with u the unit of the next digit, and p the one before it
one_more :
    (most n u p : ℕ) → u ≤ n → (n / u < 10 → n < p) → (10 ≤ n / u → p ≤ n) → (n < p → n / u ≡ n % p / u) → n / u / 10 ≡ n / p →
    n / u % 10 ≡ n % p / u → pick (leb u n) (digits (suc most) (n / u)) [] ≡ pick (leb p n) (digits most (n / p)) [] ++ (digit (n % p / u) ∷ [])
unfolding digits
one_more most n u p some few many first before last =
    rw (le-leb u n some)
    (by_cases (ltb (n / u) 10)
    (λ one. let small = few (ltb-true (n / u) 10 one) in rw (one, lt-leb p n small) (ap (λ d. digit d ∷ []) (first small)))
    (λ more. let large = many (ltb-false (n / u) 10 more) in rw (more, le-leb p n large, before, last) refl))

pub front_more : (i n : ℕ) → i < 4 → unit i ≤ n → front (i + 1) n ≡ front i n ++ (digit (n % unit_before i / unit i) ∷ [])
unfolding front
front_more zero n low some = one_more 0 n 10000 100000 some (λ h. omega arith) (λ h. omega arith) (λ h. omega arith) (omega arith) (omega arith)
front_more (suc zero) n low some = one_more 1 n 1000 10000 some (λ h. omega arith) (λ h. omega arith) (λ h. omega arith) (omega arith) (omega arith)
front_more (suc (suc zero)) n low some = one_more 2 n 100 1000 some (λ h. omega arith) (λ h. omega arith) (λ h. omega arith) (omega arith) (omega arith)
front_more (suc (suc (suc zero))) n low some = one_more 3 n 10 100 some (λ h. omega arith) (λ h. omega arith) (λ h. omega arith) (omega arith) (omega arith)
front_more (suc (suc (suc (suc i)))) n low some = absurd (omega arith)

pub front_same : (i n : ℕ) → i < 4 → n < unit i → front (i + 1) n ≡ front i n
unfolding front
front_same zero n low none = rw (lt-leb 10000 n none, lt-leb 100000 n (omega arith)) refl
front_same (suc zero) n low none = rw (lt-leb 1000 n none, lt-leb 10000 n (omega arith)) refl
front_same (suc (suc zero)) n low none = rw (lt-leb 100 n none, lt-leb 1000 n (omega arith)) refl
front_same (suc (suc (suc zero))) n low none = rw (lt-leb 10 n none, lt-leb 100 n (omega arith)) refl
front_same (suc (suc (suc (suc i)))) n low none = absurd (omega arith)

pub rest_more : (i n : ℕ) → i < 4 → n % unit_before i % unit i ≡ n % unit_before (i + 1)
rest_more zero n low = omega arith
rest_more (suc zero) n low = omega arith
rest_more (suc (suc zero)) n low = omega arith
rest_more (suc (suc (suc zero))) n low = omega arith
rest_more (suc (suc (suc (suc i)))) n low = absurd (omega arith)

pub rest_same : (i n : ℕ) → i < 4 → n < unit i → n % unit_before i ≡ n % unit_before (i + 1)
rest_same zero n low none = omega arith
rest_same (suc zero) n low none = omega arith
rest_same (suc (suc zero)) n low none = omega arith
rest_same (suc (suc (suc zero))) n low none = omega arith
rest_same (suc (suc (suc (suc i)))) n low none = absurd (omega arith)

pub rest_digit : (i n : ℕ) → i < 4 → n % unit_before i / unit i < 10
rest_digit zero n low = omega arith
rest_digit (suc zero) n low = omega arith
rest_digit (suc (suc zero)) n low = omega arith
rest_digit (suc (suc (suc zero))) n low = omega arith
rest_digit (suc (suc (suc (suc i)))) n low = absurd (omega arith)

-- the last digit stands there, zero or not
pub front_last : (n : ℕ) → digits 5 n ≡ front 4 n ++ (digit (n % 10) ∷ [])
unfolding front digits
front_last n =
    by_cases (ltb n 10)
    (λ one. let small = ltb-true n 10 one in rw (one, lt-leb 10 n small) (ap (λ d. digit d ∷ []) (omega arith)))
    (λ more. rw (more, le-leb 10 n (ltb-false n 10 more)) refl)

front_grows : (i n : ℕ) → i < 4 → length (front i n) ≤ length (front (i + 1) n)
front_grows i n low =
    by_cases (leb (unit i) n)
    (λ some. rw (front_more i n low (leb-true (unit i) n some), length-append) (omega arith))
    (λ none. rw (front_same i n low (leb-false (unit i) n none)) (omega arith))

within :
    (i n : ℕ) {m : ℕ} → i ≤ 4 → m ≡ length (front 4 n) + 1 → length (front 0 n) ≤ length (front 1 n) → length (front 1 n) ≤ length (front 2 n) →
    length (front 2 n) ≤ length (front 3 n) → length (front 3 n) ≤ length (front 4 n) → length (front i n) + 1 ≤ m
within zero n low e a b c d = omega arith
within (suc zero) n low e a b c d = omega arith
within (suc (suc zero)) n low e a b c d = omega arith
within (suc (suc (suc zero))) n low e a b c d = omega arith
within (suc (suc (suc (suc zero)))) n low e a b c d = omega arith
within (suc (suc (suc (suc (suc i))))) n low e a b c d = absurd (omega arith)

-- there is room for one digit behind the first i
pub front_within : (i n : ℕ) → i ≤ 4 → length (front i n) + 1 ≤ length (digits 5 n)
front_within i n low =
    let last : length (digits 5 n) ≡ length (front 4 n) + 1 = rw (front_last n, length-append) refl in
    let a = front_grows 0 n (omega arith) in
    let b = front_grows 1 n (omega arith) in
    let c = front_grows 2 n (omega arith) in
    let d = front_grows 3 n (omega arith) in
    within i n low last a b c d

-- ## How many

pub digits_length : (most n k : ℕ) → 0 < k → n < 10 ^ k → length (digits most n) ≤ k
unfolding digits
digits_length zero n k h small = omega arith
digits_length (suc most) n zero h small = absurd (omega arith)
digits_length (suc most) n (suc zero) h small = rw (lt-ltb n 10 small) (omega arith)
digits_length (suc most) n (suc (suc k)) h small =
    by_cases (ltb n 10)
    (λ one. rw one (omega arith))
    (λ more.
    let fewer : n / 10 < 10 ^ suc k = (div-lt_iff_lt-mul (omega arith)).1 (rw pow-suc at small) in
    let before = digits_length most (n / 10) (suc k) (omega arith) fewer in
    rw (more, length-append) (omega arith))

-- ## What they say

-- a text of digits read as a number, behind one that was read already
abbrev pub value : ℕ → List ℕ → ℕ
value v [] = v
value v (d ∷ ds) = value (v * 10 + (d - 48)) ds

value_snoc : (v : ℕ) (ds : List ℕ) (d : ℕ) → value v (ds ++ (d ∷ [])) ≡ value v ds * 10 + (d - 48)
value_snoc v [] d = refl
value_snoc v (x ∷ ds) d = value_snoc (v * 10 + (x - 48)) ds d

-- read again, the digits are the number
pub digits_value : (most n : ℕ) → n < 10 ^ most → value 0 (digits most n) ≡ n
unfolding digits
digits_value zero n small = omega arith
digits_value (suc most) n small =
    by_cases (ltb n 10)
    (λ one. rw one (omega arith))
    (λ more.
    let fewer : n / 10 < 10 ^ most = (div-lt_iff_lt-mul (omega arith)).1 (rw pow-suc at small) in
    rw (more, value_snoc, digits_value most (n / 10) fewer) (omega (arith, div-add-mod' n 10)))

some : (most n : ℕ) → 0 < most → 0 < length (digits most n)
unfolding digits
some zero n h = absurd (omega arith)
some (suc most) n h = by_cases (ltb n 10) (λ one. rw one (omega arith)) (λ more. rw (more, length-append) (omega arith))

-- no leading zero, but for 0 itself
pub digits_first : (most n : ℕ) → 0 < n → n < 10 ^ most → 48 < get_or (digits most n) 0 0
unfolding digits
digits_first zero n h small = absurd (omega arith)
digits_first (suc zero) n h small = rw (lt-ltb n 10 small) (omega arith)
digits_first (suc (suc most)) n h small =
    by_cases (ltb n 10)
    (λ one. rw one (omega arith))
    (λ more.
    let large = ltb-false n 10 more in
    let fewer : n / 10 < 10 ^ suc most = (div-lt_iff_lt-mul (omega arith)).1 (rw pow-suc at small) in
    rw more
    (rw (get_or-append (digits (suc most) (n / 10)) (digit (n % 10) ∷ []) 0 0 (some (suc most) (n / 10) (omega arith)))
    (digits_first (suc most) (n / 10) (omega arith) fewer)))

-- never more digits than asked for
pub digits_most : (most n : ℕ) → length (digits most n) ≤ most
unfolding digits
digits_most zero n = omega arith
digits_most (suc most) n =
    by_cases (ltb n 10) (λ e. rw e (omega arith))
    (λ e. rw e (let h = digits_most most (n / 10) in rw length-append (omega arith)))
