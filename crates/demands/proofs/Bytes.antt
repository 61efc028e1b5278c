-- Document 01's ranges hold exactly the bytes that the rules know as writes and as queries.
use Prim.Native.Nat.{ℕ, ◌≤◌, ◌<◌, ◌/◌}
use mathlib.Core.Path.{◌≡◌, refl, sym, ◌∙◌}
use mathlib.Core.Bool.{Bool, true, false, not}
use mathlib.Core.List.{List, [], ◌∷◌}
use lib.Dec.{T, leb, ltb, lit<}
use lib.ListN.{replicate, length-replicate}
use native.Mathlib.Nat.{le-div_iff_mul-le}
use native.Mathlib.Omega.{arith}
use borrow.Author.Tests.{leb-true, lt-leb, ltb-true, ltb-false, ne_eqb}
use Rattle.std.specs.Prelude.{None}
use Rattle.demands.specs.Refusals.{listed, write_bytes, query_bytes}
use Rattle.gear.specs.Command.{command_of}
use Rattle.gear.proofs.Refusals.{is_write}
use Rattle.numbers.specs.Numbers.{both}
use Rattle.numbers.proofs.Logic.{by_cases, both_left, both_right}
use Rattle.numbers.proofs.Table.{at}
use Rattle.query.specs.Reply.{is_query, is_status_query, is_setting_query}

abbrev same : Bool → Bool → Bool
same true b = b
same false b = not b

same_eq : (a b : Bool) → T (same a b) → a ≡ b
same_eq true true t = refl
same_eq true false t = absurd t
same_eq false true t = absurd t
same_eq false false t = refl

-- ## Below 256: one test over all bytes

write_agrees : ℕ → ℕ → Bool
write_agrees b x = same (is_write b) (listed write_bytes b)

pub write_listed : (b : ℕ) → b < 256 → is_write b ≡ listed write_bytes b
unfolding write_agrees
write_listed b h = same_eq (is_write b) (listed write_bytes b) (at write_agrees (replicate 256 0) tt b (rw length-replicate h))

query_agrees : ℕ → ℕ → Bool
unfolding is_query is_status_query is_setting_query
query_agrees b x = same (is_query b) (listed query_bytes b)

query_low : (b : ℕ) → b < 256 → is_query b ≡ listed query_bytes b
unfolding query_agrees is_query is_status_query is_setting_query
query_low b h = same_eq (is_query b) (listed query_bytes b) (at query_agrees (replicate 256 0) tt b (rw length-replicate h))

-- ## From 256 on: no range reaches there, and no rule

abbrev pub ends : List (ℕ × ℕ) → Bool
ends [] = true
ends (range ∷ ranges) = both (leb range.1 255) (ends ranges)

pub unlisted : (ranges : List (ℕ × ℕ)) (b : ℕ) → ends ranges ≡ true → 256 ≤ b → listed ranges b ≡ false
unlisted [] b e h = refl
unlisted (range ∷ ranges) b e h =
    let last = leb-true range.1 255 (both_left (leb range.1 255) (ends ranges) e) in
    let rest = unlisted ranges b (both_right (leb range.1 255) (ends ranges) e) h in
    by_cases (leb range.0 b) (λ from. rw (from, lt-leb b range.1 (omega arith)) rest) (λ from. rw from rest)

high_half : (b : ℕ) → 256 ≤ b → 16 ≤ b / 16
high_half b h = (le-div_iff_mul-le (lit< tt)).1 h

pub write_high : (b : ℕ) → 256 ≤ b → listed write_bytes b ≡ false
write_high b h = unlisted write_bytes b refl h

pub command_high : (b : ℕ) → 256 ≤ b → command_of b ≡ None
unfolding command_of
command_high b h =
    let half = high_half b h in
    simp (
      ne_eqb b 48 (λ e. omega arith),
      ne_eqb b 129 (λ e. omega arith),
      ne_eqb (b / 16) 0 (λ e. omega arith),
      ne_eqb (b / 16) 1 (λ e. omega arith),
      ne_eqb (b / 16) 2 (λ e. omega arith),
      ne_eqb (b / 16) 4 (λ e. omega arith),
      ne_eqb (b / 16) 5 (λ e. omega arith),
      ne_eqb (b / 16) 6 (λ e. omega arith),
      ne_eqb (b / 16) 7 (λ e. omega arith),
    )

query_high : (b : ℕ) → 256 ≤ b → is_query b ≡ false
unfolding is_query
query_high b h =
    let half = high_half b h in
    simp (
      ne_eqb (b / 16) 9 (λ e. omega arith),
      ne_eqb (b / 16) 10 (λ e. omega arith),
      ne_eqb (b / 16) 11 (λ e. omega arith),
      ne_eqb (b / 16) 12 (λ e. omega arith),
    )

pub query_listed : (b : ℕ) → is_query b ≡ listed query_bytes b
query_listed b =
    by_cases (ltb b 256) (λ e. query_low b (ltb-true b 256 e))
    (λ e. let h = ltb-false b 256 e in query_high b h ∙ sym (unlisted query_bytes b refl h))
