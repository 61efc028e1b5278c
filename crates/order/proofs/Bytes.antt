-- The bytes that have each key are document 01's: one equation over all 256 bytes, computed.
use Prim.Native.Nat.{ℕ, zero, suc, ◌+◌, ◌<◌}
use mathlib.Core.Path.{◌≡◌, refl, ◌∙◌, sym, ap}
use mathlib.Core.List.{List, [], ◌∷◌, map}
use native.Mathlib.Nat.{add-zero, zero-add, add-suc, suc-add, le_of_suc-le-suc, not-suc-le-zero}
use lib.ListN.{get_or, get_or-map}
use Rattle.order.specs.Bytes.{byte_keys}
use Rattle.order.specs.Keys.{command_keys, config_keys, keys}
use Rattle.order.specs.Writes.Write.{Standard}
use Rattle.gear.specs.Command.{command_of, config_command, level_command}

-- so many numbers from i
abbrev numbers : ℕ → ℕ → List ℕ
numbers i zero = []
numbers i (suc n) = i ∷ numbers (suc i) n

numbers_at : (i n k : ℕ) → k < n → get_or (numbers i n) k 0 ≡ i + k
numbers_at i zero k h = absurd (not-suc-le-zero h)
numbers_at i (suc n) zero h = sym (add-zero i)
numbers_at i (suc n) (suc k) h = numbers_at (suc i) n k (le_of_suc-le-suc h) ∙ suc-add i k ∙ sym (add-suc i k)

all_bytes : map (λ b. command_keys (command_of b)) (numbers 0 256) ≡ map byte_keys (numbers 0 256)
unfolding command_keys config_keys command_of level_command config_command
all_bytes = refl

at_byte : (b : ℕ) → b < 256 → get_or (numbers 0 256) b 0 ≡ b
at_byte b h = numbers_at 0 256 b h ∙ zero-add b

pub byte_keys_lem : (b d : ℕ) → b < 256 → keys (Standard b d) ≡ byte_keys b
unfolding keys command_keys command_of level_command
byte_keys_lem b d h =
    ap (λ n. command_keys (command_of n)) (sym (at_byte b h)) ∙
    sym (get_or-map (λ n. command_keys (command_of n)) (numbers 0 256) b 0) ∙
    ap (λ l. get_or l b (byte_keys 0)) all_bytes ∙
    get_or-map byte_keys (numbers 0 256) b 0 ∙
    ap byte_keys (at_byte b h)
