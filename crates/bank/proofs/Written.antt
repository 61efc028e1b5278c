-- Which locations can be written, and that what is written is read.
use Prim.Native.Nat.{ℕ, ◌≤◌, ◌<◌}
use mathlib.Core.Path.{◌≡◌, refl}
use mathlib.Core.Bool.{Bool, true, false}
use native.Mathlib.Omega.{arith}
use borrow.Author.Tests.{eqb-true, leb-true, ne_eqb, lt-leb}
use lib.Dec.{eqb, leb}
use lib.ListN.{length, get_or}
use lib.Seq.{get_or-set_same}
use Rattle.std.specs.Prelude.{Some}
use Rattle.bank.specs.declared.build.Banks.{Banks}
use Rattle.bank.specs.Memory.{profile_location, lacks_indicator_byte, memory_location, profile_writable, writable, store_profile, stored, write_memory_location}
use Rattle.bank.proofs.Kept.{Sized}
use Rattle.numbers.proofs.Logic.{both_left, both_right}
use Rattle.numbers.specs.Numbers.{both, pick}

-- what can be written lies at 2..16 of bank 1
pub record Within (bank offset : ℕ) : Type 0 where
  pub profile : bank ≡ 1
  pub low : 2 ≤ offset
  pub high : offset ≤ 16

pub writable_within : (b : Banks) (bank offset : ℕ) → writable b bank offset ≡ true → Within bank offset
unfolding profile_writable writable
writable_within b bank offset w =
    let p = both_right (eqb bank 1) (profile_writable b.profile offset) w in
    let o = both_left (both (leb 2 offset) (leb offset 16)) (pick (eqb offset 2) true (eqb (get_or b.profile 2 0) 0x55)) p in
    record {
      profile = eqb-true bank 1 (both_left (eqb bank 1) (profile_writable b.profile offset) w);
      low = leb-true 2 offset (both_left (leb 2 offset) (leb offset 16) o);
      high = leb-true offset 16 (both_right (leb 2 offset) (leb offset 16) o);
    }

-- what can be written is never the indicator byte
not_lacking : (bare : Bool) (offset : ℕ) → 2 ≤ offset → lacks_indicator_byte bare 1 offset ≡ false
unfolding lacks_indicator_byte
not_lacking true offset low = ne_eqb offset 1 (λ o. omega arith)
not_lacking false offset low = refl

-- a location of bank 1 that can be written, and is, answers the value from then on, with or without indicator bytes
pub write_read :
    (b : Banks) (bare : Bool) (offset value : ℕ) →
    Sized b → writable b 1 offset ≡ true → memory_location (write_memory_location b false 1 offset value).banks bare 1 offset ≡ Some value
unfolding profile_location memory_location store_profile stored write_memory_location
write_read b bare offset value s w =
    let i = writable_within b 1 offset w in
    let inside : offset < length b.profile = omega arith in
    simp (w, not_lacking bare offset i.low, ne_eqb offset 0 (λ o. omega arith), lt-leb 17 offset (omega arith), get_or-set_same b.profile offset value 0 inside)
