-- No answer or field outside the banks depends on a bank byte (document 01, 'Steps that people misread').
use Rattle.std.specs.Prelude.{ℕ, ◌≡◌, List}
use Rattle.demands.specs.Calls.{Behaviour, Call}
use Rattle.demands.specs.Calls.Call.{ReadMemory, WriteMemory, AdvancesDtr0}
use Rattle.demands.specs.Readings.{after}
use Rattle.bank.specs.declared.build.Banks.{Banks}
use Rattle.gear.specs.declared.record.Gear.{Gear}
use Rattle.gear.specs.Parts.{with_banks}

-- memory reads, memory writes and `advances_dtr0_past`
pub data OfBanks : Call → Type 0 where
  read : {bank offset : ℕ} → OfBanks (ReadMemory bank offset)
  write : {bank offset value : ℕ} → OfBanks (WriteMemory bank offset value)
  advances : {bank offset : ℕ} → OfBanks (AdvancesDtr0 bank offset)

-- one record is the other with banks of its own: every other field is the same
abbrev pub SameButBanks : Gear → Gear → Type 0
SameButBanks h g = h ≡ with_banks g h.banks

-- of two records that differ only in their banks, whatever calls come
pub record KeepsBlind (f : Behaviour) : Type 0 where
  -- the same calls leave records that again differ only there
  pub fields : (g : Gear) (b : Banks) (calls : List Call) → SameButBanks (after f calls (with_banks g b)) (after f calls g)
  -- and every call but those of the banks then answers both alike
  pub answers :
      (g : Gear) (b : Banks) (before : List Call) (c : Call) → (OfBanks c → ⊥) →
      (f c (after f before (with_banks g b))).answer ≡ (f c (after f before g)).answer
