-- Document 01's table 'Numbers given back on refusal', for the calls that take a record.
use Rattle.std.specs.Prelude.{ℕ, Bool, true, false, List, [], ◌∷◌, ◌≡◌, leb, ltb, Ok, Err}
use Rattle.std.proofs.Math.Option.{Option, none, some}
use Rattle.demands.specs.Calls.{Behaviour, Call}
use Rattle.demands.specs.Calls.Call.{StandardWrite, ArcPower, Query, Matches, TcStep, XyStep, StoreTcLimit, Stage, Activate, CopyReport, SetFeatures, ColorValue, ColourStatus, Features, ControlByte, FeatureByte, Automatic, ReadMemory, WriteMemory, AdvancesDtr0, ImplementsBank, SetLockByte, SetLocation, SetGearUnit, SetLastOffset, ClearNumber, Hear, HoldsFrame, HearElsewhere, PowerCycle, StatusByte, LampOn, FailureBits, ThermalShutDown, LampFailure, ActualLevel, IsType, SetEnabled, SetLampFailure, SetLampStarting, SetFaults}
use Rattle.calls.specs.declared.address.Address.{Address}
use Rattle.calls.specs.declared.address.Address.TheVariants.{Short, Group, Broadcast, Unaddressed}
use Rattle.gear.specs.Answer.{Answer, refused}
use Rattle.gear.specs.declared.answer.Reply.TheVariants.{Done, Value, Nothing, Incapable}
use Rattle.gear.specs.declared.answer.Outcome.{Outcome}
use Rattle.gear.specs.declared.answer.Refusal.{Refusal}
use Rattle.gear.specs.declared.answer.Refusal.TheVariants.{Unfit, Byte, Group as GroupAbove}
use Rattle.gear.specs.declared.record.Gear.{Gear}
use Rattle.gear.specs.Record.{fitb}
use Rattle.numbers.specs.Numbers.{both, pick}

-- ## The bytes of document 01, 'Command bytes'

-- ranges, each by its first and its last byte
abbrev pub listed : List (ℕ × ℕ) → ℕ → Bool
listed [] b = false
listed (range ∷ ranges) b = pick (both (leb range.0 b) (leb b range.1)) true (listed ranges b)

abbrev pub write_bytes : List (ℕ × ℕ)
write_bytes =
    (0, 8) ∷ (10, 10) ∷ (16, 31) ∷ (32, 32) ∷ (37, 37) ∷ (42, 48) ∷ (64, 79) ∷ (80, 95) ∷ (96, 111) ∷ (112, 127) ∷ (129, 129) ∷ []

abbrev pub query_bytes : List (ℕ × ℕ)
query_bytes = (144, 151) ∷ (153, 155) ∷ (158, 168) ∷ (170, 170) ∷ (176, 191) ∷ (192, 193) ∷ (194, 196) ∷ []

-- ## The table

abbrev pub group_refusal : Address → Option Refusal
group_refusal (Short a) = none
group_refusal (Group n) = pick (ltb 15 n) (some GroupAbove) none
group_refusal Broadcast = none
group_refusal Unaddressed = none

-- to a fit record: 3 where the byte is not in this call's table, 4 for a group address above 15, and no other call is refused
abbrev pub table_of : Call → Option Refusal
table_of (StandardWrite byte dtr0) = pick (listed write_bytes byte) none (some Byte)
table_of (ArcPower level) = none
table_of (Query byte) = pick (listed query_bytes byte) none (some Byte)
table_of (Matches whom) = group_refusal whom
table_of (TcStep warmer) = none
table_of (XyStep y up) = none
table_of (StoreTcLimit value selector) = none
table_of (Stage setting) = none
table_of Activate = none
table_of CopyReport = none
table_of (SetFeatures features) = none
table_of (ColorValue id) = none
table_of ColourStatus = none
table_of Features = none
table_of ControlByte = none
table_of FeatureByte = none
table_of Automatic = none
table_of (ReadMemory bank offset) = none
table_of (WriteMemory bank offset value) = none
table_of (AdvancesDtr0 bank offset) = none
table_of (ImplementsBank bank) = none
table_of (SetLockByte value) = none
table_of (SetLocation offset value) = none
table_of (SetGearUnit units index) = none
table_of (SetLastOffset last) = none
table_of ClearNumber = none
table_of (Hear frame repeats) = none
table_of (HoldsFrame frame) = none
table_of HearElsewhere = none
table_of PowerCycle = none
table_of StatusByte = none
table_of LampOn = none
table_of FailureBits = none
table_of ThermalShutDown = none
table_of LampFailure = none
table_of ActualLevel = none
table_of (IsType code) = none
table_of (SetEnabled enabled) = none
table_of (SetLampFailure failure) = none
table_of (SetLampStarting starting) = none
table_of (SetFaults faults) = none

-- 2 is tested before 3 and 4
abbrev pub refusal_of : Call → Gear → Option Refusal
refusal_of c g = pick (fitb g) (table_of c) (some Unfit)

-- ## What the table says of an outcome

abbrev pub is_refusal : Answer → Bool
is_refusal (Ok Done) = false
is_refusal (Ok (Value n)) = false
is_refusal (Ok Nothing) = false
is_refusal (Ok (Incapable need)) = false
is_refusal (Err r) = true

-- the named refusal with the record as it was, and no other answer; or where none is named, an answer that is no refusal at all
abbrev pub Judged : Option Refusal → Gear → Outcome → Type 0
Judged none g o = is_refusal o.answer ≡ false
Judged (some r) g o = o ≡ refused g r

-- Demand 1: every call of every record is refused exactly as the table says
abbrev pub RefusesExactly : Behaviour → Type 0
RefusesExactly f = (c : Call) (g : Gear) → Judged (refusal_of c g) g (f c g)
