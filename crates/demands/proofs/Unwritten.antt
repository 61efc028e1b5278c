-- Every call but standard writes, arc power and the power cycle leaves levels, settings and scenes as they are.
use Prim.Native.Nat.{ℕ}
use mathlib.Core.Path.{◌≡◌, refl}
use mathlib.Core.Logic.{◌⊎◌, inl, inr}
use Rattle.demands.specs.Calls.{Call, perform}
use Rattle.demands.specs.Calls.Call.{StandardWrite, ArcPower, Query, Matches, TcStep, XyStep, StoreTcLimit, Stage, Activate, CopyReport, SetFeatures, ColorValue, ColourStatus, Features, ControlByte, FeatureByte, Automatic, ReadMemory, WriteMemory, AdvancesDtr0, ImplementsBank, SetLockByte, SetLocation, SetGearUnit, SetLastOffset, ClearNumber, Hear, HoldsFrame, HearElsewhere, PowerCycle, StatusByte, LampOn, FailureBits, ThermalShutDown, LampFailure, ActualLevel, IsType, SetEnabled, SetLampFailure, SetLampStarting, SetFaults}
use Rattle.calls.proofs.Left.{left}
use Rattle.gear.specs.declared.record.Gear.{Gear}
use Rattle.gear.specs.Parts.{written}
use Rattle.query.proofs.Kept.{gear_query_left}

pub data Writes : Call → Type 0 where
  standard : (byte dtr0 : ℕ) → Writes (StandardWrite byte dtr0)
  arc : (level : ℕ) → Writes (ArcPower level)
  cycle : Writes PowerCycle

pub unwritten : (c : Call) (g : Gear) → (written (perform c g).gear ≡ written g) ⊎ Writes c
unfolding perform
unwritten (StandardWrite byte dtr0) g = inr (standard byte dtr0)
unwritten (ArcPower level) g = inr (arc level)
unwritten (Query byte) g = inl (gear_query_left g byte)
unwritten (Matches whom) g = inl refl
unwritten (TcStep warmer) g = inl (left.tc_step warmer g)
unwritten (XyStep y up) g = inl (left.xy_step y up g)
unwritten (StoreTcLimit value selector) g = inl (left.store_tc_limit value selector g)
unwritten (Stage setting) g = inl (left.stage setting g)
unwritten Activate g = inl (left.activate g)
unwritten CopyReport g = inl (left.copy_report g)
unwritten (SetFeatures features) g = inl (left.set_features features g)
unwritten (ColorValue id) g = inl refl
unwritten ColourStatus g = inl refl
unwritten Features g = inl refl
unwritten ControlByte g = inl refl
unwritten FeatureByte g = inl refl
unwritten Automatic g = inl refl
unwritten (ReadMemory bank offset) g = inl refl
unwritten (WriteMemory bank offset value) g = inl (left.write_memory bank offset value g)
unwritten (AdvancesDtr0 bank offset) g = inl refl
unwritten (ImplementsBank bank) g = inl refl
unwritten (SetLockByte value) g = inl (left.set_lock value g)
unwritten (SetLocation offset value) g = inl (left.set_location offset value g)
unwritten (SetGearUnit units index) g = inl (left.set_unit units index g)
unwritten (SetLastOffset last) g = inl (left.set_last last g)
unwritten ClearNumber g = inl (left.clear_number g)
unwritten (Hear frame repeats) g = inl (left.hear frame repeats g)
unwritten (HoldsFrame frame) g = inl refl
unwritten HearElsewhere g = inl (left.hear_elsewhere g)
unwritten PowerCycle g = inr cycle
unwritten StatusByte g = inl refl
unwritten LampOn g = inl refl
unwritten FailureBits g = inl refl
unwritten ThermalShutDown g = inl refl
unwritten LampFailure g = inl refl
unwritten ActualLevel g = inl refl
unwritten (IsType code) g = inl refl
unwritten (SetEnabled enabled) g = inl (left.set_enabled enabled g)
unwritten (SetLampFailure failure) g = inl (left.set_lamp_failure failure g)
unwritten (SetLampStarting starting) g = inl (left.set_lamp_starting starting g)
unwritten (SetFaults faults) g = inl (left.set_faults faults g)
