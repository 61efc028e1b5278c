-- What a call promises is what its rule says.
use mathlib.Core.Path.{◌≡◌, refl}
use Rattle.demands.specs.Calls.{Call, told, perform}
use Rattle.demands.specs.Calls.Call.{StandardWrite, ArcPower, Query, Matches, TcStep, XyStep, StoreTcLimit, Stage, Activate, CopyReport, SetFeatures, ColorValue, ColourStatus, Features, ControlByte, FeatureByte, Automatic, ReadMemory, WriteMemory, AdvancesDtr0, ImplementsBank, SetLockByte, SetLocation, SetGearUnit, SetLastOffset, ClearNumber, Hear, HoldsFrame, HearElsewhere, PowerCycle, StatusByte, LampOn, FailureBits, ThermalShutDown, LampFailure, ActualLevel, IsType, SetEnabled, SetLampFailure, SetLampStarting, SetFaults}
use Rattle.demands.specs.Promises.{Promised}
use Rattle.gear.specs.declared.answer.Outcome.{Outcome}
use Rattle.gear.specs.declared.record.Gear.{Gear}
use Rattle.gear.specs.Answer.{Answer}

answered : (g : Gear) (o : Outcome) {a : Answer} → (o.answer ≡ a) × (o.gear ≡ g) → o ≡ told g a
answered g o (p, q) = λ i. record { answer = p i; gear = q i }

pub promised_rule : (c : Call) (g : Gear) (o : Outcome) → Promised c g o → o ≡ perform c g
unfolding perform
promised_rule (StandardWrite byte dtr0) g o p = p
promised_rule (ArcPower level) g o p = p
promised_rule (Query byte) g o p = p
promised_rule (Matches whom) g o p = answered g o p
promised_rule (TcStep warmer) g o p = p
promised_rule (XyStep y up) g o p = p
promised_rule (StoreTcLimit value selector) g o p = p
promised_rule (Stage setting) g o p = p
promised_rule Activate g o p = p
promised_rule CopyReport g o p = p
promised_rule (SetFeatures features) g o p = p
promised_rule (ColorValue id) g o p = answered g o p
promised_rule ColourStatus g o p = answered g o p
promised_rule Features g o p = answered g o p
promised_rule ControlByte g o p = answered g o p
promised_rule FeatureByte g o p = answered g o p
promised_rule Automatic g o p = answered g o p
promised_rule (ReadMemory bank offset) g o p = answered g o p
promised_rule (WriteMemory bank offset value) g o p = p
promised_rule (AdvancesDtr0 bank offset) g o p = answered g o p
promised_rule (ImplementsBank bank) g o p = answered g o p
promised_rule (SetLockByte value) g o p = p
promised_rule (SetLocation offset value) g o p = p
promised_rule (SetGearUnit units index) g o p = p
promised_rule (SetLastOffset last) g o p = p
promised_rule ClearNumber g o p = p
promised_rule (Hear frame repeats) g o p = p
promised_rule (HoldsFrame frame) g o p = answered g o p
promised_rule HearElsewhere g o p = p
promised_rule PowerCycle g o p = p
promised_rule StatusByte g o p = answered g o p
promised_rule LampOn g o p = answered g o p
promised_rule FailureBits g o p = answered g o p
promised_rule ThermalShutDown g o p = answered g o p
promised_rule LampFailure g o p = answered g o p
promised_rule ActualLevel g o p = answered g o p
promised_rule (IsType code) g o p = answered g o p
promised_rule (SetEnabled enabled) g o p = p
promised_rule (SetLampFailure failure) g o p = p
promised_rule (SetLampStarting starting) g o p = p
promised_rule (SetFaults faults) g o p = p

-- and the rule's outcome is one that the call may have
pub rule_promised : (c : Call) (g : Gear) → Promised c g (perform c g)
unfolding perform
rule_promised (StandardWrite byte dtr0) g = refl
rule_promised (ArcPower level) g = refl
rule_promised (Query byte) g = refl
rule_promised (Matches whom) g = (refl, refl)
rule_promised (TcStep warmer) g = refl
rule_promised (XyStep y up) g = refl
rule_promised (StoreTcLimit value selector) g = refl
rule_promised (Stage setting) g = refl
rule_promised Activate g = refl
rule_promised CopyReport g = refl
rule_promised (SetFeatures features) g = refl
rule_promised (ColorValue id) g = (refl, refl)
rule_promised ColourStatus g = (refl, refl)
rule_promised Features g = (refl, refl)
rule_promised ControlByte g = (refl, refl)
rule_promised FeatureByte g = (refl, refl)
rule_promised Automatic g = (refl, refl)
rule_promised (ReadMemory bank offset) g = (refl, refl)
rule_promised (WriteMemory bank offset value) g = refl
rule_promised (AdvancesDtr0 bank offset) g = (refl, refl)
rule_promised (ImplementsBank bank) g = (refl, refl)
rule_promised (SetLockByte value) g = refl
rule_promised (SetLocation offset value) g = refl
rule_promised (SetGearUnit units index) g = refl
rule_promised (SetLastOffset last) g = refl
rule_promised ClearNumber g = refl
rule_promised (Hear frame repeats) g = refl
rule_promised (HoldsFrame frame) g = (refl, refl)
rule_promised HearElsewhere g = refl
rule_promised PowerCycle g = refl
rule_promised StatusByte g = (refl, refl)
rule_promised LampOn g = (refl, refl)
rule_promised FailureBits g = (refl, refl)
rule_promised ThermalShutDown g = (refl, refl)
rule_promised LampFailure g = (refl, refl)
rule_promised ActualLevel g = (refl, refl)
rule_promised (IsType code) g = (refl, refl)
rule_promised (SetEnabled enabled) g = refl
rule_promised (SetLampFailure failure) g = refl
rule_promised (SetLampStarting starting) g = refl
rule_promised (SetFaults faults) g = refl
