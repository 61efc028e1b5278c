-- What the Rattle function of each call promises, as its own `ensures` says it: o is an outcome that the call may have.
use Rattle.std.specs.Prelude.{ℕ, ◌≡◌}
use Rattle.demands.specs.Calls.{Call}
use Rattle.demands.specs.Calls.Call.{StandardWrite, ArcPower, Query, Matches, TcStep, XyStep, StoreTcLimit, Stage, Activate, CopyReport, SetFeatures, ColorValue, ColourStatus, Features, ControlByte, FeatureByte, Automatic, ReadMemory, WriteMemory, AdvancesDtr0, ImplementsBank, SetLockByte, SetLocation, SetGearUnit, SetLastOffset, ClearNumber, Hear, HoldsFrame, HearElsewhere, PowerCycle, StatusByte, LampOn, FailureBits, ThermalShutDown, LampFailure, ActualLevel, IsType, SetEnabled, SetLampFailure, SetLampStarting, SetFaults}
use Rattle.calls.proofs.address
use Rattle.calls.proofs.colours
use Rattle.calls.proofs.memory
use Rattle.calls.proofs.pairing
use Rattle.calls.proofs.power
use Rattle.calls.proofs.reads
use Rattle.calls.proofs.setters
use Rattle.gear.proofs.write
use Rattle.query.proofs.reply
use Rattle.gear.specs.declared.answer.Outcome.{Outcome}
use Rattle.gear.specs.declared.profile.Profile.{Profile}
use Rattle.gear.specs.declared.record.Gear.{Gear}
use Rattle.gear.proofs.record
use Rattle.step.proofs.step

-- `Post` is the function's promise, of its arguments, its result, and its arguments as they are at the end, which for values is as
-- they were. A call that only answers hands back no record: the caller's own stays as it was.
abbrev pub Promised : Call → Gear → Outcome → Type 0
Promised (StandardWrite byte dtr0) g o = write.apply_standard_write.Reads.Post tt (g, (byte, (dtr0, tt))) o (g, (byte, (dtr0, tt)))
Promised (ArcPower level) g o = write.direct_arc_power.Reads.Post tt (g, (level, tt)) o (g, (level, tt))
Promised (Query byte) g o = reply.gear_query_reply.Reads.Post tt (g, (byte, tt)) o (g, (byte, tt))
Promised (Matches whom) g o = (address.matches.Reads.Post tt (g, (whom, tt)) o.answer (g, (whom, tt))) × (o.gear ≡ g)
Promised (TcStep warmer) g o = colours.tc_step.Reads.Post tt (g, (warmer, tt)) o (g, (warmer, tt))
Promised (XyStep y up) g o = colours.xy_step.Reads.Post tt (g, (y, (up, tt))) o (g, (y, (up, tt)))
Promised (StoreTcLimit value selector) g o = colours.store_tc_limit.Reads.Post tt (g, (value, (selector, tt))) o (g, (value, (selector, tt)))
Promised (Stage setting) g o = colours.load_temporaries_from.Reads.Post tt (g, (setting, tt)) o (g, (setting, tt))
Promised Activate g o = colours.activate_pending_color.Reads.Post tt (g, tt) o (g, tt)
Promised CopyReport g o = colours.copy_report_to_temporary.Reads.Post tt (g, tt) o (g, tt)
Promised (SetFeatures features) g o = colours.set_gear_features.Reads.Post tt (g, (features, tt)) o (g, (features, tt))
Promised (ColorValue id) g o = (colours.color_value.Reads.Post tt (g, (id, tt)) o.answer (g, (id, tt))) × (o.gear ≡ g)
Promised ColourStatus g o = (colours.dt8_colour_status.Reads.Post tt (g, tt) o.answer (g, tt)) × (o.gear ≡ g)
Promised Features g o = (colours.dt8_features.Reads.Post tt (g, tt) o.answer (g, tt)) × (o.gear ≡ g)
Promised ControlByte g o = (colours.rgbwaf_control_byte.Reads.Post tt (g, tt) o.answer (g, tt)) × (o.gear ≡ g)
Promised FeatureByte g o = (colours.gear_features_byte.Reads.Post tt (g, tt) o.answer (g, tt)) × (o.gear ≡ g)
Promised Automatic g o = (colours.automatic_activation.Reads.Post tt (g, tt) o.answer (g, tt)) × (o.gear ≡ g)
Promised (ReadMemory bank offset) g o = (memory.memory_location.Reads.Post tt (g, (bank, (offset, tt))) o.answer (g, (bank, (offset, tt)))) × (o.gear ≡ g)
Promised (WriteMemory bank offset value) g o = memory.write_memory_location.Reads.Post tt (g, (bank, (offset, (value, tt)))) o (g, (bank, (offset, (value, tt))))
Promised (AdvancesDtr0 bank offset) g o = (memory.advances_dtr0_past.Reads.Post tt (g, (bank, (offset, tt))) o.answer (g, (bank, (offset, tt)))) × (o.gear ≡ g)
Promised (ImplementsBank bank) g o = (memory.implements_bank.Reads.Post tt (g, (bank, tt)) o.answer (g, (bank, tt))) × (o.gear ≡ g)
Promised (SetLockByte value) g o = memory.set_bank1_lock_byte.Reads.Post tt (g, (value, tt)) o (g, (value, tt))
Promised (SetLocation offset value) g o = memory.set_bank1_location.Reads.Post tt (g, (offset, (value, tt))) o (g, (offset, (value, tt)))
Promised (SetGearUnit units index) g o = memory.set_logical_gear_unit.Reads.Post tt (g, (units, (index, tt))) o (g, (units, (index, tt)))
Promised (SetLastOffset last) g o = memory.set_bank0_last_offset.Reads.Post tt (g, (last, tt)) o (g, (last, tt))
Promised ClearNumber g o = memory.clear_identification_number.Reads.Post tt (g, tt) o (g, tt)
Promised (Hear frame repeats) g o = pairing.hear.Reads.Post tt (g, (frame, (repeats, tt))) o (g, (frame, (repeats, tt)))
Promised (HoldsFrame frame) g o = (pairing.holds.Reads.Post tt (g, (frame, tt)) o.answer (g, (frame, tt))) × (o.gear ≡ g)
Promised HearElsewhere g o = pairing.hear_elsewhere.Reads.Post tt (g, tt) o (g, tt)
Promised PowerCycle g o = power.power_cycle.Reads.Post tt (g, tt) o (g, tt)
Promised StatusByte g o = (reads.status_byte.Reads.Post tt (g, tt) o.answer (g, tt)) × (o.gear ≡ g)
Promised LampOn g o = (reads.lamp_on.Reads.Post tt (g, tt) o.answer (g, tt)) × (o.gear ≡ g)
Promised FailureBits g o = (reads.failure_bits.Reads.Post tt (g, tt) o.answer (g, tt)) × (o.gear ≡ g)
Promised ThermalShutDown g o = (reads.thermal_shut_down.Reads.Post tt (g, tt) o.answer (g, tt)) × (o.gear ≡ g)
Promised LampFailure g o = (reads.lamp_failure_from_207.Reads.Post tt (g, tt) o.answer (g, tt)) × (o.gear ≡ g)
Promised ActualLevel g o = (reads.actual_level_answer.Reads.Post tt (g, tt) o.answer (g, tt)) × (o.gear ≡ g)
Promised (IsType code) g o = (reads.is_type.Reads.Post tt (g, (code, tt)) o.answer (g, (code, tt))) × (o.gear ≡ g)
Promised (SetEnabled enabled) g o = setters.set_enabled.Reads.Post tt (g, (enabled, tt)) o (g, (enabled, tt))
Promised (SetLampFailure failure) g o = setters.set_lamp_failure.Reads.Post tt (g, (failure, tt)) o (g, (failure, tt))
Promised (SetLampStarting starting) g o = setters.set_lamp_starting.Reads.Post tt (g, (starting, tt)) o (g, (starting, tt))
Promised (SetFaults faults) g o = setters.set_faults.Reads.Post tt (g, (faults, tt)) o (g, (faults, tt))

-- building a gear, and a step of a session
abbrev pub PromisedNew : Profile → Outcome → Type 0
PromisedNew p o = record.Gear.new.Reads.Post tt (p, tt) o (p, tt)

abbrev pub PromisedStep : Gear → ℕ → ℕ → ℕ → ℕ → Outcome → Type 0
PromisedStep g kind a b c o = step.Reads.Post tt (g, (kind, (a, (b, (c, tt))))) o (g, (kind, (a, (b, (c, tt)))))
