-- Every call keeps a fit record fit, and every call but the power cycle the bounds of the level.
use mathlib.Core.Path.{◌≡◌, refl, ap}
use mathlib.Core.Bool.{true}
use mathlib.Core.Logic.{◌⊎◌, inl, inr, ⊎_elim}
use Rattle.demands.specs.Calls.{Call, perform}
use Rattle.demands.specs.Calls.Call.{StandardWrite, ArcPower, Query, Matches, TcStep, XyStep, StoreTcLimit, Stage, Activate, CopyReport, SetFeatures, ColorValue, ColourStatus, Features, ControlByte, FeatureByte, Automatic, ReadMemory, WriteMemory, AdvancesDtr0, ImplementsBank, SetLockByte, SetLocation, SetGearUnit, SetLastOffset, ClearNumber, Hear, HoldsFrame, HearElsewhere, PowerCycle, StatusByte, LampOn, FailureBits, ThermalShutDown, LampFailure, ActualLevel, IsType, SetEnabled, SetLampFailure, SetLampStarting, SetFaults}
use Rattle.demands.specs.Kept.{Sized, KeepsFit, KeepsBounds}
use Rattle.demands.proofs.Fit.{fit_exactly}
use Rattle.demands.proofs.Unwritten.{Writes, unwritten}
use Rattle.demands.proofs.Unwritten.Writes.{standard, arc, cycle}
use Rattle.calls.proofs.Kept.{activate_kept, clear_number_kept, copy_report_kept, hear_elsewhere_kept, hear_kept, power_cycle_kept, set_enabled_kept, set_faults_kept, set_features_kept, set_lamp_failure_kept, set_lamp_starting_kept, set_last_kept, set_location_kept, set_lock_kept, set_unit_kept, stage_kept, store_tc_limit_kept, tc_step_kept, write_memory_kept, xy_step_kept}
use Rattle.gear.specs.declared.record.Gear.{Gear}
use Rattle.gear.specs.Parts.{written}
use Rattle.gear.specs.Record.{fitb}
use Rattle.gear.proofs.Bounds.{arc_power_bounded, standard_write_bounded}
use Rattle.gear.proofs.Kept.{arc_power_kept, standard_write_kept}
use Rattle.level.specs.Levels.{Bounded}
use Rattle.query.proofs.Kept.{gear_query_kept}

-- by the test of the code
keeps_tested : (c : Call) (g : Gear) → Sized c → fitb g ≡ true → fitb (perform c g).gear ≡ true
unfolding perform
keeps_tested (StandardWrite byte dtr0) g h e = standard_write_kept g byte dtr0 e
keeps_tested (ArcPower level) g h e = arc_power_kept g level e
keeps_tested (Query byte) g h e = gear_query_kept g byte e
keeps_tested (Matches whom) g h e = e
keeps_tested (TcStep warmer) g h e = tc_step_kept g warmer e
keeps_tested (XyStep y up) g h e = xy_step_kept g y up e
keeps_tested (StoreTcLimit value selector) g h e = store_tc_limit_kept g value selector (h value selector refl) e
keeps_tested (Stage setting) g h e = stage_kept g setting e
keeps_tested Activate g h e = activate_kept g e
keeps_tested CopyReport g h e = copy_report_kept g e
keeps_tested (SetFeatures features) g h e = set_features_kept g features e
keeps_tested (ColorValue id) g h e = e
keeps_tested ColourStatus g h e = e
keeps_tested Features g h e = e
keeps_tested ControlByte g h e = e
keeps_tested FeatureByte g h e = e
keeps_tested Automatic g h e = e
keeps_tested (ReadMemory bank offset) g h e = e
keeps_tested (WriteMemory bank offset value) g h e = write_memory_kept g bank offset value e
keeps_tested (AdvancesDtr0 bank offset) g h e = e
keeps_tested (ImplementsBank bank) g h e = e
keeps_tested (SetLockByte value) g h e = set_lock_kept g value e
keeps_tested (SetLocation offset value) g h e = set_location_kept g offset value e
keeps_tested (SetGearUnit units index) g h e = set_unit_kept g units index e
keeps_tested (SetLastOffset last) g h e = set_last_kept g last e
keeps_tested ClearNumber g h e = clear_number_kept g e
keeps_tested (Hear frame repeats) g h e = hear_kept g frame repeats e
keeps_tested (HoldsFrame frame) g h e = e
keeps_tested HearElsewhere g h e = hear_elsewhere_kept g e
keeps_tested PowerCycle g h e = power_cycle_kept g e
keeps_tested StatusByte g h e = e
keeps_tested LampOn g h e = e
keeps_tested FailureBits g h e = e
keeps_tested ThermalShutDown g h e = e
keeps_tested LampFailure g h e = e
keeps_tested ActualLevel g h e = e
keeps_tested (IsType code) g h e = e
keeps_tested (SetEnabled enabled) g h e = set_enabled_kept g enabled e
keeps_tested (SetLampFailure failure) g h e = set_lamp_failure_kept g failure e
keeps_tested (SetLampStarting starting) g h e = set_lamp_starting_kept g starting e
keeps_tested (SetFaults faults) g h e = set_faults_kept g faults e

pub keeps_fit : KeepsFit perform
keeps_fit c g h f = (fit_exactly (perform c g).gear).1 (keeps_tested c g h ((fit_exactly g).0 f))

still : (g h : Gear) → written h ≡ written g → Bounded g.levels → Bounded h.levels
still g h e b = rw (ap (λ x. x.0) e) b

-- a call that writes keeps the bounds, or is the power cycle
writes_bounded : {c : Call} → Writes c → (g : Gear) → Bounded g.levels → Bounded (perform c g).gear.levels ⊎ (c ≡ PowerCycle)
unfolding perform
writes_bounded (standard byte dtr0) g b = inl (standard_write_bounded g byte dtr0 b)
writes_bounded (arc level) g b = inl (arc_power_bounded g level b)
writes_bounded cycle g b = inr refl

pub keeps_bounds : KeepsBounds perform
keeps_bounds c g h b =
    ⊎_elim (λ e. still g (perform c g).gear e b) (λ w. ⊎_elim (λ kept. kept) (λ e. absurd (h e)) (writes_bounded w g b)) (unwritten c g)
