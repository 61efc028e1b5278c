-- What a step does to a fit record, by its kind: the call's rule without the fit test; and that the record stays fit.
use Prim.Native.Nat.{ℕ, ◌<◌}
use mathlib.Core.Path.{◌≡◌, refl}
use mathlib.Core.Bool.{Bool, true}
use lib.Dec.{eqb}
use native.Mathlib.Omega.{arith}
use Rattle.bank.specs.declared.memory.Written.{Written}
use Rattle.bank.specs.Memory.{memory_location, write_memory_location}
use Rattle.calls.specs.Colours.{activate_call, color_value_call, copy_report_call, recoloured, set_features_call, stage_call, store_tc_limit_call, tc_step_call}
use Rattle.calls.specs.Memory.{memory_location_call, rebanked, write_memory_call}
use Rattle.calls.specs.Power.{power_cycle, power_cycle_call}
use Rattle.calls.proofs.Kept.{activate_kept, copy_report_kept, power_cycle_kept, set_features_kept, stage_kept, store_tc_limit_kept, tc_step_kept, write_memory_kept}
use Rattle.colour.specs.Activation.{activate}
use Rattle.colour.specs.Record.{with_features}
use Rattle.colour.specs.Staging.{copy_report, load_temporaries_from}
use Rattle.colour.specs.Steps.{store_tc_limit, tc_step}
use Rattle.colour.specs.Value.{color_value}
use Rattle.gear.specs.Answer.{done, location_answer, refused, unchanged, value_answer}
use Rattle.gear.specs.declared.answer.Refusal.TheVariants.{Byte}
use Rattle.gear.specs.declared.record.Gear.{Gear}
use Rattle.gear.specs.Parts.{with_banks, with_colour}
use Rattle.gear.specs.Record.{fitb}
use Rattle.gear.specs.Serve.{serve, tell}
use Rattle.gear.specs.Write.{apply_standard_write, arc_write, direct_arc_power, write}
use Rattle.gear.specs.Command.{command_of}
use Rattle.level.specs.declared.arc.ArcCommand.TheVariants.{DirectArcPower as Level}
use Rattle.std.specs.Prelude.{Some, None}
use Rattle.step.specs.Kinds.{taken}
use Rattle.step.specs.declared.kind.Step.TheVariants.{DirectArcPower, Write, Query, ReadMemory, WriteMemory, ColourValue, StoreTcLimit, TcStep, StageTc, Activate, PowerCycle, CopyReport, SetFeatures}
use Rattle.gear.proofs.Kept.{arc_power_kept, standard_write_kept}
use Rattle.numbers.proofs.Logic.{by_cases}
use Rattle.query.specs.Reply.{gear_query_reply, query}
use Rattle.query.proofs.Kept.{gear_query_kept}
use Rattle.step.specs.Step.{colour_step, pair, step, temperature}

module _ (g : Gear) (fit : fitb g ≡ true) where
  pub at_arc : (level : ℕ) → taken g (Some (DirectArcPower level)) ≡ done (arc_write g (Level level))
  unfolding taken direct_arc_power serve
  at_arc level = rw fit refl

  pub at_write : (byte dtr0 : ℕ) → taken g (Some (Write byte dtr0)) ≡ write g (command_of byte) dtr0
  unfolding taken apply_standard_write serve
  at_write byte dtr0 = rw fit refl

  pub at_query : (byte : ℕ) → taken g (Some (Query byte)) ≡ query g byte
  unfolding taken gear_query_reply serve
  at_query byte = rw fit refl

  pub at_read :
      (bank offset : ℕ) →
      taken g (Some (ReadMemory bank offset)) ≡ unchanged g (location_answer (memory_location g.banks g.unit.bare bank offset))
  unfolding taken memory_location_call tell
  at_read bank offset = rw fit refl

  abbrev stored : ℕ → ℕ → ℕ → Written
  stored bank offset value = write_memory_location g.banks g.condition.faults.unstored bank offset value

  pub at_stored :
      (bank offset value : ℕ) →
      taken g (Some (WriteMemory bank offset value)) ≡
      record { answer = location_answer (stored bank offset value).answer; gear = with_banks g (stored bank offset value).banks }
  unfolding taken write_memory_call rebanked serve
  at_stored bank offset value = rw fit refl

  pub at_value : (id : ℕ) → taken g (Some (ColourValue id)) ≡ unchanged g (value_answer (color_value g.colour id))
  unfolding taken color_value_call tell
  at_value id = rw fit refl

  pub at_limit :
      (selector value : ℕ) → taken g (Some (StoreTcLimit selector value)) ≡ done (with_colour g (store_tc_limit g.colour value selector))
  unfolding taken store_tc_limit_call recoloured serve
  at_limit selector value = rw fit refl

  pub at_tc_step : (warmer : Bool) → taken g (Some (TcStep warmer)) ≡ done (with_colour g (tc_step g.colour warmer))
  unfolding taken tc_step_call recoloured serve
  at_tc_step warmer = rw fit refl

  pub at_stage : (tc : ℕ) → taken g (Some (StageTc tc)) ≡ done (with_colour g (load_temporaries_from g.colour (temperature tc)))
  unfolding taken stage_call recoloured serve
  at_stage tc = rw fit refl

  pub at_activate : taken g (Some Activate) ≡ done (with_colour g (activate g.colour))
  unfolding taken activate_call recoloured serve
  at_activate = rw fit refl

  pub at_power_cycle : taken g (Some PowerCycle) ≡ done (power_cycle g)
  unfolding taken power_cycle_call serve
  at_power_cycle = rw fit refl

  pub at_copy_report : taken g (Some CopyReport) ≡ done (with_colour g (copy_report g.colour))
  unfolding taken copy_report_call recoloured serve
  at_copy_report = rw fit refl

  pub at_features : (features : ℕ) → taken g (Some (SetFeatures features)) ≡ done (with_colour g (with_features g.colour features))
  unfolding taken set_features_call recoloured serve
  at_features features = rw fit refl

  pub at_none : taken g None ≡ refused g Byte
  unfolding taken serve
  at_none = rw fit refl

-- what a step does to a fit record, for each kind
pub ruleset on_fit = (at_arc, at_write, at_query, at_read, at_stored, at_value, at_limit, at_tc_step, at_stage, at_activate, at_power_cycle, at_copy_report, at_features, at_none)

module _ (g : Gear) (a b c : ℕ) (b-byte : b < 256) (c-byte : c < 256) (fit : fitb g ≡ true) where
  colour_kept : (kind value : ℕ) → value < 65536 → fitb (colour_step g kind a value).gear ≡ true
  unfolding colour_step serve
  colour_kept kind value small =
      by_cases (eqb kind 6) (λ e. rw e (store_tc_limit_kept g value a small fit)) (λ e6. rw e6
      (by_cases (eqb kind 7) (λ e. rw e (tc_step_kept g _ fit)) (λ e7. rw e7
      (by_cases (eqb kind 8) (λ e. rw e (stage_kept g _ fit)) (λ e8. rw e8
      (by_cases (eqb kind 9) (λ e. rw e (activate_kept g fit)) (λ e9. rw e9
      (by_cases (eqb kind 10) (λ e. rw e (power_cycle_kept g fit)) (λ e10. rw e10
      (by_cases (eqb kind 11) (λ e. rw e (copy_report_kept g fit)) (λ e11. rw e11
      (by_cases (eqb kind 12) (λ e. rw e (set_features_kept g a fit)) (λ e12. rw e12 (rw fit fit))))))))))))))

  pub step_kept : (kind : ℕ) → fitb (step g kind a b c).gear ≡ true
  unfolding step
  step_kept kind =
      by_cases (eqb kind 0) (λ e. rw e (arc_power_kept g a fit)) (λ e0. rw e0
      (by_cases (eqb kind 1) (λ e. rw e (standard_write_kept g a b fit)) (λ e1. rw e1
      (by_cases (eqb kind 2) (λ e. rw e (gear_query_kept g a fit)) (λ e2. rw e2
      (by_cases (eqb kind 3) (λ e. rw e fit) (λ e3. rw e3
      (by_cases (eqb kind 4) (λ e. rw e (write_memory_kept g a b c fit)) (λ e4. rw e4
      (by_cases (eqb kind 5) (λ e. rw e fit) (λ e5. rw e5 (colour_kept kind (pair b c) (omega arith)))))))))))))
