-- Activation, staging, steps and reports keep a fit colour record fit: the limits stay in order and within the physical
-- pair, and an active colour temperature stays within the effective limits.
use Prim.Native.Nat.{ℕ, ◌≤◌}
use mathlib.Core.Path.{◌≡◌, refl}
use mathlib.Core.Bool.{Bool, true, false}
use lib.Dec.{eqb, leb}
use native.Mathlib.Omega.{arith}
use borrow.Author.Tests.{le-leb, leb-true}
use Rattle.colour.specs.declared.limits.Limits.{Limits}
use Rattle.colour.specs.declared.record.Colour.{Colour}
use Rattle.colour.specs.declared.setting.ColourSetting.{ColourSetting}
use Rattle.colour.specs.declared.tint.ColorMode.{ColorMode}
use Rattle.colour.specs.declared.tint.ColorMode.TheVariants.{None, Cct, Xy, Rgb}
use Rattle.colour.specs.declared.tint.Tint.{Tint}
use Rattle.colour.specs.Activation.{activated, activate, automatic, arc_power, recall, within}
use Rattle.colour.specs.Limits.{effective_coolest, effective_warmest}
use Rattle.numbers.specs.Numbers.{both, pick}
use Rattle.colour.specs.Record.{power_up, with_features}
use Rattle.colour.specs.Report.{report_from, report_from_actual}
use Rattle.colour.specs.Staging.{load_temporaries_from, copy_report, take_staged_colour}
use Rattle.colour.specs.Steps.{tc_step, xy_step, stepped_tc, moved}
use Rattle.colour.specs.Tint.{lies_within, is_cct, is_xy, captured}
use Rattle.colour.proofs.Fit.{Ordered, Fit}
use Rattle.numbers.proofs.Logic.{by_cases, both_true, both_left, both_right}

-- a clamped colour temperature lies within the limits, whatever the mode
pub within_lies : (l : Limits) (tc : ℕ) → Ordered l → both (leb (effective_coolest l) (within tc l)) (leb (within tc l) (effective_warmest l)) ≡ true
within_lies l tc o =
    both_true (le-leb (effective_coolest l) (within tc l) (omega arith)) (le-leb (within tc l) (effective_warmest l) (omega arith))

activated_lies : (a p : Tint) (l : Limits) → Ordered l → lies_within a l ≡ true → lies_within (activated a p l) l ≡ true
unfolding lies_within activated
activated_lies a p l o h = go p.mode refl
  where
    go : (m : ColorMode) → p.mode ≡ m → lies_within (activated a p l) l ≡ true
    go None e = simp e h
    go Xy e = simp e
    go Cct e = simp e (within_lies l p.tc o)
    go Rgb e = simp e

pub activate_kept : {c : Colour} → Fit c → Fit (activate c)
unfolding activate
activate_kept {c} f =
    record {
      channels = f.channels;
      limits = f.limits;
      active = activated_lies c.active c.pending c.limits f.limits f.active;
    }

pub arc_power_kept : {c : Colour} → Fit c → Fit (arc_power c)
unfolding arc_power
arc_power_kept {c} f = by_cases (automatic c) (λ e. rw e (activate_kept f)) (λ e. rw e f)

pub load_kept : {c : Colour} (s : ColourSetting) → Fit c → Fit (load_temporaries_from c s)
unfolding load_temporaries_from
load_kept s f = record { channels = f.channels; limits = f.limits; active = f.active }

pub copy_report_kept : {c : Colour} → Fit c → Fit (copy_report c)
unfolding copy_report
copy_report_kept {c} f = load_kept c.report f

pub recall_kept : {c : Colour} (s : ColourSetting) → Fit c → Fit (recall c s)
unfolding recall
recall_kept {c} s f = by_cases (eqb s.kind 0xFF) (λ e. rw e f) (λ e. rw e (arc_power_kept (load_kept s f)))

pub take_staged_kept : {c : Colour} (kept : ColourSetting) → Fit c → Fit (take_staged_colour c kept).colour
unfolding take_staged_colour
take_staged_kept kept f = record { channels = f.channels; limits = f.limits; active = f.active }

pub report_kept : {c : Colour} (s : ColourSetting) → Fit c → Fit (report_from c s)
unfolding report_from
report_kept s f = record { channels = f.channels; limits = f.limits; active = f.active }

pub report_actual_kept : {c : Colour} → Fit c → Fit (report_from_actual c)
unfolding report_from_actual
report_actual_kept {c} f = report_kept (captured c.active) f

pub features_kept : {c : Colour} (features : ℕ) → Fit c → Fit (with_features c features)
unfolding with_features
features_kept features f = record { channels = f.channels; limits = f.limits; active = f.active }

pub power_up_kept : {c : Colour} → Fit c → Fit (power_up c)
unfolding power_up lies_within
power_up_kept f = record { channels = f.channels; limits = f.limits; active = f.active }

xy_lies : (a : Tint) (l : Limits) (y up : Bool) → lies_within a l ≡ true → lies_within (pick (is_xy a.mode) (moved a y up) a) l ≡ true
unfolding lies_within moved
xy_lies a l y up h = by_cases (is_xy a.mode) (λ e. simp e h) (λ e. simp e h)

pub xy_step_kept : {c : Colour} (y up : Bool) → Fit c → Fit (xy_step c y up)
unfolding xy_step
xy_step_kept {c} y up f =
    record { channels = f.channels; limits = f.limits; active = xy_lies c.active c.limits y up f.active }

-- one step from within the limits ends within them
stepped_lies :
    (l : Limits) (tc : ℕ) (warmer : Bool) → Ordered l → effective_coolest l ≤ tc → tc ≤ effective_warmest l →
    both (leb (effective_coolest l) (stepped_tc tc l warmer)) (leb (stepped_tc tc l warmer) (effective_warmest l)) ≡ true
unfolding stepped_tc
stepped_lies l tc true o low high =
    both_true (le-leb (effective_coolest l) (stepped_tc tc l true) (omega arith)) (le-leb (stepped_tc tc l true) (effective_warmest l) (omega arith))
stepped_lies l tc false o low high =
    both_true (le-leb (effective_coolest l) (stepped_tc tc l false) (omega arith))
    (le-leb (stepped_tc tc l false) (effective_warmest l) (omega arith))

tc_lies :
    (a : Tint) (l : Limits) (warmer : Bool) → Ordered l → lies_within a l ≡ true →
    pick (is_cct a.mode) (both (leb (effective_coolest l) (pick (is_cct a.mode) (stepped_tc a.tc l warmer) a.tc)) (leb (pick (is_cct a.mode) (stepped_tc a.tc l warmer) a.tc) (effective_warmest l))) true ≡ true
unfolding lies_within
tc_lies a l warmer o h = by_cases (is_cct a.mode) (λ e. simp e (stepped e)) (λ e. simp e)
  where
    low : Bool
    low = leb (effective_coolest l) a.tc

    high : Bool
    high = leb a.tc (effective_warmest l)

    stepped :
        is_cct a.mode ≡ true →
        both (leb (effective_coolest l) (stepped_tc a.tc l warmer)) (leb (stepped_tc a.tc l warmer) (effective_warmest l)) ≡ true
    stepped e =
        stepped_lies l a.tc warmer o (leb-true (effective_coolest l) a.tc (both_left low high (simp e at h)))
        (leb-true a.tc (effective_warmest l) (both_right low high (simp e at h)))

pub tc_step_kept : {c : Colour} (warmer : Bool) → Fit c → Fit (tc_step c warmer)
unfolding tc_step lies_within
tc_step_kept {c} warmer f =
    record { channels = f.channels; limits = f.limits; active = tc_lies c.active c.limits warmer f.limits f.active }
