-- What each colour call leaves alone, and when nothing is staged.
use Prim.Native.Nat.{ℕ}
use mathlib.Core.Path.{◌≡◌, refl, ◌∙◌, sym, ap}
use mathlib.Core.Bool.{Bool, true, false}
use lib.Dec.{eqb, leb}
use borrow.Author.Tests.{eqb-true}
use Rattle.colour.specs.declared.record.Colour.{Colour}
use Rattle.colour.specs.declared.setting.ColourSetting.{ColourSetting}
use Rattle.colour.specs.declared.tint.ColorMode.{ColorMode}
use Rattle.colour.specs.declared.tint.ColorMode.TheVariants.{None, Cct, Xy, Rgb}
use Rattle.colour.specs.declared.tint.Tint.{Tint}
use Rattle.colour.specs.Activation.{activated, strays, activate, automatic, is_idle, arc_power, recall}
use Rattle.colour.specs.Bounded.{bounded, put_back, store_bounded}
use Rattle.colour.specs.Staging.{with_pending, load_temporaries_from, copy_report, take_staged_colour}
use Rattle.colour.specs.Steps.{snapped, snaps, store_tc_limit, tc_step, xy_step}
use Rattle.colour.specs.Tint.{dark, is_lit, unstaged}
use Rattle.numbers.proofs.Logic.{by_cases, no_false}

-- no call of a gear that changes colour changes these but the report and the feature store
pub record Left (before after : Colour) : Type 0 where
  pub can : after.can ≡ before.can
  pub report : after.report ≡ before.report
  pub features : after.features ≡ before.features

pub left_refl : (c : Colour) → Left c c
left_refl c = record { can = refl; report = refl; features = refl }

pub left_trans : {a b c : Colour} → Left a b → Left b c → Left a c
left_trans p q = record { can = q.can ∙ p.can; report = q.report ∙ p.report; features = q.features ∙ p.features }

pub activate_left : (c : Colour) → Left c (activate c)
unfolding activate
activate_left c = record { can = refl; report = refl; features = refl }

pub arc_power_left : (c : Colour) → Left c (arc_power c)
unfolding arc_power
arc_power_left c = by_cases (automatic c) (λ e. rw e (activate_left c)) (λ e. rw e (left_refl c))

pub load_left : (c : Colour) (s : ColourSetting) → Left c (load_temporaries_from c s)
unfolding load_temporaries_from
load_left c s = record { can = refl; report = refl; features = refl }

pub copy_report_left : (c : Colour) → Left c (copy_report c)
unfolding copy_report
copy_report_left c = load_left c c.report

pub recall_left : (c : Colour) (s : ColourSetting) → Left c (recall c s)
unfolding recall
recall_left c s =
    by_cases (eqb s.kind 0xFF) (λ e. rw e (left_refl c))
    (λ e. rw e (left_trans (load_left c s) (arc_power_left (load_temporaries_from c s))))

pub take_staged_left : (c : Colour) (kept : ColourSetting) → Left c (take_staged_colour c kept).colour
unfolding take_staged_colour
take_staged_left c kept = record { can = refl; report = refl; features = refl }

pub tc_step_left : (c : Colour) (warmer : Bool) → Left c (tc_step c warmer)
unfolding tc_step
tc_step_left c warmer = record { can = refl; report = refl; features = refl }

pub xy_step_left : (c : Colour) (y up : Bool) → Left c (xy_step c y up)
unfolding xy_step
xy_step_left c y up = record { can = refl; report = refl; features = refl }

pub store_tc_limit_left : (c : Colour) (v s : ℕ) → Left c (store_tc_limit c v s)
unfolding store_tc_limit
store_tc_limit_left c v s =
    by_cases (leb s 3) (λ e. rw e (record { can = refl; report = refl; features = refl })) (λ e. rw e (left_refl c))

-- whatever else a colour has, the limit store reads and changes its bounded numbers alone
pub store_put_back : (c : Colour) (v s : ℕ) → put_back c (store_bounded (bounded c) v s) ≡ store_tc_limit c v s
unfolding store_tc_limit snapped snaps
store_put_back c v s = by_cases (leb s 3) (λ e. rw e) (λ e. rw e)

-- ---- nothing staged

-- with no mode staged, activation only masks the staged control
pub activate_none : (c : Colour) → c.pending.mode ≡ None → activate c ≡ with_pending c (unstaged c.pending)
unfolding activate activated strays
activate_none c e = rw e

-- and changes nothing at all where that is masked already
pub activate_nothing : (c : Colour) → c.pending.mode ≡ None → c.pending.control ≡ 0xFF → activate c ≡ c
activate_nothing c e k = activate_none c e ∙ ap (with_pending c) (same c.pending e k)
  where
    same : (p : Tint) → p.mode ≡ None → p.control ≡ 0xFF → unstaged p ≡ p
    same p m n = λ i. record { mode = sym m i; x = p.x; y = p.y; tc = p.tc; levels = p.levels; control = sym n i }

unlit : (m : ColorMode) → is_lit m ≡ false → m ≡ None
unlit None e = refl
unlit Xy e = cc
unlit Cct e = cc
unlit Rgb e = cc

-- an idle colour stays as it is
pub idle_kept : (c : Colour) → is_idle c ≡ true → arc_power c ≡ c
unfolding is_idle arc_power
idle_kept c e =
    by_cases (automatic c)
    (λ a.
    by_cases (is_lit c.pending.mode) (λ l. no_false (simp (a, l) at e))
    (λ l. rw a (activate_nothing c (unlit c.pending.mode l) (eqb-true _ _ (simp (a, l) at e)))))
    (λ a. rw a)

-- the whole staged colour is that of a fresh gear
abbrev pub NothingStaged : Colour → Type 0
NothingStaged c = c.pending ≡ dark 0xFF

pub activate_nothing_staged : (c : Colour) → NothingStaged c → NothingStaged (activate c)
unfolding activate
activate_nothing_staged c e = rw e

pub tc_step_nothing_staged : (c : Colour) (warmer : Bool) → NothingStaged c → NothingStaged (tc_step c warmer)
unfolding tc_step
tc_step_nothing_staged c warmer e = e

pub xy_step_nothing_staged : (c : Colour) (y up : Bool) → NothingStaged c → NothingStaged (xy_step c y up)
unfolding xy_step
xy_step_nothing_staged c y up e = e

pub store_tc_limit_nothing_staged : (c : Colour) (v s : ℕ) → NothingStaged c → NothingStaged (store_tc_limit c v s)
unfolding store_tc_limit
store_tc_limit_nothing_staged c v s e = by_cases (leb s 3) (λ t. rw t e) (λ t. rw t e)
