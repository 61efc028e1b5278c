-- A query to a fit record gives a fit record, and changes nothing that writes change.
use Prim.Native.Nat.{ℕ, ◌+◌, ◌/◌, ◌%◌, ◌≤◌}
use mathlib.Core.Path.{◌≡◌, refl}
use mathlib.Core.Bool.{true, false}
use lib.Dec.{eqb, leb}
use native.Mathlib.Omega.{arith}
use borrow.Author.Tests.{le-leb, leb-false}
use Rattle.std.specs.Prelude.{Option, None, Some}
use Rattle.query.specs.Reply.{is_query, query, gear_query_reply, heard_query, reported, report_for}
use Rattle.query.specs.Walk.{walking, device_type, next_at, next, next_device_type}
use Rattle.colour.proofs.Fit as ColourFit
use Rattle.colour.proofs.Kept as ColourKept
use Rattle.gear.specs.declared.record.Gear.{Gear}
use Rattle.gear.specs.Marks.{walk_fit}
use Rattle.gear.specs.Parts.{written}
use Rattle.gear.specs.Profile.{is_type}
use Rattle.gear.specs.Record.{fitb}
use Rattle.gear.specs.Serve.{serve}
use Rattle.gear.specs.Write.{scene}
use Rattle.gear.proofs.Fit.{GearFit, count_most}
use Rattle.gear.proofs.Kept.{serve_kept}
use Rattle.numbers.proofs.Logic.{by_cases}

pub walking_kept : (g : Gear) (w : Option ℕ) → walk_fit w ≡ true → GearFit g → GearFit (walking g w)
walking_kept g w e f = record { unit = f.unit; levels = f.levels; colour = f.colour; walk = e }

device_type_kept : (g : Gear) → GearFit g → GearFit (device_type g).gear
unfolding device_type walk_fit
device_type_kept g f =
    by_cases (eqb g.unit.count 0) (λ e. rw e (walking_kept g None refl f))
    (λ e.
    by_cases (eqb g.unit.count 1) (λ t. rw (e, t) (walking_kept g None refl f)) (λ t. rw (e, t) (walking_kept g (Some 0) refl f)))

pub at_most : (n : ℕ) → n ≤ 16 → walk_fit (Some n) ≡ true
unfolding walk_fit
at_most n h = le-leb n 16 h

next_at_kept : (g : Gear) (n : ℕ) → GearFit g → GearFit (next_at g n).gear
unfolding next_at
next_at_kept g n f =
    by_cases (leb g.unit.count n) (λ e. rw e f) (λ e. rw e (walking_kept g (Some (n + 1)) (within e) f))
  where
    within : leb g.unit.count n ≡ false → walk_fit (Some (n + 1)) ≡ true
    within e =
        let h = leb-false g.unit.count n e in
        let m = count_most 16 g.unit f.unit in
        at_most (n + 1) (omega arith)

next_kept : (g : Gear) (w : Option ℕ) → GearFit g → GearFit (next g w).gear
unfolding next
next_kept g None f = f
next_kept g (Some n) f = next_at_kept g n f

-- ---- reports

report_for_kept : (g : Gear) (b : ℕ) → GearFit g → ColourFit.Fit (report_for g b)
unfolding report_for
report_for_kept g b f =
    by_cases (eqb b 160) (λ e. rw e (ColourKept.report_actual_kept f.colour))
    (λ e.
    by_cases (eqb b 163) (λ t. rw (e, t) (ColourKept.report_kept g.settings.on.colour f.colour))
    (λ t.
    by_cases (eqb b 164) (λ u. rw (e, t, u) (ColourKept.report_kept g.settings.failure.colour f.colour))
    (λ u.
    by_cases (eqb (b / 16) 11) (λ v. rw (e, t, u, v) (ColourKept.report_kept (scene g (b % 16)).colour f.colour))
    (λ v. rw (e, t, u, v) f.colour))))

reported_kept : (g : Gear) (b : ℕ) → GearFit g → ColourFit.Fit (reported g b)
unfolding reported
reported_kept g b f = by_cases (is_type g.unit 8) (λ e. rw e (report_for_kept g b f)) (λ e. rw e f.colour)

heard_kept : (g : Gear) (b : ℕ) → GearFit g → GearFit (heard_query g b)
unfolding heard_query walk_fit
heard_kept g b f = record { unit = f.unit; levels = f.levels; colour = reported_kept g b f; walk = refl }

-- ---- the call

query_kept : (g : Gear) (b : ℕ) → GearFit g → GearFit (query g b).gear
unfolding query next_device_type
query_kept g b f =
    by_cases (eqb b 153) (λ e. rw e (device_type_kept g f))
    (λ e.
    by_cases (eqb b 167) (λ t. rw (e, t) (next_kept g g.marks.walk f))
    (λ t. by_cases (is_query b) (λ u. rw (e, t, u) (heard_kept g b f)) (λ u. rw (e, t, u) f)))

pub gear_query_kept : (g : Gear) (b : ℕ) → fitb g ≡ true → fitb (gear_query_reply g b).gear ≡ true
unfolding gear_query_reply
gear_query_kept g b = serve_kept g (query g b) (query_kept g b)

device_type_left : (g : Gear) → written (device_type g).gear ≡ written g
unfolding device_type
device_type_left g = by_cases (eqb g.unit.count 0) (λ e. rw e) (λ e. by_cases (eqb g.unit.count 1) (λ t. rw (e, t)) (λ t. rw (e, t)))

next_left : (g : Gear) (w : Option ℕ) → written (next g w).gear ≡ written g
unfolding next next_at
next_left g None = refl
next_left g (Some n) = by_cases (leb g.unit.count n) (λ e. rw e) (λ e. rw e)

query_left : (g : Gear) (b : ℕ) → written (query g b).gear ≡ written g
unfolding query next_device_type heard_query
query_left g b =
    by_cases (eqb b 153) (λ e. rw e (device_type_left g))
    (λ e.
    by_cases (eqb b 167) (λ t. rw (e, t) (next_left g g.marks.walk))
    (λ t. by_cases (is_query b) (λ u. rw (e, t, u)) (λ u. rw (e, t, u))))

-- no query changes what writes change
pub gear_query_left : (g : Gear) (b : ℕ) → written (gear_query_reply g b).gear ≡ written g
unfolding gear_query_reply serve
gear_query_left g b = by_cases (fitb g) (λ e. rw e (query_left g b)) (λ e. rw e)
