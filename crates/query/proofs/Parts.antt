-- What a query changes, part by part; and what it tells, from the parts.
use Prim.Native.Nat.{ℕ, ◌/◌, ◌%◌}
use mathlib.Core.Path.{◌≡◌, refl, sym, ◌∙◌}
use mathlib.Core.Bool.{true, false}
use lib.Dec.{eqb, leb}
use native.Mathlib.Omega.{arith}
use borrow.Author.Tests.{eqb-true, eqb-false, le-leb, lt-leb}
use Rattle.std.specs.Prelude.{Option, None, Some}
use Rattle.query.specs.Heard.{begun, moved_on, stepped, walked, tells_level, reports, shown}
use Rattle.query.specs.Reply.{is_setting_query, is_query, query, heard_query, reported, report_for, seen, told}
use Rattle.query.specs.Walk.{device_type, next_at, next, next_device_type, type_answer, answer_at, next_type_answer}
use Rattle.colour.specs.Report.{report_from, report_from_actual}
use Rattle.gear.specs.declared.record.Gear.{Gear}
use Rattle.gear.specs.Parts.{with_light}
use Rattle.gear.specs.Profile.{is_type}
use Rattle.gear.specs.Write.{scene}
use Rattle.numbers.specs.Numbers.{pick}
use Rattle.numbers.proofs.Logic.{by_cases, no_false}

-- ---- the report

pub reported_shown : (g : Gear) (b : ℕ) → reported g b ≡ pick (reports g.unit b) (report_from g.colour (shown g.colour.active g.settings.on.colour g.settings.failure.colour (scene g (b % 16)).colour b)) g.colour
unfolding reported report_for report_from_actual reports tells_level shown
reported_shown g b =
    by_cases (is_type g.unit 8)
    (λ d.
    by_cases (eqb b 160) (λ e. simp (d, e))
    (λ e.
    by_cases (eqb b 163) (λ t. simp (d, e, t))
    (λ t.
    by_cases (eqb b 164) (λ u. simp (d, e, t, u))
    (λ u. by_cases (eqb (b / 16) 11) (λ v. simp (d, e, t, u, v)) (λ v. simp (d, e, t, u, v))))))
    (λ d. by_cases (tells_level b) (λ e. simp (d, e)) (λ e. simp (d, e)))

-- a byte that tells no level reports nothing
unreported : (g : Gear) (b : ℕ) → tells_level b ≡ false → reported g b ≡ g.colour
unfolding reports
unreported g b e = reported_shown g b ∙ simp e

-- a byte that tells a level is a query
tells_query : (b : ℕ) → tells_level b ≡ true → is_query b ≡ true
unfolding tells_level is_query is_setting_query
tells_query b h =
    by_cases (eqb b 160) (λ e. rw (eqb-true b 160 e))
    (λ e.
    by_cases (eqb b 163) (λ t. rw (eqb-true b 163 t))
    (λ t.
    by_cases (eqb b 164) (λ u. rw (eqb-true b 164 u))
    (λ u. by_cases (eqb (b / 16) 11) (λ v. rw (eqb-true (b / 16) 11 v)) (λ v. no_false (simp (e, t, u, v) at h)))))

no_query : (g : Gear) (b : ℕ) → is_query b ≡ false → reported g b ≡ g.colour
no_query g b e =
    by_cases (tells_level b) (λ t. no_false (sym e ∙ tells_query b t)) (λ t. unreported g b t)

-- ---- the walk

first_walks : (g : Gear) → (device_type g).gear ≡ with_light g g.levels (walked g.unit g.marks 153) g.colour
unfolding device_type walked begun
first_walks g =
    by_cases (eqb g.unit.count 0)
    (λ e. let n = eqb-true g.unit.count 0 e in simp (e, le-leb g.unit.count 1 (omega arith)))
    (λ e.
    let z = eqb-false g.unit.count 0 e in
    by_cases (eqb g.unit.count 1)
    (λ t. let n = eqb-true g.unit.count 1 t in simp (e, t, le-leb g.unit.count 1 (omega arith)))
    (λ t. let n = eqb-false g.unit.count 1 t in simp (e, t, lt-leb g.unit.count 1 (omega arith))))

next_walks : (g : Gear) (w : Option ℕ) → (next g w).gear ≡ with_light g g.levels (stepped g.unit.count g.marks w) g.colour
unfolding next next_at stepped moved_on
next_walks g None = refl
next_walks g (Some n) = by_cases (leb g.unit.count n) (λ e. simp e) (λ e. simp e)

at_153 : (g : Gear) → (query g 153).gear ≡ with_light g g.levels (walked g.unit g.marks 153) (reported g 153)
unfolding query tells_level
at_153 g = rw (unreported g 153 refl) (first_walks g)

at_167 : (g : Gear) → (query g 167).gear ≡ with_light g g.levels (walked g.unit g.marks 167) (reported g 167)
unfolding query tells_level next_device_type walked
at_167 g = rw (unreported g 167 refl) (next_walks g g.marks.walk)

pub query_walks : (g : Gear) (b : ℕ) → (query g b).gear ≡ with_light g g.levels (walked g.unit g.marks b) (reported g b)
unfolding query heard_query walked
query_walks g b =
    by_cases (eqb b 153) (λ e. rw (eqb-true b 153 e) (at_153 g))
    (λ e.
    by_cases (eqb b 167) (λ t. rw (eqb-true b 167 t) (at_167 g))
    (λ t. by_cases (is_query b) (λ u. simp (e, t, u)) (λ u. simp (e, t, u, no_query g b u))))

-- ---- the answers

type_answers : (g : Gear) → (device_type g).answer ≡ type_answer g.unit
unfolding device_type type_answer
type_answers g =
    by_cases (eqb g.unit.count 0) (λ e. simp e)
    (λ e. by_cases (eqb g.unit.count 1) (λ t. simp (e, t)) (λ t. simp (e, t)))

next_answers : (g : Gear) (w : Option ℕ) → (next g w).answer ≡ next_type_answer g.unit w
unfolding next next_at next_type_answer answer_at
next_answers g None = refl
next_answers g (Some n) = by_cases (leb g.unit.count n) (λ e. simp e) (λ e. simp e)

pub query_tells : (g : Gear) (b : ℕ) → (query g b).answer ≡ told (seen g b) b
unfolding query next_device_type told
query_tells g b =
    by_cases (eqb b 153) (λ e. simp (e, type_answers))
    (λ e.
    by_cases (eqb b 167) (λ t. simp (e, t, next_answers))
    (λ t. by_cases (is_query b) (λ u. simp (e, t, u)) (λ u. simp (e, t, u))))
