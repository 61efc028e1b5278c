-- A query on the bytes of a record answers as on the record, and leaves what it leaves: the codes behind the type list decide nothing.
use Prim.Native.Nat.{ℕ, ◌+◌, ◌≤◌, ◌<◌}
use mathlib.Core.Path.{◌≡◌, refl, ap, ap₂, sym, ◌∙◌}
use mathlib.Core.Bool.{Bool, true}
use mathlib.Core.List.{List}
use lib.Dec.{eqb, leb}
use lib.ListN.{take}
use lib.Seq.{get_or-take}
use borrow.Author.Tests.{eqb-true, leb-false, leb-true, le-leb}
use native.Mathlib.Nat.{zero-add}
use native.Mathlib.Omega.{arith}
use Rattle.std.specs.Prelude.{Option, None, Some}
use Rattle.colour.specs.declared.record.Colour.{Colour}
use Rattle.colour.specs.declared.tint.Tint.{Tint}
use Rattle.colour.specs.Report.{report_from}
use Rattle.engine.proofs.Places.{bytes_get}
use Rattle.engine.specs.Reported.{shown_by, with_report}
use Rattle.gear.specs.declared.condition.Faults.{Faults}
use Rattle.gear.specs.declared.condition.Lamp.{Lamp}
use Rattle.gear.specs.declared.marks.Marks.{Marks}
use Rattle.gear.specs.declared.record.Gear.{Gear}
use Rattle.gear.specs.Answer.{Answer}
use Rattle.gear.specs.Marks.{walk_fit, with_walk}
use Rattle.gear.specs.Parts.{with_light, with_marks}
use Rattle.gear.specs.Profile.{fixed, floor, is_type, unit_fit}
use Rattle.gear.specs.Write.{set_min}
use Rattle.level.specs.declared.levels.Levels.{Levels}
use Rattle.numbers.proofs.Logic.{both_left, by_cases}
use Rattle.numbers.specs.Numbers.{pick}
use Rattle.query.proofs.Parts.{query_tells, query_walks, reported_shown}
use Rattle.query.specs.declared.told.Seen.{Seen}
use Rattle.query.specs.Heard.{begun, moved_on, reports, stepped, walked}
use Rattle.query.specs.Lamp.{actual_level, lamp_failure_from207, lamp_on, overheated, thermal_shut_down}
use Rattle.query.specs.Reply.{gear_failure, identity_reply, is_query, query, reply, seen, setting_reply, status_reply, told}
use Rattle.query.specs.Status.{lamp_failing, status_byte}
use Rattle.query.specs.Walk.{answer_at, next_type_answer, type_answer, type_at}
use Rattle.slot.proofs.Passes.{listed_type}
use Rattle.slot.proofs.Read.{part}
use Rattle.slot.specs.Held.{Does, Holds, Sound, Tells}
use Rattle.slot.specs.Record.{gear_of, listed}

-- ## What is told

module _ (g : Gear) (sound : Sound g) where
  few : g.unit.count ≤ 16
  unfolding unit_fit
  few = leb-true g.unit.count 16 (both_left (leb g.unit.count 16) _ sound.0.0)

  led : is_type (listed g).unit 6 ≡ is_type g.unit 6
  led = listed_type g 6 sound

  lit : (l : Levels) (lamp : Lamp) (f : Faults) → lamp_on (listed g).unit l lamp f ≡ lamp_on g.unit l lamp f
  unfolding lamp_on thermal_shut_down
  lit l lamp f = rw led

  status : (l : Levels) (m : Marks) (lamp : Lamp) (f : Faults) → status_byte (listed g).unit l m lamp f ≡ status_byte g.unit l m lamp f
  unfolding status_byte lamp_failing lamp_failure_from207
  status l m lamp f = rw (lit l lamp f, led)

  level : (l : Levels) (f : Faults) (active : Tint) → actual_level (listed g).unit l f active ≡ actual_level g.unit l f active
  unfolding actual_level overheated
  level l f active = rw led

  replied : (b : ℕ) → reply (seen (listed g) b) b ≡ reply (seen g b) b
  unfolding reply status_reply setting_reply identity_reply gear_failure
  replied b = simp (status, lit, level)

  -- a code of the list
  code : (i : ℕ) → i < g.unit.count → type_at (listed g).unit.types i ≡ type_at g.unit.types i
  unfolding type_at
  code i h =
      let n = few in
      ap (λ (v : ℕ). pick (leb 16 i) 254 v)
      ((rw zero-add at (bytes_get 16 0 i (take g.unit.count g.unit.types) (omega arith))) ∙ get_or-take g.unit.count g.unit.types i 0 h)

  first : type_answer (listed g).unit ≡ type_answer g.unit
  unfolding type_answer
  first =
      by_cases (eqb g.unit.count 1)
      (λ e. let one = eqb-true g.unit.count 1 e in rw (code 0 (omega arith)))
      (λ e. rw e)

  next : (w : Option ℕ) → next_type_answer (listed g).unit w ≡ next_type_answer g.unit w
  unfolding next_type_answer answer_at
  next None = refl
  next (Some n) =
      by_cases (leb g.unit.count n) (λ e. rw e) (λ e. rw (code n (leb-false g.unit.count n e)))

  same_told : (b : ℕ) → told (seen (listed g) b) b ≡ told (seen g b) b
  unfolding told
  same_told b = rw (first, next g.marks.walk, replied b)

pub answers : (n : ℕ) (b : List ℕ) (s : Seen) (r : Answer) → s ≡ seen (gear_of b) n → r ≡ told s n → Tells (λ g. (query g n).answer) b r
answers n b s r seen-so told_so =
    λ g h.
    told_so ∙ ap (λ (x : Seen). told x n) (seen-so ∙ part b g h (λ x. seen x n)) ∙ same_told g h.1 n ∙ sym (query_tells g n)

-- ## What is left

-- a step changes the walk alone, and leaves it fit
abbrev Steps : Marks → Marks → Type 0
Steps m m' = (walk_fit m'.walk ≡ true) × (with_walk m m'.walk ≡ m')

goes_on : (count : ℕ) (m : Marks) (w : Option ℕ) → count ≤ 16 → walk_fit m.walk ≡ true → Steps m (stepped count m w)
unfolding stepped moved_on walk_fit
goes_on count m None most fit = (fit, refl)
goes_on count m (Some n) most fit =
    by_cases (leb count n) (λ e. rw e (fit, refl))
    (λ e. let h = leb-false count n e in rw e (le-leb (n + 1) 16 (omega arith), refl))

begins : (count : ℕ) (m : Marks) → Steps m (with_walk m (begun count))
unfolding begun walk_fit
begins count m = by_cases (leb count 1) (λ e. rw e (refl, refl)) (λ e. rw e (refl, refl))

walks : (g : Gear) → Sound g → (n : ℕ) → Steps g.marks (walked g.unit g.marks n)
unfolding walked walk_fit
walks g sound n =
    by_cases (eqb n 153) (λ e. rw e (begins g.unit.count g.marks))
    (λ e.
    by_cases (eqb n 167) (λ t. rw (e, t) (goes_on g.unit.count g.marks g.marks.walk (few g sound) sound.1))
    (λ t. by_cases (is_query n) (λ u. rw (e, t, u) (refl, refl)) (λ u. rw (e, t, u) (sound.1, refl))))

same_walk : (g : Gear) (n : ℕ) → walked (listed g).unit g.marks n ≡ walked g.unit g.marks n
unfolding walked
same_walk g n = refl

same_reports : (g : Gear) → Sound g → (n : ℕ) → reports (listed g).unit n ≡ reports g.unit n
unfolding reports
same_reports g sound n = rw (listed_type g 8 sound)

follows :
    (g : Gear) → Sound g → (n : ℕ) →
    with_report (with_marks g (with_walk g.marks (walked g.unit g.marks n).walk)) (listed g).unit n ≡ (query g n).gear
follows g sound n =
    ap₂ (λ (m : Marks) (c : Colour). with_light g g.levels m c) (walks g sound n).1
    (ap (λ (yes : Bool). pick yes (report_from g.colour (shown_by g n)) g.colour) (same_reports g sound n) ∙ sym (reported_shown g n)) ∙
    sym (query_walks g n)

-- the walk is stored, and then the report
pub leaves :
    (n : ℕ) (b b1 b2 : List ℕ) (s : Seen) (m : Marks) → s ≡ seen (gear_of b) n → m ≡ walked s.unit s.marks n →
    (walk_fit m.walk ≡ true → Does (λ g. with_marks g (with_walk g.marks m.walk)) b b1) → Does (λ g. with_report g s.unit n) b1 b2 →
    Does (λ g. (query g n).gear) b b2
leaves n b b1 b2 s m seen-so walked-so walk report =
    λ g h.
    let same : s ≡ seen (listed g) n = seen-so ∙ part b g h (λ x. seen x n) in
    let now : m ≡ walked g.unit g.marks n = walked-so ∙ ap (λ (x : Seen). walked x.unit x.marks n) same ∙ same_walk g n in
    let fit : walk_fit m.walk ≡ true = rw now (walks g h.1 n).0 in
    let done : Holds b2 (with_report (with_marks g (with_walk g.marks (walked g.unit g.marks n).walk)) (listed g).unit n) =
    rw (← now, ← ap (λ (x : Seen). x.unit) same) (report _ (walk fit g h))
    in
    rw (← follows g h.1 n) done

-- the codes behind the list of types decide nothing of the lowest level
pub listed_min : (g : Gear) → Sound g → (v : ℕ) → set_min (listed g).unit g.levels v ≡ set_min g.unit g.levels v
unfolding set_min fixed floor
listed_min g sound v = rw (listed_type g 7 sound)
