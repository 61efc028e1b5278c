-- Why a colour value is absent (request 2 of document 02): the old answer, and what was missing by the table of ids.
use Prim.Native.Nat.{ℕ, ◌≤◌, ◌<◌, ◌%◌}
use mathlib.Core.Path.{◌≡◌, refl, ◌∙◌, ap}
use mathlib.Core.Bool.{Bool, true, false}
use mathlib.Core.List.{List, []}
use lib.Dec.{eqb, eqb→eq, ltb}
use Rattle.std.specs.Prelude.{Option, None, Some, Result, Ok, Err}
use lib.ListN.{replicate, length-replicate}
use native.Mathlib.Omega.{arith}
use borrow.Author.Tests.{le-ltb, ltb-true, ltb-false}
use Rattle.std.specs.declared.result.Result.TheVariants.{Ok}
use Rattle.demands.specs.Absent.{Absent, HostAbsent, by_list, capable, channel_ids, common_ids, explained, explained_by, if_there, is_value, limit_before, panel_file, panel_lines, shown_before, tc_ids, value_before, xy_ids}
use Rattle.demands.specs.Calls.{perform}
use Rattle.demands.specs.Calls.Call.{ColorValue}
use Rattle.demands.specs.Fit.{Fit}
use Rattle.demands.specs.Refusals.{listed}
use Rattle.demands.proofs.Bytes.{unlisted}
use Rattle.demands.proofs.Exactly.{nowhere_else}
use Rattle.demands.proofs.Fit.{fit_exactly}
use Rattle.demands.proofs.ProfileAndFile.{file_judged}
use Rattle.demands.proofs.Steps.{stepped}
use Rattle.calls.specs.Colours.{color_value_call}
use Rattle.colour.specs.Capability.{has}
use Rattle.colour.specs.declared.capability.Capability.{Capability}
use Rattle.colour.specs.declared.capability.Capability.TheVariants.{Xy, Tc, Channels}
use Rattle.colour.specs.declared.limits.Limits.{Limits}
use Rattle.colour.specs.declared.record.Capabilities.{Capabilities}
use Rattle.colour.specs.declared.record.Colour.{Colour}
use Rattle.colour.specs.declared.setting.ColourSetting.{ColourSetting}
use Rattle.colour.specs.declared.kinds.Kind.{Kind}
use Rattle.colour.specs.declared.kinds.Kind.TheVariants.{Active, Primary, Primaries, Limit, Staged, Report}
use Rattle.colour.specs.declared.value.NoValue.{NoValue}
use Rattle.colour.specs.declared.value.NoValue.TheVariants.{Unknown}
use Rattle.colour.specs.Kinds.{by_kind, kind_of}
use Rattle.colour.specs.Limits.{effective_coolest, effective_warmest, limits_fit}
use Rattle.colour.specs.Record.{fitb as colour_fit, fresh}
use Rattle.colour.specs.Tint.{face, lies_within}
use Rattle.colour.specs.Value.{channel_level, color_value, if_capable, limit_value, own_or, shown}
use Rattle.dali_gear.specs.Code.{asked_code, asked_detail}
use Rattle.file.specs.File.{checked, profile_of, steps_of, types_of, well_formed}
use Rattle.file.specs.Profile.{padded, profile_from, profile_in, short_of, unit_from}
use Rattle.gear.specs.Answer.{Answer, unexplained, value_answer}
use Rattle.gear.specs.declared.answer.Reply.TheVariants.{Value, Nothing, Incapable}
use Rattle.gear.specs.declared.answer.Outcome.{Outcome}
use Rattle.gear.specs.declared.record.Gear.{Gear}
use Rattle.gear.specs.Marks.{walk_fit}
use Rattle.gear.specs.Profile.{accepted, floor, is_type, short_fit, unit_fit}
use Rattle.gear.specs.Record.{fitb, fresh_gear, new_gear}
use Rattle.gear.specs.Serve.{tell}
use Rattle.gear.specs.Types.{has_type, member}
use Rattle.level.specs.Levels.{levels_fit}
use Rattle.numbers.specs.Numbers.{pick}
use Rattle.numbers.proofs.Logic.{by_cases}
use Rattle.numbers.proofs.Table.{at}
use Rattle.runner.specs.Ask.{asked}
use Rattle.runner.specs.Line.{answer_text, digits, end_text, line_text, number_text}
use Rattle.std.specs.Prelude.{Ok}
use Rattle.runner.specs.Run.{last_of, lines_of, performed, printed, state_after, text_after}
use Rattle.step.specs.Step.{step as step_rule}

-- ## What an id needs, as a number: 0 where no gear has it, 1 nothing, 2 xy, 3 Tc, 4 a channel

-- by the lists of ids
abbrev need_of : ℕ → ℕ
need_of id = by_list id 1 2 3 4 0

-- by the rule: the place of a number of a colour, and the kind of an id
abbrev need_at : ℕ → ℕ
need_at place =
    pick (eqb place 0) 2
    (pick (eqb place 1) 2
    (pick (eqb place 2) 3
    (pick (ltb place 9) 0 (pick (ltb place 15) 4 (pick (eqb place 15) 4 (pick (eqb place 16) 1 0))))))

abbrev need_by : Option Kind → ℕ → ℕ
need_by kind place = by_kind kind (need_at place) 1 1 3 (need_at place) (need_at place) 0

agrees : ℕ → ℕ → Bool
unfolding kind_of
agrees id x = eqb (need_of id) (need_by (kind_of id) (id % 32))

-- one test over all ids below 256; from there on both say that no gear has it
low : (id : ℕ) → id < 256 → need_of id ≡ need_by (kind_of id) (id % 32)
unfolding agrees kind_of
low id h = eqb→eq (need_of id) (need_by (kind_of id) (id % 32)) (at agrees (replicate 256 0) tt id (rw length-replicate h))

no_kind : (id : ℕ) → 256 ≤ id → kind_of id ≡ None
unfolding kind_of
no_kind id h =
    simp (
      le-ltb id 3 (omega arith),
      le-ltb id 9 (omega arith),
      le-ltb id 16 (omega arith),
      le-ltb id 64 (omega arith),
      le-ltb id 82 (omega arith),
      le-ltb id 83 (omega arith),
      le-ltb id 128 (omega arith),
      le-ltb id 132 (omega arith),
      le-ltb id 192 (omega arith),
      le-ltb id 195 (omega arith),
      le-ltb id 201 (omega arith),
      le-ltb id 209 (omega arith),
      le-ltb id 224 (omega arith),
      le-ltb id 227 (omega arith),
      le-ltb id 233 (omega arith),
      le-ltb id 241 (omega arith),
    )

high : (id : ℕ) → 256 ≤ id → need_of id ≡ need_by (kind_of id) (id % 32)
high id h =
    rw (
      unlisted common_ids id refl h,
      unlisted xy_ids id refl h,
      unlisted tc_ids id refl h,
      unlisted channel_ids id refl h,
      no_kind id h,
    )

same_need : (id : ℕ) → need_of id ≡ need_by (kind_of id) (id % 32)
same_need id = by_cases (ltb id 256) (λ e. low id (ltb-true id 256 e)) (λ e. high id (ltb-false id 256 e))

-- ## An answer now and before, by what its id needs

-- a choice by the number
abbrev by_number : {A : Type 0} → ℕ → A → A → A → A → A → A
by_number need common xy tc channels none =
    pick (eqb need 1) common (pick (eqb need 2) xy (pick (eqb need 3) tc (pick (eqb need 4) channels none)))

by_number_lem : {A : Type 0} (id : ℕ) (a b c d e : A) → by_list id a b c d e ≡ by_number (need_of id) a b c d e
by_number_lem id a b c d e =
    by_cases (listed common_ids id) (λ k. rw k)
    (λ k.
    by_cases (listed xy_ids id) (λ l. rw (k, l))
    (λ l.
    by_cases (listed tc_ids id) (λ m. rw (k, l, m))
    (λ m. by_cases (listed channel_ids id) (λ n. rw (k, l, m, n)) (λ n. rw (k, l, m, n)))))

-- by the number of the rule
by_rule : {A : Type 0} (id : ℕ) (a b c d e : A) → by_number (need_by (kind_of id) (id % 32)) a b c d e ≡ by_list id a b c d e
by_rule id a b c d e = rw (← same_need id, ← by_number_lem id a b c d e)

abbrev by_need : Capabilities → ℕ → Answer → Answer
by_need can need value =
    by_number need value (pick can.xy value (Ok (Incapable Xy))) (pick can.tc value (Ok (Incapable Tc)))
    (pick (ltb 0 can.channels) value (Ok (Incapable Channels))) (Ok Nothing)

abbrev able : Capabilities → ℕ → Bool
able can need = by_number need true can.xy can.tc (ltb 0 can.channels) false

abbrev Told : Capabilities → ℕ → Answer → Answer → Type 0
Told can need now before = (unexplained now ≡ before) × (now ≡ by_need can need before) × (is_value now ≡ able can need)

needed : Capability → ℕ
needed Xy = 2
needed Tc = 3
needed Channels = 4

if_told :
    (can : Capabilities) (need : Capability) (v : ℕ) →
    Told can (needed need) (value_answer (if_capable can need v)) (if_there (has can need) v)
unfolding value_answer if_capable unexplained needed
if_told can Xy v = by_cases can.xy (λ e. rw e (refl, refl, refl)) (λ e. rw e (refl, refl, refl))
if_told can Tc v = by_cases can.tc (λ e. rw e (refl, refl, refl)) (λ e. rw e (refl, refl, refl))
if_told can Channels v = by_cases (ltb 0 can.channels) (λ e. rw e (refl, refl, refl)) (λ e. rw e (refl, refl, refl))

shown_told :
    (can : Capabilities) (s : ColourSetting) (place : ℕ) →
    Told can (need_at place) (value_answer (shown can s place)) (shown_before can s place)
unfolding shown shown_before value_answer unexplained needed
shown_told can s place =
    by_cases (eqb place 0) (λ a. rw a (if_told can Xy _))
    (λ a.
    by_cases (eqb place 1) (λ b. rw (a, b) (if_told can Xy _))
    (λ b.
    by_cases (eqb place 2) (λ c. rw (a, b, c) (if_told can Tc _))
    (λ c.
    by_cases (ltb place 9) (λ d. rw (a, b, c, d) (refl, refl, refl))
    (λ d.
    by_cases (ltb place 15) (λ e. rw (a, b, c, d, e) (if_told can Channels _))
    (λ e.
    by_cases (eqb place 15) (λ f. rw (a, b, c, d, e, f) (if_told can Channels _))
    (λ f. by_cases (eqb place 16) (λ h. rw (a, b, c, d, e, f, h) (refl, refl, refl)) (λ h. rw (a, b, c, d, e, f, h) (refl, refl, refl))))))))

limit_told :
    (can : Capabilities) (l : Limits) (place : ℕ) → Told can 3 (value_answer (limit_value can l place)) (limit_before can l place)
unfolding limit_value limit_before needed
limit_told can l place = if_told can Tc _

-- a colour value now and before, by the kind of its id
abbrev valued : Colour → Option Kind → ℕ → Result ℕ NoValue
valued c kind place =
    by_kind kind (shown c.can (face c.active) place) (Ok 0xFFFF) (Ok 0) (limit_value c.can c.limits place)
    (shown c.can (face c.pending) place)
    (shown c.can c.report place)
    (Err Unknown)

abbrev valued_before : Colour → Option Kind → ℕ → Answer
valued_before c kind place =
    by_kind kind (shown_before c.can (face c.active) place) (Ok (Value 0xFFFF)) (Ok (Value 0)) (limit_before c.can c.limits place)
    (shown_before c.can (face c.pending) place)
    (shown_before c.can c.report place)
    (Ok Nothing)

kind_told :
    (c : Colour) (kind : Option Kind) (place : ℕ) →
    Told c.can (need_by kind place) (value_answer (valued c kind place)) (valued_before c kind place)
unfolding value_answer unexplained
kind_told c (Some Active) place = shown_told c.can (face c.active) place
kind_told c (Some Primary) place = (refl, refl, refl)
kind_told c (Some Primaries) place = (refl, refl, refl)
kind_told c (Some Limit) place = limit_told c.can c.limits place
kind_told c (Some Staged) place = shown_told c.can (face c.pending) place
kind_told c (Some Report) place = shown_told c.can c.report place
kind_told c None place = (refl, refl, refl)

value_told :
    (c : Colour) (id : ℕ) →
    Told c.can (need_by (kind_of id) (id % 32)) (value_answer (color_value c id)) (value_before c id)
unfolding color_value value_before
value_told c id = kind_told c (kind_of id) (id % 32)

-- ## Of the calls

as_before : (g : Gear) (id : ℕ) → unexplained (perform (ColorValue id) g).answer ≡ tell g (value_before g.colour id)
unfolding perform color_value_call tell unexplained
as_before g id = by_cases (fitb g) (λ e. rw e (value_told g.colour id).0) (λ e. rw e)

by_table : (g : Gear) (id : ℕ) → (perform (ColorValue id) g).answer ≡ explained_by g id
unfolding perform color_value_call explained
by_table g id = ap (tell g) ((value_told g.colour id).1 ∙ by_rule id _ _ _ _ _)

exactly_valued : (g : Gear) (id : ℕ) → Fit g → is_value (perform (ColorValue id) g).answer ≡ capable g.colour.can id
unfolding perform color_value_call tell capable
exactly_valued g id fit = rw ((fit_exactly g).0 fit) ((value_told g.colour id).2 ∙ by_rule id _ _ _ _ _)

kept : (g : Gear) (id : ℕ) → (perform (ColorValue id) g).gear ≡ g
unfolding perform
kept g id = refl

-- ## Of what a host is told

step_value : (g : Gear) (id b c : ℕ) → (step_rule g 5 id b c).answer ≡ explained_by g id
step_value g id b c = ap (λ (o : Outcome). o.answer) (stepped g 5 id b c) ∙ by_table g id

asked_value :
    (s : List ℕ) (kind id b c : ℕ) → well_formed s ≡ true → kind ≡ 5 →
    asked s kind id b c ≡ Ok (explained_by (last_of s) id)
asked_value s kind id b c good five =
    ((file_judged s []).served good).by_ask kind id b c ∙ ap Ok (rw five (step_value (last_of s) id b c))

pub host_absent : HostAbsent
unfolding asked_code asked_detail
host_absent κs args r e p good five =
    let told = asked_value args.0.now args.1.0 args.1.1.0 args.1.1.1.0 args.1.1.1.1.0 good five in
    (p.0 ∙ ap asked_code told, p.1 ∙ ap asked_detail told)

-- ## On a panel

pub panel : printed panel_file ≡ panel_lines
unfolding accepted answer_text channel_level checked color_value color_value_call colour_fit digits effective_coolest effective_warmest end_text face fitb floor fresh fresh_gear has_type if_capable is_type kind_of levels_fit lies_within limits_fit line_text lines_of member new_gear number_text own_or padded performed profile_from profile_in profile_of short_fit short_of shown state_after step_rule steps_of tell text_after types_of unit_fit unit_from value_answer walk_fit well_formed
panel = refl

pub absent : Absent perform
absent =
    record {
      as_before = as_before;
      kept = kept;
      by_table = by_table;
      exactly_valued = exactly_valued;
      nowhere_else = nowhere_else;
    }
