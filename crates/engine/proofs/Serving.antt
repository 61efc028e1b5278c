-- A call that does its rule's work on every image of a fit record is served; the two refusals.
use Prim.Native.Nat.{ℕ}
use mathlib.Core.Path.{◌≡◌, refl, sym}
use mathlib.Core.Bool.{false, true}
use mathlib.Core.List.{List}
use lib.Dec.{eqb}
use lib.ListN.{get_or, length}
use mir.Syntax.{w8}
use mir.Val.{Fits}
use borrow.Author.Tests.{eq-eqb, eqb-true, ne_eqb}
use Rattle.std.specs.declared.result.Result.TheVariants.{Err, Ok}
use Rattle.engine.specs.Served.{Served, left, told}
use Rattle.engine.specs.Works.{Works}
use Rattle.gear.specs.declared.answer.Outcome.{Outcome}
use Rattle.gear.specs.declared.answer.Refusal.{Refusal}
use Rattle.gear.specs.declared.answer.Refusal.TheVariants.{Length, Unfit}
use Rattle.gear.specs.declared.record.Gear.{Gear}
use Rattle.gear.specs.Answer.{Answer}
use Rattle.gear.specs.Record.{fitb}
use Rattle.gear.specs.Serve.{serve}
use Rattle.numbers.proofs.Logic.{by_cases}
use Rattle.slot.proofs.Forth.{image_forth, is_fit}
use Rattle.slot.proofs.Lists.{all_bytes}
use Rattle.slot.proofs.Passes.{held_sound}
use Rattle.slot.specs.Calls.{tested}
use Rattle.slot.specs.Held.{Does, Holds, Tells, heldb}
use Rattle.slot.specs.Record.{gear_of}

-- what the work on an image comes to
abbrev pub Meets : (Gear → Outcome) → List ℕ → List ℕ → Answer → Type 0
Meets rule b b' r = (g : Gear) → Holds b g → fitb g ≡ true → (Holds b' (rule g).gear × (r ≡ (rule g).answer))

abbrev pub Answers : (Gear → Answer) → List ℕ → Answer → Type 0
Answers rule b r = (g : Gear) → Holds b g → fitb g ≡ true → r ≡ rule g

-- ## Work that is done on any record, under the test of fit

pub by_work : (rule : Gear → Outcome) (b b' : List ℕ) (r : Answer) → Does (λ g. (rule g).gear) b b' → Tells (λ g. (rule g).answer) b r → Meets (λ g. serve g (rule g)) b b' r
unfolding serve
by_work rule b b' r does tells = λ g h fit. rw fit (does g h, tells g h)

pub by_works : (rule : Gear → Outcome) (b b' : List ℕ) (r : Answer) → Works rule b b' r → Meets (λ g. serve g (rule g)) b b' r
by_works rule b b' r works = by_work rule b b' r works.does works.tells

-- ## Refused

pub length_tested : (b : List ℕ) → (length b ≡ 512 → ⊥) → Err Length ≡ tested b
unfolding tested
length_tested b h = rw (ne_eqb (length b) 512 h)

pub unfit_tested : (b : List ℕ) → length b ≡ 512 → heldb b ≡ false → Err Unfit ≡ tested b
unfolding tested
unfit_tested b long h = rw (eq-eqb (length b) 512 long, h)

pub held_tested : (b : List ℕ) → length b ≡ 512 → heldb b ≡ true → Ok b ≡ tested b
unfolding tested
held_tested b long h = rw (eq-eqb (length b) 512 long, h)

pub not_lent : (rule : Gear → Outcome) (b : List ℕ) (refusal : Refusal) → Err refusal ≡ tested b → Served rule b b (Err refusal)
unfolding tested told left
not_lent rule b refusal h =
    by_cases (eqb (length b) 512)
    (λ e.
    by_cases (heldb b) (λ held. let no : Err refusal ≡ Ok b = rw (e, held) at h in absurd (cc))
    (λ held. let is = rw (e, held) at h in let same : refusal ≡ Unfit = cc in record { answer = rw (e, held, same); bytes = rw (e, held) }))
    (λ e. let is = rw e at h in let same : refusal ≡ Length = cc in record { answer = rw (e, same); bytes = rw e })

pub other_length : (rule : Gear → Outcome) (b : List ℕ) → (length b ≡ 512 → ⊥) → Served rule b b (Err Length)
other_length rule b h = not_lent rule b Length (length_tested b h)

pub not_held : (rule : Gear → Outcome) (b : List ℕ) → length b ≡ 512 → heldb b ≡ false → Served rule b b (Err Unfit)
unfolding tested
not_held rule b len h = not_lent rule b Unfit (rw (eq-eqb (length b) 512 len, h) refl)

pub told_not_lent : (rule : Gear → Answer) (b : List ℕ) (refusal : Refusal) → Err refusal ≡ tested b → Err refusal ≡ told rule b
unfolding tested told
told_not_lent rule b refusal h =
    by_cases (eqb (length b) 512)
    (λ e.
    by_cases (heldb b) (λ held. let no : Err refusal ≡ Ok b = rw (e, held) at h in absurd (cc))
    (λ held. let is = rw (e, held) at h in let same : refusal ≡ Unfit = cc in rw (e, held, same)))
    (λ e. let is = rw e at h in let same : refusal ≡ Length = cc in rw (e, same))

-- what a slot was lent for
pub record Lent (b l : List ℕ) : Type 0 where
  pub same : l ≡ b
  pub long : length b ≡ 512
  pub held : heldb b ≡ true

pub lent_slot : (b l : List ℕ) → Ok l ≡ tested b → Lent b l
unfolding tested
lent_slot b l h =
    by_cases (eqb (length b) 512)
    (λ e.
    by_cases (heldb b)
    (λ held. let is : Ok l ≡ Ok b = rw (e, held) at h in record { same = cc; long = eqb-true (length b) 512 e; held = held })
    (λ held. let no : Ok l ≡ Err Unfit = rw (e, held) at h in absurd (cc)))
    (λ e. let no : Ok l ≡ Err Length = rw e at h in absurd (cc))

-- ## Served

module _ (b : List ℕ) (len : length b ≡ 512) (fits : (i : ℕ) → Fits w8 (get_or b i 0)) (held : heldb b ≡ true) where
  pub holds : Holds b (gear_of b)
  holds = let bytes = all_bytes b fits in (sym (image_forth b len bytes held), held_sound b len bytes held)

  pub served : (rule : Gear → Outcome) (b' : List ℕ) (r : Answer) → Meets rule b b' r → Served rule b b' r
  unfolding told left
  served rule b' r meets =
      let e : eqb (length b) 512 ≡ true = eq-eqb (length b) 512 len in
      let done = meets (gear_of b) holds (is_fit b held) in
      record { answer = rw (e, held) done.1; bytes = rw (e, held) done.0.0 }

  pub answered : (rule : Gear → Answer) (r : Answer) → Answers rule b r → r ≡ told rule b
  unfolding told
  answered rule r meets = rw (eq-eqb (length b) 512 len, held) (meets (gear_of b) holds (is_fit b held))
