-- Each impostor of document 01 fails the demand that is named for it.
use Prim.Native.Nat.{ℕ, suc}
use mathlib.Core.Path.{◌≡◌, refl, sym}
use mathlib.Core.Bool.{true}
use mathlib.Core.List.{List, [], ◌∷◌}
use lib.Dec.{eqb}
use native.Mathlib.Omega.{arith}
use Rattle.std.specs.declared.result.Result.TheVariants.{Ok, Err}
use Rattle.demands.specs.Calls.{Behaviour, perform}
use Rattle.demands.specs.Calls.Call.{ArcPower}
use Rattle.demands.specs.Impostors.{Caught, zeroed}
use Rattle.demands.specs.Readings.{AllHold, Reading, number}
use Rattle.demands.specs.Table.{RowsOf, led, numbered, table}
use Rattle.demands.proofs.Readings.{readings}
use Rattle.gear.proofs.Built.{fresh_fit}
use Rattle.gear.specs.declared.answer.Reply.TheVariants.{Done, Value, Nothing, Incapable}
use Rattle.gear.specs.Answer.{Answer}
use Rattle.gear.specs.Profile.{accepted, short_fit, unit_fit}
use Rattle.gear.specs.Record.{fresh_gear, new_gear}
use Rattle.numbers.proofs.Logic.{by_cases, no_false}

-- ## A fresh LED gear

led_accepted : accepted led ≡ true
unfolding accepted unit_fit short_fit
led_accepted = refl

led_max : (new_gear led).gear.levels.max ≡ 254
unfolding new_gear fresh_gear
led_max = rw led_accepted

-- ## What an impostor answers

never_more : (a : Answer) (n : ℕ) → zeroed a ≡ Ok (Value (suc n)) → ⊥
unfolding zeroed
never_more (Ok Done) n e = let z : ◌≡◌ {A = ℕ} 0 1 = cc in omega arith
never_more (Ok (Value m)) n e = let z : ◌≡◌ {A = ℕ} 0 (suc n) = cc in omega arith
never_more (Ok Nothing) n e = let z : ◌≡◌ {A = ℕ} 0 (suc n) = cc in omega arith
never_more (Ok (Incapable need)) n e = let z : ◌≡◌ {A = ℕ} 0 (suc n) = cc in omega arith
never_more (Err r) n e = let z : ◌≡◌ {A = ℕ} 0 1 = cc in omega arith

-- the rows of one reading hold where all of them do
some_hold : (f : Behaviour) (n : ℕ) (rows : List Reading) → AllHold f rows → AllHold f (numbered n rows)
some_hold f n [] h = tt
some_hold f n (row ∷ rows) h =
    by_cases (eqb (number row) n) (λ e. rw e (h.0, some_hold f n rows h.1)) (λ e. rw e (some_hold f n rows h.1))

walked : RowsOf 10 perform
walked = some_hold perform 10 table readings

two_answers : (a : Answer) → a ≡ Ok (Value 254) → a ≡ Ok (Value 8) → ⊥
two_answers a p q = let z : ◌≡◌ {A = ℕ} 254 8 = cc in omega arith

two_limits : (n : ℕ) → n ≡ 254 → n ≡ 200 → ⊥
two_limits n p q = omega arith

pub caught : Caught
caught =
    record {
      refuses_every = λ why h. no_false (sym (rw (fresh_fit led led_accepted) at (h (ArcPower 0) (fresh_gear led))));
      answers_zero_at_P2 = λ leaves h. never_more _ 199 h.0.1.1.0;
      answers_zero_at_P10 = λ leaves h. never_more _ 254 h.0.1.0;
      ignores_writes_at_P4 = λ which writes h. two_limits _ led_max (rw (writes 42 200) at h.0.0.1.0);
      miscounts_at_P10 =
          λ which walk h. two_answers _ walked.0.1.1.1.1.0 (rw (walk.begins, walk.moves) at h.0.1.1.1.0);
    }
