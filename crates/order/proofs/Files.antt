-- Two session files with the same writes in two orders, by demand 3 over their steps.
use Prim.Native.Nat.{ℕ, ◌+◌}
use mathlib.Core.Path.{◌≡◌, refl, sym, ◌∙◌, ap, ap₂}
use mathlib.Core.List.{List, [], ◌∷◌, ◌++◌, Permᴰ}
use mathlib.Core.Option.{some}
use lib.ListN.{length}
use native.Mathlib.Omega.{arith}
use Rattle.order.specs.Files.{FilesInAnyOrder, SameAfter, Stand, TwoOrders}
use Rattle.order.specs.Keys.{Keyed, NoSharedKey}
use Rattle.order.specs.Lists.{All, Apart, run}
use Rattle.order.specs.Premises.{Ready}
use Rattle.order.specs.Writes.{Write, after, call_of, perform}
use Rattle.order.proofs.Columns.{turned}
use Rattle.order.proofs.EveryOrder.{swap}
use Rattle.order.proofs.Kept.{ready_kept}
use Rattle.order.proofs.Orders.{same_end}
use Rattle.demands.specs.Sessions.{Step, StepByStep, after_steps, call_in, lines_from, perform_step, start_in, text_from}
use Rattle.demands.proofs.StepByStep.{lines_then, rules_step_by_step}
use Rattle.gear.specs.declared.record.Gear.{Gear}
use Rattle.gear.specs.Record.{new_gear}
use Rattle.runner.specs.Run.{printed}

-- ## Steps that are keyed writes

pub record Is (x : Step) (w : Write) : Type 0 where
  pub call : call_in x ≡ some (call_of w)
  pub keyed : Keyed w

-- without a shared key
pub record Free (x y : Step) : Type 0 where
  pub one : Write
  pub other : Write
  pub is_one : Is x one
  pub is_other : Is y other
  pub free : NoSharedKey one other

next : Step → Gear → Gear
next x g = (perform_step x g).gear

next_is : (x : Step) (w : Write) → Is x w → (g : Gear) → next x g ≡ after w g
unfolding next perform_step perform
next_is x w is g = rw is.call

free_turned : (x y : Step) → Free x y → Free y x
free_turned x y f =
    record { one = f.other; other = f.one; is_one = f.is_other; is_other = f.is_one; free = turned f.free }

next_ready : (x : Step) (g : Gear) → (w : Write) × Is x w → Ready g → Ready (next x g)
next_ready x g (w, is) h = rw (next_is x w is g) (ready_kept w g is.keyed h)

next_swap :
    (x y : Step) (g : Gear) → (w : Write) × Is x w → (w : Write) × Is y w → Free x y → Ready g →
    next y (next x g) ≡ next x (next y g)
next_swap x y g _ _ f h =
    let v = f.one in
    let w = f.other in
    next_is y w f.is_other (next x g) ∙
    ap (after w) (next_is x v f.is_one g) ∙
    swap v w g f.is_one.keyed f.is_other.keyed f.free h ∙
    ap (after v) (sym (next_is y w f.is_other g)) ∙
    sym (next_is x v f.is_one (next y g))

-- ## What stands for a listed list

all_are : {xs : List Step} {ws : List Write} → Stand xs ws → All Keyed ws → All (λ x. (w : Write) × Is x w) xs
all_are Stand.none All.none = All.none
all_are (Stand.more {w = w} e s) (All.more k a) = All.more (w, record { call = e; keyed = k }) (all_are s a)

all_free :
    (x : Step) (v : Write) → Is x v → {xs : List Step} {ws : List Write} → Stand xs ws → All Keyed ws → All (NoSharedKey v) ws →
    All (Free x) xs
all_free x v is Stand.none All.none All.none = All.none
all_free x v is (Stand.more {w = w} e s) (All.more k a) (All.more d ds) =
    All.more (record { one = v; other = w; is_one = is; is_other = record { call = e; keyed = k }; free = d }) (all_free x v is s a ds)

apart_free : {xs : List Step} {ws : List Write} → Stand xs ws → All Keyed ws → Apart NoSharedKey ws → Apart Free xs
apart_free Stand.none All.none Apart.none = Apart.none
apart_free (Stand.more {step = x} {w = w} e s) (All.more k a) (Apart.more d ds) =
    Apart.more (all_free x w (record { call = e; keyed = k }) s a d) (apart_free s a ds)

-- ## The record after them, and the lines

steps_run : (xs : List Step) (g : Gear) → after_steps xs g ≡ run next xs g
unfolding after_steps run next
steps_run [] g = refl
steps_run (x ∷ xs) g = steps_run xs (next x g)

perm_length : {xs ys : List Step} → Permᴰ xs ys → length xs ≡ length ys
perm_length Permᴰ.nil = refl
perm_length (Permᴰ.cons e d) = let h = perm_length d in omega arith
perm_length (Permᴰ.swap e f) = refl
perm_length (Permᴰ.trans d e) = perm_length d ∙ perm_length e

module _ (runner : List ℕ → List ℕ)
    (rules : StepByStep runner)
    (s t : List ℕ)
    (before one other later : List Step)
    (ws : List Write)
    (h : TwoOrders s t before one other later ws) where
  abbrev start : Gear
  start = start_in s

  -- where the writes begin
  abbrev there : Gear
  there = after_steps before start

  same_record : after_steps one there ≡ after_steps other there
  same_record =
      steps_run one there ∙
      same_end next Ready (λ x. (w : Write) × Is x w) Free free_turned next_ready next_swap h.order
      (all_are h.stand h.listed.keyed)
      (apart_free h.stand h.listed.keyed h.listed.apart)
      there
      h.ready ∙
      sym (steps_run other there)

  -- writes xs, k of them, that leave g
  abbrev text : List Step → ℕ → Gear → List ℕ
  text xs k g = text_from 1 start before ++ (text_from (1 + length before) there xs ++ lines_from (1 + length before + k) g later)

  parts : (xs : List Step) → lines_from 1 start (before ++ (xs ++ later)) ≡ text xs (length xs) (after_steps xs there)
  parts xs =
      lines_then 1 start before (xs ++ later) ∙
      ap (λ (more : List ℕ). text_from 1 start before ++ more) (lines_then (1 + length before) there xs later)

  same_after : SameAfter runner s t before one other later
  same_after =
      record {
        lines = rules.served s (before ++ (one ++ later)) h.formed h.steps ∙ parts one;
        lines_too =
            rules.served t (before ++ (other ++ later)) h.formed_too h.steps_too ∙
            ap (λ p. lines_from 1 (new_gear p).gear (before ++ (other ++ later))) (sym h.profile) ∙
            parts other ∙
            ap₂ (text other) (sym (perm_length h.order)) (sym same_record);
      }

pub files_in_any_order : FilesInAnyOrder
files_in_any_order = record { any_runner = same_after; rules = same_after printed rules_step_by_step }
