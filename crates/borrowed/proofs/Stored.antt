-- A call that takes the record by value and hands an outcome back serves the record behind a reference: a copy is passed, and the outcome's record is stored over it. One walk, for any callee.
use mathlib.Core.Path.{◌≡◌, refl, sym, ap, subst}
use Prim.Native.Nat.{ℕ, zero, ◌+◌}
use mathlib.Core.List.{List, [], ◌∷◌, ◌++◌}
use lib.ListN.{length}
use mathlib.Core.Option.{some as some_at}
use seplogic.Ra.Ura.{Ura}
use base.Fraction.{full_share}
use lib.Dec.{T as Holds}
use mir.Syntax.{Ty, Tys, tcons, tnil, Callee, Step as Move, named, mut, ty_ref, deref, field, place, Opd as Operand, copy, rv_opd, Body, seq, assign, call, return, Local, local, value_local, Fn}
use mir.Val.{Val, Vals, vcons, vnil, WT, has_ty, vptr}
use base.Logic.{SProp, ent, sep, ex, emp}
use base.Fml.{GName, Lft, Share, Fml, ftrue, fsep, flft, fobs, fauth, fbor, fobor, fat, froom}
use prog.Memory.{field_of}
use prog.Wp.{Heap, Env, Spot, spot_of, Calls, Loops}
use types.Logic.{Logic, sem}
use contract.Monad.{fact}
use types.Kit.{Item, Seq, ⋆, prop, runs, frees, at_ret, ‵, raw, ◌⊛◌, some, later, ◌$◌, ◌∵◌, !, qed, move, keep, drop, use0, use1, split, join, pick, rewrite, fsplit, fsplit3, fjoin, fjoin3, feq_i, show, frame, await, updating, now as at_once, done}
use types.Run.{Walks, Finds, Opds, look, look_raw, init, store_raw, forget, stop, hop, fld, from, load, of_opd, assigns, land, returns}
use types.Part.{whole, sub, look_in}
use types.SemTy.{Body as Borrowed}
use sound.WpLaws.{FmC}
use denote.Laws.{Is, shows}
use denote.Ref.{MutRef}
use denote.Memory.{mem, cell_at, pointee}
use denote.Steps.{only, opens, closes, owned, peeks, heard, nothing}
use denote.Struct.Steps.{spelt}
use denote.Struct.Laws as LL
use denote.Enum.Laws as EL
use denote.Triple.Statement.{Contract, Triple}
use denote.Triple.Call.{calls_at}
use Rattle.gear.specs.declared.answer.Outcome.{Outcome}
use Rattle.gear.specs.declared.record.Gear.{Gear}
use Rattle.gear.specs.Answer.{Answer}
use Rattle.gear.specs.contracts.record.Gear as G
use Rattle.gear.proofs.record.Gear.TheLaws as G'
use Rattle.gear.specs.contracts.answer.Outcome as O
use Rattle.gear.proofs.answer.Outcome.TheLaws as O'
use Rattle.borrowed.proofs.AnswerType as R

-- the machine values of a record, of an answer, and of an outcome's two fields
abbrev pub gear_val : Gear → Val
gear_val = LL.val G.the_type G'.the_laws

abbrev pub answer_val : Answer → Val
answer_val = EL.val R.the_type R.the_laws

abbrev outcome_vals : Outcome → Vals
outcome_vals r = vcons (answer_val r.answer) (vcons (gear_val r.gear) vnil)

-- an outcome's fields, and where they lie
abbrev outcome_fields : Tys
outcome_fields = tcons R.mir (tcons G'.mir tnil)

answer_at_lem : field_of O'.mir 0 ≡ some_at (R.mir, 0)
answer_at_lem = refl

gear_at : field_of O'.mir 1 ≡ some_at (G'.mir, 8)
gear_at = refl

-- what is known of an outcome is known of its fields
answer_is : (r : Outcome) (vs : List Val) → Is O.the_row r vs → Is R.the_row r.answer (answer_val r.answer ∷ [])
answer_is r vs p = (LL.owed O.the_type O'.the_laws r vs p).0

gear_is : (r : Outcome) (vs : List Val) → Is O.the_row r vs → Is G.the_row r.gear (gear_val r.gear ∷ [])
gear_is r vs p = (LL.owed O.the_type O'.the_laws r vs p).1.0

module _ {M : Type 1} {𝓤 : Ura M} (𝓛 : Logic 𝓤) where
  answer_typed : (a : Answer) → Is R.the_row a (answer_val a ∷ []) → Holds (has_ty R.mir (answer_val a)) × WT (answer_val a)
  answer_typed a p = ((EL.lawful R.the_type R.the_laws 𝓛 tt).typed a _ p).0

  gear_typed : (g : Gear) → Is G.the_row g (gear_val g ∷ []) → Holds (has_ty G'.mir (gear_val g)) × WT (gear_val g)
  gear_typed g p = ((LL.lawful G.the_type G'.the_laws 𝓛).typed g _ p).0

-- a place by a local that is known to stand at s
from_at : {M : Type 1} {𝓤 : Ura M} {𝓛 : Logic 𝓤} {K : Type 0} {Γ : List (Item 𝓤)} {E : Env 𝓤 𝓛.H} → K → {i : ℕ} {path : List Move} {s sp : Spot 𝓤 𝓛.H}
    → spot_of 𝓤 𝓛.H E i ≡ s → Walks K 𝓛 Γ E s path sp → Finds K 𝓛 Γ E (place i path) sp
from_at {M} {𝓤} {𝓛} {K} {Γ} {E} t {i} {path} {s} {sp} e w = from t (subst (λ (s' : Spot 𝓤 𝓛.H). Walks K 𝓛 Γ E s' path sp) (sym e) w)

-- ---- the code: `let outcome = f(*gear, ..); *gear = outcome.gear; outcome.answer`
abbrev Ref : Ty
Ref = ty_ref (named 0) mut (pointee (G.the_row).written)

-- with the outcome in the local `out`, and the record that is passed in the local `arg`
abbrev body : Callee → List Operand → ℕ → ℕ → Body
body f xs out arg =
    seq (assign (place arg []) (rv_opd (copy (place 1 (deref G'.mir ∷ [])))))
    (seq (call f xs (place out []))
    (seq (assign (place 1 (deref G'.mir ∷ [])) (rv_opd (copy (place out (field 1 ∷ [])))))
    (seq (assign (place 0 []) (rv_opd (copy (place out (field 0 ∷ [])))))
    return)))

-- the parameters after the reference stand between it and those two
abbrev pub function : List Local → Callee → List Operand → Fn
function more f xs = record {
  lifetimes = 1;
  outlives = [];
  ty_params = [];
  givens = 0;
  params = 1 + length more;
  locals = local R.mir value_local ∷ local Ref value_local ∷ more ++ (local O'.mir value_local ∷ local G'.mir value_local ∷ []);
  body = body f xs (2 + length more) (3 + length more);
}

-- ---- its walk
-- the reference at the record g, with its lifetime's token
abbrev pub lent : {M : Type 1} (𝓤 : Ura M) → Lft → Share → ℕ → ℕ → GName → Gear → List (Item 𝓤) → List (Item 𝓤)
lent 𝓤 κ q b o γ g Γ = ‵ (fobs γ ((G.the_row).coded.code g)) ∷ ‵ (fbor κ (Borrowed (mem G.the_row) b o γ)) ∷ ‵ (flft κ q) ∷ Γ

-- the locals where they stand: the result, the reference, and the rest
abbrev locals_at : {M : Type 1} (𝓤 : Ura M) (H : Heap 𝓤) → ℕ → ℕ → Env 𝓤 H → Env 𝓤 H
locals_at 𝓤 H l₀ l₁ E = (R.mir, l₀) ∷ (Ref, l₁) ∷ E

-- what the callee hands back at the machine value v: an outcome, which is the rule's
abbrev Back : {M : Type 1} {𝓤 : Ura M} (𝓛 : Logic 𝓤) → Outcome → Val → SProp 𝓤
Back {𝓤 = 𝓤} 𝓛 rule v = 𝓛.H.⇛ (ex 𝓤 (λ (r : Outcome). sep 𝓤 (sem 𝓛 ((O.the_row).own_val r (v ∷ []))) (fact 𝓤 (r ≡ rule))))

module _ {M : Type 1} (𝓤 : Ura M) (l₁ l-arg l-out l₀ : ℕ) (Γ : List (Item 𝓤)) where
  -- the locals before the first statement, and after the last
  abbrev before : ℕ → ℕ → List (Item 𝓤)
  before b o = ‵ (fat full_share Ref l₁ zero (vptr b o)) ∷ ‵ (froom G'.mir l-arg zero) ∷ ‵ (froom O'.mir l-out zero) ∷ ‵ (froom R.mir l₀ zero) ∷ Γ

  abbrev after : List (Item 𝓤)
  after = ‵ (froom Ref l₁ zero) ∷ ‵ (froom G'.mir l-arg zero) ∷ ‵ (froom O'.mir l-out zero) ∷ ‵ (froom R.mir l₀ zero) ∷ Γ

  -- what the operands of the call are read from
  abbrev during : Lft → Share → ℕ → ℕ → GName → Gear → SProp 𝓤 → List (Item 𝓤)
  during κ q b o γ h P =
      raw P ∷ ‵ (cell_at full_share (G.the_row).mir (gear_val h ∷ []) b o) ∷ ‵ (fobor κ q (Borrowed (mem G.the_row) b o γ)) ∷ ‵ (fobs γ ((G.the_row).coded.code h)) ∷ ‵ (fauth γ ((G.the_row).coded.code h)) ∷
      ‵ (fat full_share Ref l₁ zero (vptr b o)) ∷ ‵ (fat full_share G'.mir l-arg zero (gear_val h)) ∷ ‵ (froom O'.mir l-out zero) ∷ ‵ (froom R.mir l₀ zero) ∷ Γ

module _ {M : Type 1} {𝓤 : Ura M} {𝓛 : Logic 𝓤} {K : Type 0} {C : Calls 𝓤 𝓛.H} {Λ : Loops 𝓤 𝓛.H} {κ : Lft} {q : Share} {b o : ℕ} {γ : GName} {E : Env 𝓤 𝓛.H} {l₁ l-arg l-out l₀ : ℕ} {Γ : List (Item 𝓤)} {out arg : ℕ} {f : Callee} {xs : List Operand} {Kf : Val → SProp 𝓤} where
  open 𝓛 use {H}

  pub stores : K → (h : Gear) → spot_of 𝓤 H (locals_at 𝓤 H l₀ l₁ E) out ≡ (O'.mir, l-out, zero) → spot_of 𝓤 H (locals_at 𝓤 H l₀ l₁ E) arg ≡ (G'.mir, l-arg, zero)
      → FmC 𝓤 H 𝓛.laws C → (c : Contract 𝓤) → Triple 𝓤 (C f) c → (x : c.Ghost) (rule : Outcome)
      → ent 𝓤 (sem 𝓛 ((G.the_row).own_val h (gear_val h ∷ []))) (c.pre x) → Opds K 𝓛 (during 𝓤 l₁ l-arg l-out l₀ Γ κ q b o γ h (c.pre x)) (locals_at 𝓤 H l₀ l₁ E) xs (c.args x) → ((v : Val) → ent 𝓤 (c.post x v) (Back 𝓛 rule v))
      → ((r : Outcome) → r ≡ rule → Is R.the_row r.answer (answer_val r.answer ∷ []) → Seq K 𝓛 (lent 𝓤 κ q b o γ r.gear (after 𝓤 l₁ l-arg l-out l₀ Γ)) (frees (locals_at 𝓤 H l₀ l₁ E) (prop (Kf (answer_val r.answer)))))
      → Seq K 𝓛 (lent 𝓤 κ q b o γ h (before 𝓤 l₁ l-arg l-out l₀ Γ b o)) (runs C Λ (locals_at 𝓤 H l₀ l₁ E) (body f xs out arg) (at_ret (locals_at 𝓤 H l₀ l₁ E) Kf))
  stores t h at_out at_arg fm c known x rule passes reads hands_back exits =
      opens t tt G.the_row {h = h} b o (λ vs. spelt t G.the_row (Is G.the_row) (shows 𝓛 G.the_row) (LL.vals G.the_type G'.the_laws) (LL.tells G.the_type G'.the_laws) full_share h vs b o $
      move t (1 ∷ []) $ peeks t G.the_row (Is G.the_row) (shows 𝓛 G.the_row) h (gear_val h ∷ []) (λ is.
      -- [what the record owns; its cell; the open borrow; obs; auth; _1; arg; out; _0; the rest]
      assigns t (of_opd t (load t (from t (hop t (look t 5 refl) (stop t))) (look_raw t 1 refl))) (from_at t at_arg (stop t)) (init t 6 refl (gear_typed 𝓛 h is)) $
      use1 𝓛 (raw (c.pre x)) passes $ calls_at t fm c known x reads (λ v.
      use1 𝓛 (later (some (λ (r : Outcome). ‵ ((O.the_row).own_val r (v ∷ [])) ⊛ raw (fact 𝓤 (r ≡ rule))))) (hands_back v) $ await t tt $ pick t (λ r. split t $ move t (1 ∷ []) $ heard t (r ≡ rule) (λ e.
      peeks t O.the_row (Is O.the_row) (shows 𝓛 O.the_row) r (v ∷ []) (λ is'. drop t $
      -- [the record's cell; the open borrow; obs; auth; _1; arg; out; _0; the rest]
      land t (from_at t at_out (stop t)) (init t 6 refl ((LL.lawful O.the_type O'.the_laws 𝓛).typed r (v ∷ []) is').0) $
      rewrite t 6 (λ (u : Val). ‵ (fat full_share O'.mir l-out zero u)) (ap only (LL.tells O.the_type O'.the_laws r (v ∷ []) is')) refl $
      assigns t (of_opd t (load t (from_at t at_out (fld t {τ = G'.mir} {d = 8} gear_at (stop t))) (look_in t 6 (sub t {τs = outcome_fields} {vs = outcome_vals r} 1 {τ = G'.mir} {d = 8} gear_at (whole t)))))
      (from t (hop t (look t 4 refl) (stop t))) (store_raw t 0 refl (gear_typed 𝓛 r.gear (gear_is r (v ∷ []) is'))) $
      assigns t (of_opd t (load t (from_at t at_out (fld t {τ = R.mir} {d = 0} answer_at_lem (stop t))) (look_in t 6 (sub t {τs = outcome_fields} {vs = outcome_vals r} 0 {τ = R.mir} {d = 0} answer_at_lem (whole t)))))
      (from t (stop t)) (init t 7 refl (answer_typed 𝓛 r.answer (answer_is r (v ∷ []) is'))) $
      owned t G.the_row (Is G.the_row) (LL.makes G.the_type G'.the_plain 𝓛) r.gear (gear_val r.gear ∷ []) (gear_is r (v ∷ []) is') $ move t (1 ∷ 0 ∷ []) $ closes t tt G.the_row r.gear (gear_val r.gear ∷ []) b o $
      -- [obs; the borrow; the token; _1; arg; out; _0; the rest]
      returns t (look t 6 refl) $ forget t 3 refl $ forget t 4 refl $ forget t 5 refl $ forget t 6 refl $ exits r e (answer_is r (v ∷ []) is')))))))

-- ---- the two contracts: beside the record there is only P, which is had for nothing
module _ {M : Type 1} {𝓤 : Ura M} (𝓛 : Logic 𝓤) (P : Fml) where
  open 𝓛 use {A}

  module _ (κ : Lft) (q : Share) (b o : ℕ) (γ : GName) where
    abbrev LentAt : Gear → Fml
    LentAt g = (MutRef (named 0) κ G.the_row).own_val (record { ref_ptr = (b, o); ghost_name = γ; now = g }) (vptr b o ∷ [])

    pub enters : (h : Gear) → ent 𝓤 (sep 𝓤 (sep 𝓤 (A.lft κ q) (emp 𝓤)) (sem 𝓛 (fsep (LentAt h) P))) (⋆ 𝓛 (lent 𝓤 κ q b o γ h []))
    enters h = qed 𝓛 ((‵ (flft κ q) ⊛ ‵ ftrue) ∷ ‵ (fsep (LentAt h) P) ∷ []) ∵ split ! $ move ! (2 ∷ []) $ fsplit ! $ fsplit3 ! $ drop ! $ keep ! (0 ∷ 1 ∷ 3 ∷ []) $ done !

    pub leaves : ent 𝓤 (emp 𝓤) (sem 𝓛 P) → (r : Outcome) → Is R.the_row r.answer (answer_val r.answer ∷ [])
        → ent 𝓤 (⋆ 𝓛 (lent 𝓤 κ q b o γ r.gear [])) (sep 𝓤 (sep 𝓤 (A.lft κ q) (emp 𝓤)) (sep 𝓤 (sem 𝓛 (fsep (LentAt r.gear) P)) (sem 𝓛 ((R.the_row).own_val r.answer (answer_val r.answer ∷ [])))))
    leaves had r is =
        qed 𝓛 (lent 𝓤 κ q b o γ r.gear []) ∵ nothing ! $ move ! (3 ∷ 0 ∷ []) $ join ! $ frame ! $
        feq_i ! (List Val) (vptr b o ∷ []) (vptr b o ∷ []) refl $ fjoin3 ! $ use0 𝓛 (‵ P) had $ move ! (1 ∷ 0 ∷ []) $ fjoin ! $
        owned ! R.the_row (Is R.the_row) (EL.makes R.the_type R.the_plain 𝓛) r.answer (answer_val r.answer ∷ []) is $ move ! (1 ∷ 0 ∷ []) $ done !

  pub passed : ent 𝓤 (emp 𝓤) (sem 𝓛 P) → (h : Gear) → ent 𝓤 (sem 𝓛 ((G.the_row).own_val h (gear_val h ∷ []))) (sep 𝓤 (sep 𝓤 (emp 𝓤) (sem 𝓛 (fsep ((G.the_row).own_val h (gear_val h ∷ [])) P))) (emp 𝓤))
  passed had h = qed 𝓛 (‵ ((G.the_row).own_val h (gear_val h ∷ [])) ∷ []) ∵ use0 𝓛 (‵ P) had $ move ! (1 ∷ 0 ∷ []) $ fjoin ! $ nothing ! $ join ! $ nothing ! $ move ! (1 ∷ 0 ∷ []) $ done !

-- the callee's `post`: it has no `&mut`, so what is said of last values is dropped
pub hands_back : {M : Type 1} {𝓤 : Ura M} (𝓛 : Logic 𝓤) (rule : Outcome) (v : Val) {X : Type 0} (L : X → SProp 𝓤)
    → ent 𝓤 (𝓛.H.⇛ (ex 𝓤 (λ (r : Outcome). sep 𝓤 (sep 𝓤 (emp 𝓤) (sem 𝓛 ((O.the_row).own_val r (v ∷ [])))) (ex 𝓤 (λ (ws : X). sep 𝓤 (L ws) (fact 𝓤 (r ≡ rule))))))) (Back 𝓛 rule v)
hands_back {M} {𝓤} 𝓛 rule v {X} L =
    qed 𝓛 (later (some (λ (r : Outcome). (‵ ftrue ⊛ ‵ ((O.the_row).own_val r (v ∷ []))) ⊛ some (λ (ws : X). raw (L ws) ⊛ raw (fact 𝓤 (r ≡ rule))))) ∷ []) ∵ updating ! $ await ! tt $ at_once ! $
    pick ! (λ r. split ! $ split ! $ drop ! $ move ! (1 ∷ []) $ pick ! (λ ws. split ! $ drop ! $ move ! (1 ∷ 0 ∷ []) $ show ! (λ (r' : Outcome). sep 𝓤 (sem 𝓛 ((O.the_row).own_val r' (v ∷ []))) (fact 𝓤 (r' ≡ rule))) r $ done !))
