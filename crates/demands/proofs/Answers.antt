-- Which answers are usual, neither a refusal nor the word that a gear lacks something: those that the rules give where nothing is refused.
use Prim.Native.Nat.{ℕ, ◌≤◌, ◌/◌, ◌%◌}
use Rattle.std.specs.Prelude.{Result, Ok, Err}
use mathlib.Core.Path.{◌≡◌, refl}
use mathlib.Core.Bool.{Bool, true, false}
use mathlib.Core.Option.{Option, none, some}
use Rattle.std.specs.Prelude.{Option as Optional, None, Some}
use lib.Dec.{leb, ltb, eqb}
use borrow.Author.Tests.{eqb-true, ltb-true, ltb-false}
use Rattle.demands.specs.Calls.{told}
use Rattle.demands.specs.Refusals.{listed, write_bytes, query_bytes, group_refusal, is_refusal, Judged}
use Rattle.demands.proofs.Bytes.{write_listed, write_high, command_high, query_listed}
use Rattle.calls.specs.Address.{beyond, judged, matching}
use Rattle.calls.specs.declared.address.Address.{Address}
use Rattle.calls.specs.declared.address.Address.TheVariants.{Short, Group, Broadcast, Unaddressed}
use Rattle.calls.specs.Pairing.{hear, heard_answer, waits}
use Rattle.colour.specs.declared.value.NoValue.{NoValue}
use Rattle.colour.specs.declared.value.NoValue.TheVariants.{Unknown as NoSuchId, Incapable as Lacking}
use Rattle.gear.specs.Answer.{Answer, flag, location_answer, refused, unexplained, value_answer}
use Rattle.gear.specs.declared.answer.Reply.TheVariants.{Done, Value, Nothing}
use Rattle.gear.specs.declared.answer.Outcome.{Outcome}
use Rattle.gear.specs.declared.answer.Refusal.{Refusal}
use Rattle.gear.specs.declared.answer.Refusal.TheVariants.{Byte}
use Rattle.gear.specs.declared.record.Gear.{Gear}
use Rattle.gear.specs.Record.{fitb}
use Rattle.gear.specs.Serve.{serve}
use Rattle.gear.specs.Write.{apply_standard_write, write}
use Rattle.gear.proofs.Refusals.{is_write, write_refusals}
use Rattle.numbers.specs.Numbers.{pick}
use Rattle.numbers.proofs.Logic.{by_cases}
use Rattle.query.specs.Reply.{identity_reply, is_query, query, reply, setting_reply, status_reply, yes}
use Rattle.query.specs.declared.told.Seen.{Seen}
use Rattle.query.specs.Walk.{device_type, next, next_at, next_device_type}

data Plain : Answer → Type 0 where
  done : Plain (Ok Done)
  value : {n : ℕ} → Plain (Ok (Value n))
  nothing : Plain (Ok Nothing)

abbrev pub Usual : Answer → Type 0
Usual a = (is_refusal a ≡ false) × (unexplained a ≡ a)

plain : {a : Answer} → Plain a → Usual a
unfolding unexplained
plain done = (refl, refl)
plain value = (refl, refl)
plain nothing = (refl, refl)

-- as the table says, and with no word that the gear lacks something
abbrev pub Strictly : Option Refusal → Gear → Outcome → Type 0
Strictly t g o = Judged t g o × (unexplained o.answer ≡ o.answer)

refused_strictly : (g : Gear) (r : Refusal) {o : Outcome} → o ≡ refused g r → Strictly (some r) g o
unfolding unexplained
refused_strictly g r e = (e, rw e)

done_usual : {a : Answer} → a ≡ Ok Done → Usual a
done_usual e = rw e (plain done)

-- ## Parts of answers

either : (t : Bool) {a b : Answer} → Plain a → Plain b → Plain (pick t a b)
either true p q = p
either false p q = q

pub done_plain : Usual (Ok Done)
done_plain = plain done

pub number_plain : (n : ℕ) → Usual (Ok (Value n))
number_plain n = plain value

pub flag_plain : (t : Bool) → Usual (flag t)
unfolding flag
flag_plain t = plain value

-- a colour value alone may tell that the gear lacks something
pub value_served : (v : Result ℕ NoValue) → is_refusal (value_answer v) ≡ false
unfolding value_answer
value_served (Ok n) = refl
value_served (Err NoSuchId) = refl
value_served (Err (Lacking need)) = refl

pub control_plain : (v : Result ℕ NoValue) → Usual (unexplained (value_answer v))
unfolding value_answer unexplained
control_plain (Ok n) = plain value
control_plain (Err NoSuchId) = plain nothing
control_plain (Err (Lacking need)) = plain nothing

pub location_plain : (l : Optional ℕ) → Usual (location_answer l)
unfolding location_answer
location_plain (Some b) = plain value
location_plain None = plain nothing

pub hear_plain : (g : Gear) (frame : ℕ) (repeats : Bool) → Usual (hear g frame repeats).answer
unfolding hear heard_answer
hear_plain g frame repeats = by_cases (waits g.marks.pair frame) (λ e. rw e (plain value)) (λ e. rw e (plain value))

-- ## Queries

yes_plain : (t : Bool) → Plain (yes t)
unfolding yes
yes_plain t = either t value nothing

status_plain : (s : Seen) (low : ℕ) → Plain (status_reply s low)
unfolding status_reply
status_plain s low =
    either (eqb low 0) value
    (either (eqb low 1) value
    (either (eqb low 2) (yes_plain _)
    (either (eqb low 3) (yes_plain _)
    (either (eqb low 4) (yes_plain _)
    (either (eqb low 5) (yes_plain _)
    (either (eqb low 6) (yes_plain _)
    (either (eqb low 7) value
    (either (eqb low 10) value
    (either (eqb low 11) (yes_plain _) (either (eqb low 14) value (either (eqb low 15) value nothing)))))))))))

setting_plain : (s : Seen) (low : ℕ) → Plain (setting_reply s low)
unfolding setting_reply
setting_plain s low =
    either (eqb low 0) value
    (either (eqb low 1) value
    (either (eqb low 2) value
    (either (eqb low 3) value
    (either (eqb low 4) value
    (either (eqb low 5) value (either (eqb low 8) value (either (eqb low 10) (yes_plain _) nothing)))))))

identity_plain : (s : Seen) (low : ℕ) → Plain (identity_reply s low)
unfolding identity_reply
identity_plain s low =
    either (eqb low 0) value
    (either (eqb low 1) value (either (eqb low 2) value (either (eqb low 3) value (either (eqb low 4) value nothing))))

reply_plain : (s : Seen) (b : ℕ) → Plain (reply s b)
unfolding reply
reply_plain s b =
    either (eqb (b / 16) 9) (status_plain s (b % 16))
    (either (eqb (b / 16) 10) (setting_plain s (b % 16))
    (either (eqb (b / 16) 11) value (either (eqb (b / 16) 12) (identity_plain s (b % 16)) nothing)))

type_plain : (g : Gear) → Plain (device_type g).answer
unfolding device_type
type_plain g = by_cases (eqb g.unit.count 0) (λ e. rw e value) (λ e. by_cases (eqb g.unit.count 1) (λ t. rw (e, t) value) (λ t. rw (e, t) value))

next_plain : (g : Gear) (w : Optional ℕ) → Plain (next g w).answer
unfolding next next_at
next_plain g None = nothing
next_plain g (Some n) = by_cases (leb g.unit.count n) (λ e. rw e value) (λ e. rw e value)

pub query_judged : (g : Gear) (b : ℕ) → Strictly (pick (listed query_bytes b) none (some Byte)) g (query g b)
unfolding query next_device_type
query_judged g b =
    by_cases (eqb b 153) (λ e. let at : b ≡ 153 = eqb-true b 153 e in rw at (plain (type_plain g)))
    (λ e.
    by_cases (eqb b 167) (λ t. let at : b ≡ 167 = eqb-true b 167 t in rw at (plain (next_plain g g.marks.walk)))
    (λ t.
    by_cases (is_query b) (λ u. rw (← query_listed b, e, t, u) (plain (reply_plain _ b))) (λ u. rw (← query_listed b, e, t, u) (refused_strictly g Byte refl))))

-- ## Writes

unknown : (g : Gear) (b d : ℕ) → fitb g ≡ true → 256 ≤ b → apply_standard_write g b d ≡ refused g Byte
unfolding apply_standard_write serve write
unknown g b d fit h = rw (fit, command_high b h)

pub write_judged : (g : Gear) (b d : ℕ) → fitb g ≡ true → Strictly (pick (listed write_bytes b) none (some Byte)) g (apply_standard_write g b d)
write_judged g b d fit =
    by_cases (ltb b 256)
    (λ e.
    let h = ltb-true b 256 e in
    by_cases (is_write b) (λ t. rw (← write_listed b h, t) (done_usual ((write_refusals g b d h).write fit t)))
    (λ t. rw (← write_listed b h, t) (refused_strictly g Byte ((write_refusals g b d h).byte fit t))))
    (λ e. let h = ltb-false b 256 e in rw (write_high b h) (refused_strictly g Byte (unknown g b d fit h)))

-- ## Addresses

pub address_judged : (g : Gear) (a : Address) → Strictly (group_refusal a) g (told g (judged g a))
unfolding judged beyond matching
address_judged g (Short a) = flag_plain _
address_judged g (Group n) = by_cases (ltb 15 n) (λ e. rw e (refused_strictly g _ refl)) (λ e. rw e (flag_plain _))
address_judged g Broadcast = flag_plain _
address_judged g Unaddressed = flag_plain _
