-- Each write of a list without a shared key answers as it would first: all but memory writes are done, and a memory write
-- reads a bank that no other write of the list touches.
use Prim.Native.Nat.{ℕ}
use mathlib.Core.Path.{◌≡◌, refl, ◌∙◌, sym, ap, ap₂, subst}
use mathlib.Core.Bool.{false}
use mathlib.Core.List.Memᴰ
use mathlib.Core.List.{List, [], ◌∷◌, map}
use mathlib.Core.Option.{Option, none, some}
use Rattle.std.specs.declared.result.Result.TheVariants.{Ok}
use Rattle.order.specs.Carry.{carry, does, store_byte}
use Rattle.order.specs.Keys.{Disjoint, Keyed, NoSharedKey, command_keys, keys}
use Rattle.order.specs.Keys.Key.{Bank1}
use Rattle.order.specs.Lists.{All, Apart}
use Rattle.order.specs.Premises.{Ready}
use Rattle.order.specs.Rows.{BankStep, has}
use Rattle.order.specs.Table.{row}
use Rattle.order.specs.Writes.{Write, after, call_of, perform, replies}
use Rattle.order.specs.Writes.Write.{ArcPower, Standard, TcStep, XyStep, TcLimit, Activation, Memory}
use Rattle.order.proofs.Columns.{parted}
use Rattle.order.proofs.Kept.{ready_kept}
use Rattle.order.proofs.Rowed.{rowed}
use Rattle.order.proofs.Tied.{tied}
use Rattle.bank.specs.declared.build.Banks.{Banks}
use Rattle.bank.specs.Memory.{write_memory_location}
use Rattle.calls.specs.Colours.{activate_call, recoloured, store_tc_limit_call, tc_step_call, xy_step_call}
use Rattle.calls.specs.Memory.{rebanked, write_memory_call}
use Rattle.demands.specs.Calls.{perform as perform_call}
use Rattle.demands.specs.Fit.{Fit}
use Rattle.demands.proofs.Fit.{fit_exactly}
use Rattle.gear.specs.Answer.{Answer, location_answer}
use Rattle.gear.specs.Command.{command_of}
use Rattle.gear.specs.declared.answer.Reply.TheVariants.{Done}
use Rattle.gear.specs.declared.answer.Outcome.{Outcome}
use Rattle.std.specs.Prelude.{Option as RustOption, Some, None}
use Rattle.gear.specs.declared.command.StandardCommand.{StandardCommand}
use Rattle.gear.specs.declared.command.StandardCommand.TheVariants.{Arc, GoToScene, Reset, IdentifyDevice, Config, EnableWriteMemory}
use Rattle.gear.specs.declared.record.Gear.{Gear}
use Rattle.gear.specs.Serve.{serve}
use Rattle.gear.specs.Write.{apply_standard_write, direct_arc_power, write}

-- what a write answers on a fit record, by the banks alone
abbrev reply : Write → Banks → Answer
reply (ArcPower v) b = Ok Done
reply (Standard byte d) b = Ok Done
reply (TcStep warmer) b = Ok Done
reply (XyStep y up) b = Ok Done
reply (TcLimit v s) b = Ok Done
reply Activation b = Ok Done
reply (Memory bank offset v) b = location_answer (write_memory_location b false bank offset v).answer

served : (g : Gear) (o : Outcome) → Fit g → (serve g o).answer ≡ o.answer
unfolding serve
served g o f = rw ((fit_exactly g).0 f)

command_done : (g : Gear) (k : RustOption StandardCommand) (d : ℕ) → (command_keys k ≡ [] → ⊥) → (write g k d).answer ≡ Ok Done
unfolding write command_keys
command_done g (Some (Arc a)) d n = refl
command_done g (Some (GoToScene s)) d n = refl
command_done g (Some Reset) d n = refl
command_done g (Some IdentifyDevice) d n = refl
command_done g (Some (Config k)) d n = refl
command_done g (Some EnableWriteMemory) d n = refl
command_done g None d n = absurd (n refl)

replied : (w : Write) (g : Gear) → Keyed w → Fit g → (perform w g).answer ≡ reply w g.banks
unfolding perform perform_call call_of keys direct_arc_power apply_standard_write tc_step_call xy_step_call store_tc_limit_call activate_call write_memory_call recoloured rebanked write_memory_location
replied (ArcPower v) g k f = served g _ f
replied (Standard byte d) g k f = served g _ f ∙ command_done g (command_of byte) d k.key
replied (TcStep warmer) g k f = served g _ f
replied (XyStep y up) g k f = served g _ f
replied (TcLimit v s) g k f = served g _ f
replied Activation g k f = served g _ f
replied (Memory bank offset v) g k f = served g _ f

-- ---- a write beside one that it shares no key with

unbanked : (f : BankStep → Banks → Banks) (p : Option BankStep) (b : Banks) → Disjoint (has Bank1 p) (Bank1 ∷ []) → does f p b ≡ b
unbanked f none b d = refl
unbanked f (some x) b d = absurd (d Bank1 (Memᴰ.head refl) (Memᴰ.head refl))

banks_kept : (v : Write) (bank offset x : ℕ) (g : Gear) → Keyed v → NoSharedKey v (Memory bank offset x) → Ready g → (after v g).banks ≡ g.banks
unfolding carry keys row
banks_kept v bank offset x g k d h =
    let apart = parted (row v) (row (Memory bank offset x)) (subst (λ ks. Disjoint ks (Bank1 ∷ [])) (tied v) d) in
    ap (λ y. y.banks) (rowed v g k h) ∙ unbanked (store_byte g.condition.faults.unstored) (row v).bank g.banks apart.bank

reply_beside : (v w : Write) (g : Gear) → Keyed v → NoSharedKey v w → Ready g → reply w (after v g).banks ≡ reply w g.banks
reply_beside v (ArcPower x) g k d h = refl
reply_beside v (Standard byte x) g k d h = refl
reply_beside v (TcStep warmer) g k d h = refl
reply_beside v (XyStep y up) g k d h = refl
reply_beside v (TcLimit x s) g k d h = refl
reply_beside v Activation g k d h = refl
reply_beside v (Memory bank offset x) g k d h = ap (reply (Memory bank offset x)) (banks_kept v bank offset x g k d h)

answer_beside : (v w : Write) (g : Gear) → Keyed v → Keyed w → NoSharedKey v w → Ready g → (perform w (after v g)).answer ≡ (perform w g).answer
answer_beside v w g k m d h =
    replied w (after v g) m (ready_kept v g k h).fit ∙ reply_beside v w g k d h ∙ sym (replied w g m h.fit)

-- ---- the list

all_beside :
    (v : Write) (ws : List Write) (g : Gear) → Keyed v → All Keyed ws → All (NoSharedKey v) ws → Ready g →
    map (λ w. (perform w (after v g)).answer) ws ≡ map (λ w. (perform w g).answer) ws
all_beside v [] g k All.none All.none h = refl
all_beside v (w ∷ ws) g k (All.more m ms) (All.more d ds) h =
    ap₂ (λ a rest. a ∷ rest) (answer_beside v w g k m d h) (all_beside v ws g k ms ds h)

pub replies_alone :
    (g : Gear) (ws : List Write) → Ready g → All Keyed ws → Apart NoSharedKey ws → replies ws g ≡ map (λ w. (perform w g).answer) ws
unfolding replies
replies_alone g [] h All.none Apart.none = refl
replies_alone g (w ∷ ws) h (All.more k ks) (Apart.more a r) =
    ap (λ rest. (perform w g).answer ∷ rest)
    (replies_alone (after w g) ws (ready_kept w g k h) ks r ∙ all_beside w ws g k ks a h)
