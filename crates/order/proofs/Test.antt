-- A list that passes the test meets the premises.
use mathlib.Core.Path.{◌≡◌, refl, ◌∙◌, sym, ap}
use mathlib.Core.Bool.{Bool, true, false, not}
use mathlib.Core.List.Memᴰ
use mathlib.Core.List.{List, [], ◌∷◌, Memᴰ}
use lib.Dec.{eqb}
use borrow.Author.Tests.{eq-eqb, ltb-true}
use Rattle.order.specs.Keys.{Disjoint, Key, Keyed, NoSharedKey, command_keys, config_keys, keys}
use Rattle.order.specs.Lists.{All, Apart}
use Rattle.order.specs.Premises.{Listed}
use Rattle.order.specs.Test.{any, apart, disjoint, key_number, lacks, listed, sized}
use Rattle.order.specs.Writes.{Write, Sized}
use Rattle.order.specs.Writes.Write.{ArcPower, Standard, TcStep, XyStep, TcLimit, Activation, Memory}
use Rattle.gear.specs.Command.{command_of, config_command, level_command}
use Rattle.numbers.specs.Numbers.{both}
use Rattle.numbers.proofs.Logic.{both_left, both_right, no_false}

not_true : (b : Bool) → b ≡ true → not b ≡ true → ⊥
not_true true e n = no_false n
not_true false e n = no_false e

-- equal keys have equal numbers
lacking : (k l : Key) (ls : List Key) → k ≡ l → lacks k ls ≡ true → Memᴰ l ls → ⊥
lacking k l (x ∷ xs) e t (Memᴰ.head f) =
    not_true (eqb (key_number k) (key_number x)) (eq-eqb (key_number k) (key_number x) (ap key_number (e ∙ f)))
    (both_left (not (eqb (key_number k) (key_number x))) (lacks k xs) t)
lacking k l (x ∷ xs) e t (Memᴰ.tail m) =
    lacking k l xs e (both_right (not (eqb (key_number k) (key_number x))) (lacks k xs) t) m
lacking k l [] e t m = Memᴰ.not-nil m

disjoint_sound : (ks ls : List Key) → disjoint ks ls ≡ true → Disjoint ks ls
disjoint_sound [] ls t k m n = Memᴰ.not-nil m
disjoint_sound (x ∷ ks) ls t k (Memᴰ.head e) n = lacking x k ls (sym e) (both_left (lacks x ls) (disjoint ks ls) t) n
disjoint_sound (x ∷ ks) ls t k (Memᴰ.tail m) n = disjoint_sound ks ls (both_right (lacks x ls) (disjoint ks ls) t) k m n

any_sound : (ks : List Key) → any ks ≡ true → ks ≡ [] → ⊥
any_sound ks t e = no_false (ap any (sym e) ∙ t)

sized_sound : (w : Write) → sized w ≡ true → Sized w
sized_sound (ArcPower v) t = tt
sized_sound (Standard byte d) t = tt
sized_sound (TcStep warmer) t = tt
sized_sound (XyStep y up) t = tt
sized_sound (TcLimit v s) t = ltb-true v 65536 t
sized_sound Activation t = tt
sized_sound (Memory bank offset v) t = tt

pub keyed_sound : (w : Write) → both (any (keys w)) (sized w) ≡ true → Keyed w
keyed_sound w t =
    record { key = any_sound (keys w) (both_left (any (keys w)) (sized w) t); sized = sized_sound w (both_right (any (keys w)) (sized w) t) }

apart_sound : (w : Write) (vs : List Write) → apart w vs ≡ true → All (NoSharedKey w) vs
apart_sound w [] t = All.none
apart_sound w (v ∷ vs) t =
    All.more (disjoint_sound (keys w) (keys v) (both_left (disjoint (keys w) (keys v)) (apart w vs) t))
    (apart_sound w vs (both_right (disjoint (keys w) (keys v)) (apart w vs) t))

pub listed_sound : (ws : List Write) → listed ws ≡ true → Listed ws
listed_sound [] t = record { keyed = All.none; apart = Apart.none }
listed_sound (w ∷ ws) t =
    let own = both (any (keys w)) (sized w) in
    let rest = both_right own (both (apart w ws) (listed ws)) t in
    let more = listed_sound ws (both_right (apart w ws) (listed ws) rest) in
    record {
      keyed = All.more (keyed_sound w (both_left own (both (apart w ws) (listed ws)) t)) more.keyed;
      apart = Apart.more (apart_sound w ws (both_left (apart w ws) (listed ws) rest)) more.apart;
    }

-- ---- what the test says: two writes for scenes and groups and one for each other key, all in one list
pub every_key :
    listed
    (ArcPower 200 ∷
    TcStep true ∷
    Standard 46 5 ∷
    Standard 47 7 ∷
    Standard 48 0 ∷
    Standard 45 100 ∷
    Standard 44 50 ∷
    Standard 129 0 ∷
    Memory 1 3 9 ∷
    Standard 64 120 ∷
    Standard 81 0 ∷
    Standard 96 0 ∷
    Standard 113 0 ∷
    []) ≡
    true
unfolding keys command_keys config_keys command_of level_command config_command
every_key = refl

-- GoToScene 3 beside SetScene 4, but not beside SetScene 3, arc power or activation
pub recall_keys :
    (listed (Standard 19 0 ∷ Standard 68 90 ∷ []) ≡ true) ×
    (listed (Standard 19 0 ∷ Standard 67 90 ∷ []) ≡ false) ×
    (listed (Standard 19 0 ∷ ArcPower 90 ∷ []) ≡ false) ×
    (listed (Standard 19 0 ∷ Activation ∷ []) ≡ false)
unfolding keys command_keys config_keys command_of level_command config_command
recall_keys = (refl, refl, refl, refl)
