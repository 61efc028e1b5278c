-- Two rows without a common key ask something of no part in common, and so swap part by part.
use Prim.Native.Nat.{ℕ}
use mathlib.Core.Path.{◌≡◌, refl, ap}
use mathlib.Core.Bool.{Bool, true, false}
use mathlib.Core.List.Memᴰ
use mathlib.Core.List.{List, [], ◌∷◌}
use mathlib.Core.Option.{Option, none, some}
use lib.Dec.{eqb, leb}
use Rattle.order.specs.Keys.{Key, Disjoint}
use Rattle.order.specs.Keys.Key.{Level, Colour as ColourKey, FadeTime, FadeRate, ExtendedFade, PowerOn, SystemFailure, Bank1, Scene, Group}
use Rattle.order.specs.Carry.{colour_step, does, read_scene, settled, store_group, store_scene}
use Rattle.order.specs.Rows.{ColourStep, GroupSlot, Row, SceneSlot, columns, group_keys, has, joined, scene_keys}
use Rattle.order.specs.Rows.ColourStep.{Tc, Xy, Limit, Activated, SceneColour}
use Rattle.order.specs.Rows.GroupSlot.{NoGroup, Member}
use Rattle.order.specs.Rows.SceneSlot.{NoScene, At}
use Rattle.order.proofs.Slots.{Differ, store_elsewhere, store_swap, stored_swap}
use Rattle.colour.specs.Activation.{activate, activated, strays}
use Rattle.colour.specs.declared.record.Colour.{Colour}
use Rattle.colour.specs.declared.setting.ColourSetting.{ColourSetting}
use Rattle.colour.specs.Staging.{load, load_temporaries_from}
use Rattle.colour.specs.Steps.{store_tc_limit, tc_step, xy_step}
use Rattle.gear.specs.declared.settings.LevelSetting.{LevelSetting}
use Rattle.numbers.specs.Numbers.{pick}
use Rattle.numbers.proofs.Logic.{by_cases}

-- ---- from all keys at once to each column

Each : List (List Key) → List (List Key) → Type 0
Each [] ls = Unit {0}
Each (k ∷ ks) [] = Unit {0}
Each (k ∷ ks) (l ∷ ls) = Disjoint k l × Each ks ls

each : (ks ls : List (List Key)) → Disjoint (joined ks) (joined ls) → Each ks ls
unfolding Each
each [] ls d = tt
each (k ∷ ks) [] d = tt
each (k ∷ ks) (l ∷ ls) d =
    (λ x m n. d x (Memᴰ.append_left (joined ks) m) (Memᴰ.append_left (joined ls) n), each ks ls (λ x m n. d x (Memᴰ.append_right k m) (Memᴰ.append_right l n)))

-- no column of two rows shares a key
pub record Parted (r q : Row) : Type 0 where
  pub level : Disjoint (has Level r.level) (has Level q.level)
  pub colour : Disjoint (has ColourKey r.colour) (has ColourKey q.colour)
  pub scene : Disjoint (scene_keys r.scene) (scene_keys q.scene)
  pub fade_time : Disjoint (has FadeTime r.fade_time) (has FadeTime q.fade_time)
  pub fade_rate : Disjoint (has FadeRate r.fade_rate) (has FadeRate q.fade_rate)
  pub extended_fade : Disjoint (has ExtendedFade r.extended_fade) (has ExtendedFade q.extended_fade)
  pub power_on : Disjoint (has PowerOn r.power_on) (has PowerOn q.power_on)
  pub system_failure : Disjoint (has SystemFailure r.system_failure) (has SystemFailure q.system_failure)
  pub group : Disjoint (group_keys r.group) (group_keys q.group)
  pub bank : Disjoint (has Bank1 r.bank) (has Bank1 q.bank)

pub parted : (r q : Row) → Disjoint (joined (columns r)) (joined (columns q)) → Parted r q
unfolding Each
parted r q d =
    let e = each (columns r) (columns q) d in
    record {
      level = e.0;
      colour = e.1.0;
      scene = e.1.1.0;
      fade_time = e.1.1.1.0;
      fade_rate = e.1.1.1.1.0;
      extended_fade = e.1.1.1.1.1.0;
      power_on = e.1.1.1.1.1.1.0;
      system_failure = e.1.1.1.1.1.1.1.0;
      group = e.1.1.1.1.1.1.1.1.0;
      bank = e.1.1.1.1.1.1.1.1.1.0;
    }

pub turned : {ks ls : List Key} → Disjoint ks ls → Disjoint ls ks
turned d k m n = d k n m

-- at most one of two columns asks for something
pub does_swap :
    {K A : Type 0} (k : Key) (f g : K → A → A) (p q : Option K) → Disjoint (has k p) (has k q) → (a : A) →
    does g q (does f p a) ≡ does f p (does g q a)
does_swap k f g none none d a = refl
does_swap k f g none (some y) d a = refl
does_swap k f g (some x) none d a = refl
does_swap k f g (some x) (some y) d a = absurd (d k (Memᴰ.head refl) (Memᴰ.head refl))

-- ---- scenes and groups: different places

differ : (at : ℕ → Key) (n m : ℕ) → Disjoint (at n ∷ []) (at m ∷ []) → Differ n m
differ at n m d e = d (at n) (Memᴰ.head refl) (Memᴰ.head (ap at e))

pub group_swap : (a b : GroupSlot) → Disjoint (group_keys a) (group_keys b) → (xs : List Bool) → store_group b (store_group a xs) ≡ store_group a (store_group b xs)
group_swap NoGroup NoGroup d xs = refl
group_swap NoGroup (Member m v) d xs = refl
group_swap (Member n u) NoGroup d xs = refl
group_swap (Member n u) (Member m v) d xs = stored_swap xs n m u v (differ Group n m d)

pub scene_swap :
    (a b : SceneSlot) → Disjoint (scene_keys a) (scene_keys b) → (xs : List LevelSetting) →
    store_scene b (store_scene a xs) ≡ store_scene a (store_scene b xs)
scene_swap NoScene NoScene d xs = refl
scene_swap NoScene (At m v) d xs = refl
scene_swap (At n u) NoScene d xs = refl
scene_swap (At n u) (At m v) d xs = store_swap xs n m u v (differ Scene n m d)

-- a row reads its own scene as it was before another row
pub read_scene_lem :
    (a b : SceneSlot) → Disjoint (scene_keys a) (scene_keys b) → (xs : List LevelSetting) → read_scene a (store_scene b xs) ≡ read_scene a xs
read_scene_lem NoScene NoScene d xs = refl
read_scene_lem NoScene (At m v) d xs = refl
read_scene_lem (At n u) NoScene d xs = refl
read_scene_lem (At n u) (At m v) d xs = store_elsewhere xs n m v (differ Scene n m d)

-- ---- marks and staged control: what is cleared twice is cleared in either order

pub pick_swap : {A : Type 0} (p q : Bool) (to a : A) → pick q to (pick p to a) ≡ pick p to (pick q to a)
pick_swap true true to a = refl
pick_swap true false to a = refl
pick_swap false true to a = refl
pick_swap false false to a = refl

pub settled_swap : (p q : Bool) (c : Colour) → settled q (settled p c) ≡ settled p (settled q c)
settled_swap true true c = refl
settled_swap true false c = refl
settled_swap false true c = refl
settled_swap false false c = refl

settled_step : (s : ColourSetting) (k : ColourStep) (c : Colour) → colour_step s k (settled true c) ≡ settled true (colour_step s k c)
unfolding tc_step xy_step store_tc_limit activate activated strays load load_temporaries_from
settled_step s (Tc warmer) c = refl
settled_step s (Xy y up) c = refl
settled_step s (Limit v sel) c = by_cases (leb sel 3) (λ e. rw e) (λ e. rw e)
settled_step s Activated c = refl
settled_step s SceneColour c = by_cases (eqb s.kind 0xFF) (λ e. rw e) (λ e. rw e)

-- no step of the colour reads the staged control
pub settled_does : (s : ColourSetting) (k : Option ColourStep) (p : Bool) (c : Colour) → does (colour_step s) k (settled p c) ≡ settled p (does (colour_step s) k c)
settled_does s none p c = refl
settled_does s (some k) true c = settled_step s k c
settled_does s (some k) false c = refl
