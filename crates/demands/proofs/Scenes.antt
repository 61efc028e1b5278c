-- The Rust's two arrays are the levels and the colours of the entries (request 14 of document 02).
use Prim.Native.Nat.{ℕ, zero, suc, ◌/◌, ◌%◌}
use mathlib.Core.Path.{◌≡◌, refl, sym, ◌∙◌, ap, ap₂}
use mathlib.Core.Bool.{false}
use mathlib.Core.List.{List, [], ◌∷◌, map}
use mathlib.Core.Logic.{⊎_elim}
use lib.Dec.{eqb, leb}
use lib.ListN.{drop, get_or, length, set}
use native.Mathlib.Omega.{arith}
use borrow.Author.Tests.{ne_eqb}
use Rattle.std.specs.declared.result.Result.TheVariants.{Ok}
use Rattle.demands.specs.Calls.{Call, perform}
use Rattle.demands.specs.Fit.{Fit}
use Rattle.demands.specs.Scenes.{FreshArrays, NoWrite, Paired, TwoArrays, array_after, colour_at, colours_after, colours_of, configured, level_at, levels_after, levels_of}
use Rattle.demands.proofs.Fit.{fit_exactly}
use Rattle.demands.proofs.Unwritten.{Writes, unwritten}
use Rattle.demands.proofs.Unwritten.Writes.{standard, arc, cycle}
use Rattle.calls.specs.Power.{power_cycle, power_cycle_call}
use Rattle.colour.specs.declared.setting.ColourSetting.{ColourSetting}
use Rattle.colour.specs.Activation.{recall}
use Rattle.colour.specs.Report.{report_from}
use Rattle.colour.specs.Staging.{take_staged_colour}
use Rattle.gear.specs.Command.{command_of}
use Rattle.gear.specs.declared.answer.Reply.TheVariants.{Value}
use Rattle.gear.specs.declared.answer.Outcome.{Outcome}
use Rattle.gear.specs.declared.command.ConfigCommand.{ConfigCommand}
use Rattle.gear.specs.declared.command.ConfigCommand.TheVariants.{SetMaxLevel, SetMinLevel, SetSystemFailureLevel, SetPowerOnLevel, SetFadeTime, SetFadeRate, SetExtendedFadeTime, SetScene, RemoveScene, AddToGroup, RemoveFromGroup}
use Rattle.std.specs.Prelude.{Option, Some, None}
use Rattle.gear.specs.declared.command.StandardCommand.{StandardCommand}
use Rattle.gear.specs.declared.command.StandardCommand.TheVariants.{Arc, GoToScene, Reset, IdentifyDevice, Config, EnableWriteMemory}
use Rattle.gear.specs.declared.record.Gear.{Gear}
use Rattle.gear.specs.declared.settings.LevelSetting.{LevelSetting}
use Rattle.gear.specs.Profile.{accepted, is_type}
use Rattle.gear.specs.Record.{fitb, fresh_gear, new_gear, reset_gear}
use Rattle.gear.specs.Scene.{nowhere, scene_at, stored}
use Rattle.gear.specs.Serve.{serve}
use Rattle.gear.specs.Settings.{level_setting, store_level_setting, unset}
use Rattle.gear.specs.Write.{apply_standard_write, arc_write, config_write, direct_arc_power, enable_write, identify, recall_scene, recalled_levels, remove_scene, set_power_on_level, set_scene, set_system_failure_level, write}
use Rattle.numbers.specs.Numbers.{pick}
use Rattle.numbers.proofs.Logic.{by_cases}
use Rattle.query.specs.Reply.{gear_query_reply, heard_query, is_query, query, reply, report_for, reported, seen}

-- ## The entries and a field of theirs

module _ {A : Type 0} (field : LevelSetting → A) where
  map_get_or : (xs : List LevelSetting) (n : ℕ) (d : LevelSetting) → field (get_or xs n d) ≡ get_or (map field xs) n (field d)
  map_get_or [] n d = refl
  map_get_or (x ∷ xs) zero d = refl
  map_get_or (x ∷ xs) (suc n) d = map_get_or xs n d

  map_set : (xs : List LevelSetting) (n : ℕ) (v : LevelSetting) → map field (set xs n v) ≡ set (map field xs) n (field v)
  map_set [] n v = refl
  map_set (x ∷ xs) zero v = refl
  map_set (x ∷ xs) (suc n) v = ap (λ ys. field x ∷ ys) (map_set xs n v)

  map_stored : (xs : List LevelSetting) (n : ℕ) (v : LevelSetting) → map field (stored xs n v) ≡ stored (map field xs) n (field v)
  unfolding stored
  map_stored xs n v = by_cases (leb 16 n) (λ e. rw e) (λ e. rw e (map_set xs n v))

level_at_lem : (xs : List LevelSetting) (s : ℕ) → (scene_at xs s).level ≡ level_at (levels_of xs) s
unfolding scene_at level_at
level_at_lem xs s = by_cases (leb 16 s) (λ e. rw e) (λ e. rw e (map_get_or (λ (x : LevelSetting). x.level) xs s nowhere))

colour_at_lem : (xs : List LevelSetting) (s : ℕ) → (scene_at xs s).colour ≡ colour_at (colours_of xs) s
unfolding scene_at colour_at
colour_at_lem xs s = by_cases (leb 16 s) (λ e. rw e) (λ e. rw e (map_get_or (λ (x : LevelSetting). x.colour) xs s nowhere))

-- ## A write

module _ {A : Type 0} (field : LevelSetting → A) (at : List A → ℕ → A) (at_field : (xs : List LevelSetting) (s : ℕ) → field (scene_at xs s) ≡ at (map field xs) s)
    (g : Gear) (d : ℕ) (put : A → A) (put-field : (x : LevelSetting) → field (store_level_setting x d g.colour).setting ≡ put (field x)) where
  config_array : (k : ConfigCommand) → map field (config_write g k d).scenes ≡ configured at put (field unset) k (map field g.scenes)
  unfolding config_write configured set_scene remove_scene set_power_on_level set_system_failure_level
  config_array (SetScene s) =
      map_stored field g.scenes s _ ∙
      ap (stored (map field g.scenes) s) (put-field (scene_at g.scenes s) ∙ ap put (at_field g.scenes s))
  config_array (RemoveScene s) = map_stored field g.scenes s unset
  config_array SetMaxLevel = refl
  config_array SetMinLevel = refl
  config_array SetSystemFailureLevel = refl
  config_array SetPowerOnLevel = refl
  config_array SetFadeTime = refl
  config_array SetFadeRate = refl
  config_array SetExtendedFadeTime = refl
  config_array (AddToGroup n) = refl
  config_array (RemoveFromGroup n) = refl

  write_array : (k : Option StandardCommand) → map field (write g k d).gear.scenes ≡ array_after at put (field unset) k (map field g.scenes)
  unfolding write array_after arc_write recall_scene identify enable_write reset_gear
  write_array (Some (Config k)) = config_array k
  write_array (Some (Arc a)) = refl
  write_array (Some (GoToScene s)) = refl
  write_array (Some Reset) = refl
  write_array (Some IdentifyDevice) = refl
  write_array (Some EnableWriteMemory) = refl
  write_array None = refl

write_levels : (g : Gear) (k : Option StandardCommand) (d : ℕ) → levels_of (write g k d).gear.scenes ≡ levels_after k d (levels_of g.scenes)
unfolding store_level_setting
write_levels g k d = write_array (λ (x : LevelSetting). x.level) level_at level_at_lem g d (λ kept. d) (λ x. refl) k

write_colours :
    (g : Gear) (k : Option StandardCommand) (d : ℕ) → colours_of (write g k d).gear.scenes ≡ colours_after k g.colour (colours_of g.scenes)
unfolding store_level_setting
write_colours g k d =
    write_array (λ (x : LevelSetting). x.colour) colour_at colour_at_lem g d (λ kept. (take_staged_colour g.colour kept).setting) (λ x. refl) k

served : (g : Gear) (o : Outcome) → Fit g → serve g o ≡ o
unfolding serve
served g o f = rw ((fit_exactly g).0 f)

-- ## Any other call

serve_scenes : (g : Gear) (o : Outcome) → o.gear.scenes ≡ g.scenes → (serve g o).gear.scenes ≡ g.scenes
unfolding serve
serve_scenes g o h = by_cases (fitb g) (λ e. rw e h) (λ e. rw e)

writes_scenes : {c : Call} → Writes c → (g : Gear) → NoWrite c → (perform c g).gear.scenes ≡ g.scenes
unfolding perform direct_arc_power arc_write power_cycle_call power_cycle
writes_scenes (standard byte dtr0) g n = absurd (n byte dtr0 refl)
writes_scenes (arc level) g n = serve_scenes g _ refl
writes_scenes cycle g n = serve_scenes g _ refl

leaves : (c : Call) (g : Gear) → NoWrite c → (perform c g).gear.scenes ≡ g.scenes
leaves c g n = ⊎_elim (λ e. ap (λ x. x.2) e) (λ w. writes_scenes w g n) (unwritten c g)

-- ## Queries 176 to 191

module _ (g : Gear) (b : ℕ) (e : b / 16 ≡ 11) where
  -- no byte of another block
  beyond : (other : ℕ) → (other / 16 ≡ 11 → ⊥) → eqb b other ≡ false
  beyond other d = ne_eqb b other (λ t. d (ap (λ x. x / 16) (sym t) ∙ e))

  of_scene : query g b ≡ record { answer = reply (seen g b) b; gear = heard_query g b }
  unfolding query is_query
  of_scene = rw (beyond 153 (λ d. omega arith), beyond 167 (λ d. omega arith), e)

  tells : reply (seen g b) b ≡ Ok (Value (level_at (levels_of g.scenes) (b % 16)))
  unfolding reply
  tells = rw e (ap (λ n. Ok (Value n)) (level_at_lem g.scenes (b % 16)))

  shows : reported g b ≡ pick (is_type g.unit 8) (report_from g.colour (colour_at (colours_of g.scenes) (b % 16))) g.colour
  unfolding reported report_for
  shows =
      rw (beyond 160 (λ d. omega arith), beyond 163 (λ d. omega arith), beyond 164 (λ d. omega arith), e)
      (ap (λ (x : ColourSetting). pick (is_type g.unit 8) (report_from g.colour x) g.colour) (colour_at_lem g.scenes (b % 16)))

pub two_arrays : TwoArrays perform
unfolding perform apply_standard_write gear_query_reply heard_query write recall_scene
two_arrays =
    record {
      levels_after = λ g byte d f.
          ap (λ (o : Outcome). levels_of o.gear.scenes) (served g (write g (command_of byte) d) f) ∙ write_levels g (command_of byte) d;
      colours_after = λ g byte d f.
          ap (λ (o : Outcome). colours_of o.gear.scenes) (served g (write g (command_of byte) d) f) ∙ write_colours g (command_of byte) d;
      left = leaves;
      level_recalled = λ g byte d s f e.
          ap (λ (o : Outcome). o.gear.levels) (served g (write g (command_of byte) d) f) ∙
          ap (λ (k : Option StandardCommand). (write g k d).gear.levels) e ∙
          ap (recalled_levels g.levels) (level_at_lem g.scenes s);
      colour_recalled = λ g byte d s f e.
          ap (λ (o : Outcome). o.gear.colour) (served g (write g (command_of byte) d) f) ∙
          ap (λ (k : Option StandardCommand). (write g k d).gear.colour) e ∙
          ap (recall g.colour) (colour_at_lem g.scenes s);
      level_told = λ g byte f e. ap (λ (o : Outcome). o.answer) (served g (query g byte) f ∙ of_scene g byte e) ∙ tells g byte e;
      colour_reported = λ g byte f e. ap (λ (o : Outcome). o.gear.colour) (served g (query g byte) f ∙ of_scene g byte e) ∙ shows g byte e;
    }

-- ## The entries alone

pub fresh_arrays : FreshArrays
unfolding new_gear fresh_gear
fresh_arrays p = by_cases (accepted p) (λ e. rw e (refl, refl)) (λ e. rw e (refl, refl))

pub paired : Paired
paired [] [] l c = refl
paired [] (y ∷ ys) l c = let e : zero ≡ suc (length (levels_of ys)) = ap length l in absurd (omega arith)
paired (x ∷ xs) [] l c = let e : suc (length (levels_of xs)) ≡ zero = ap length l in absurd (omega arith)
paired (x ∷ xs) (y ∷ ys) l c =
    ap₂ (λ (z : LevelSetting) (zs : List LevelSetting). z ∷ zs)
    (λ i. level_setting (ap (λ ns. get_or ns 0 0) l i) (ap (λ ss. get_or ss 0 x.colour) c i))
    (paired xs ys (ap (drop 1) l) (ap (drop 1) c))
