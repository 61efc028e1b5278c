-- P11, P12 and P13: each premise dropped alone, and two orders that differ.
use Prim.Native.Nat.{ℕ}
use mathlib.Core.Path.{◌≡◌, refl, ◌∙◌, sym, ap}
use mathlib.Core.List.Memᴰ
use mathlib.Core.List.Permᴰ
use mathlib.Core.List.{[], ◌∷◌}
use lib.ListN.{get_or}
use native.Mathlib.Omega.{arith}
use Rattle.order.specs.Examples.{gear, manual, profile, staged}
use Rattle.order.specs.Keys.{command_keys, config_keys, keys}
use Rattle.order.specs.Lists.{All, Apart, run}
use Rattle.order.specs.Needed.{ActivationMatters, KeylessMatters, KeysMatter, StagedMatters}
use Rattle.order.specs.Writes.{call_of, perform}
use Rattle.order.specs.Writes.Write.{ArcPower, Standard}
use Rattle.order.proofs.Premises.{fresh_worded}
use Rattle.order.proofs.Test.{keyed_sound, listed_sound}
use Rattle.calls.specs.Colours.{recoloured, set_features_call, stage_call}
use Rattle.colour.specs.Activation.{activate, activated, arc_power, automatic, recall, strays}
use Rattle.colour.specs.Limits.{effective_coolest, effective_warmest, limits_fit}
use Rattle.colour.specs.Record.{fitb as colour_fit, fresh, with_features}
use Rattle.colour.specs.Setting.{factory}
use Rattle.colour.specs.Staging.{load, load_temporaries_from, take_staged_colour}
use Rattle.colour.specs.Tint.{captured, lies_within}
use Rattle.demands.specs.Calls.{perform as perform_call}
use Rattle.demands.proofs.Fit.{fit_exactly}
use Rattle.gear.specs.Command.{command_of, config_command, level_command}
use Rattle.gear.specs.declared.record.Gear.{Gear}
use Rattle.gear.specs.Marks.{asked, configured, identified, walk_fit}
use Rattle.gear.specs.Profile.{accepted, floor, is_type, short_fit, unit_fit}
use Rattle.gear.specs.Record.{fitb, fresh_gear}
use Rattle.gear.specs.Scene.{scene_at, stored}
use Rattle.gear.specs.Serve.{serve}
use Rattle.gear.specs.Settings.{store_level_setting, unset}
use Rattle.gear.specs.Types.{has_type, member}
use Rattle.gear.specs.Write.{apply_standard_write, arc_write, config_write, direct_arc_power, identify, keeps_identify, recalled_levels, recall_scene, set_scene, write}
use Rattle.level.specs.Arc.{arc_levels, arc_power as arc_level}
use Rattle.level.specs.Levels.{held, levels_fit, set_level}
use Rattle.numbers.specs.Numbers.{pick}

-- two records that a number tells apart
told_apart : (f : Gear → ℕ) (g h : Gear) (n m : ℕ) → f g ≡ n → f h ≡ m → (n ≡ m → ⊥) → g ≡ h → ⊥
told_apart f g h n m p q d e = d (sym p ∙ ap f e ∙ q)

-- ---- P11: with 300 staged, SetScene 0 and SetScene 1

pub staged_matters : StagedMatters staged (Standard 64 10 ∷ Standard 65 20 ∷ []) (Standard 65 20 ∷ Standard 64 10 ∷ [])
unfolding run perform perform_call call_of keys command_keys config_keys command_of level_command config_command apply_standard_write write config_write set_scene store_level_setting take_staged_colour captured stored scene_at stage_call recoloured load_temporaries_from load configured serve fitb fresh_gear fresh factory unit_fit short_fit floor is_type has_type member levels_fit colour_fit limits_fit effective_coolest effective_warmest lies_within walk_fit automatic
staged_matters =
    record {
      fit = (fit_exactly _).1 refl;
      activates = refl;
      listed = listed_sound (Standard 64 10 ∷ Standard 65 20 ∷ []) refl;
      differ =
          record {
            order = Permᴰ.swap refl refl;
            different = told_apart (λ g. (get_or g.scenes 0 unset).colour.kind) _ _ 0x20 0xFF refl refl (λ e. omega arith);
          };
    }

-- ---- P12: activation off and Tc 0 in scene 0, GoToScene 0 and SetScene 1. With activation on, the recall of Tc 0 would
-- leave nothing staged, so that activation is the only premise that fails

pub activation_matters : ActivationMatters manual (Standard 16 0 ∷ Standard 65 20 ∷ []) (Standard 65 20 ∷ Standard 16 0 ∷ [])
unfolding run perform perform_call call_of keys command_keys config_keys command_of level_command config_command apply_standard_write write config_write set_scene store_level_setting take_staged_colour captured stored scene_at stage_call set_features_call with_features recoloured load_temporaries_from load configured recall_scene recalled_levels recall asked set_level held serve fitb fresh_gear fresh factory unit_fit short_fit floor is_type has_type member levels_fit colour_fit limits_fit effective_coolest effective_warmest lies_within walk_fit arc_power automatic activate activated strays
activation_matters =
    record {
      fit = (fit_exactly _).1 refl;
      nothing = record { pending = refl; scenes = All.more refl (All.more tt All.none) };
      listed = listed_sound (Standard 16 0 ∷ Standard 65 20 ∷ []) refl;
      differ =
          record {
            order = Permᴰ.swap refl refl;
            different = told_apart (λ g. (get_or g.scenes 1 unset).colour.kind) _ _ 0x20 0xFF refl refl (λ e. omega arith);
          };
    }

-- ---- P13: arc power 10 and 20, which share the level

pub keys_matter : KeysMatter gear (ArcPower 10 ∷ ArcPower 20 ∷ []) (ArcPower 20 ∷ ArcPower 10 ∷ [])
unfolding accepted run perform perform_call call_of keys direct_arc_power serve fitb fresh_gear fresh factory unit_fit short_fit floor is_type has_type member levels_fit colour_fit limits_fit effective_coolest effective_warmest lies_within walk_fit arc_write asked keeps_identify arc_levels arc_level set_level held arc_power automatic activate activated strays
keys_matter =
    record {
      worded = fresh_worded profile (ArcPower 10 ∷ ArcPower 20 ∷ []) refl;
      keyed = All.more (keyed_sound (ArcPower 10) refl) (All.more (keyed_sound (ArcPower 20) refl) All.none);
      differ =
          record {
            order = Permᴰ.swap refl refl;
            different = told_apart (λ g. g.levels.level) _ _ 20 10 refl refl (λ e. omega arith);
          };
    }

-- ---- and a call without a key: IdentifyDevice and SetFadeTime, which ends identifying

pub keyless_matters : KeylessMatters gear (Standard 37 0 ∷ Standard 46 5 ∷ []) (Standard 46 5 ∷ Standard 37 0 ∷ [])
unfolding accepted run perform perform_call call_of keys command_keys config_keys command_of level_command config_command apply_standard_write write config_write configured identify identified serve fitb fresh_gear fresh factory unit_fit short_fit floor is_type has_type member levels_fit colour_fit limits_fit effective_coolest effective_warmest lies_within walk_fit automatic
keyless_matters =
    record {
      worded = fresh_worded profile (Standard 37 0 ∷ Standard 46 5 ∷ []) refl;
      apart = Apart.more (All.more (λ k m n. Memᴰ.not-nil m) All.none) (Apart.more All.none Apart.none);
      differ =
          record {
            order = Permᴰ.swap refl refl;
            different = told_apart (λ g. pick g.marks.identifying 1 0) _ _ 0 1 refl refl (λ e. omega arith);
          };
    }
