-- The premises are met: by every fresh gear, in document 01's words, and in the strong form also where numbers are left over.
use Prim.Native.Nat.{ℕ}
use mathlib.Core.Path.{◌≡◌, refl, ap}
use mathlib.Core.Bool.{true}
use mathlib.Core.List.{List, [], ◌∷◌}
use lib.Dec.{leb}
use lib.ListN.{get_or-replicate, replicate}
use native.Mathlib.Omega.{arith}
use borrow.Author.Tests.{leb-false}
use Rattle.order.specs.Examples.{used}
use Rattle.order.specs.Lists.{All}
use Rattle.order.specs.Premises.{Clean, CommandClean, NothingStaged, RecallsClean, Ready, Worded}
use Rattle.order.specs.Writes.{Write}
use Rattle.order.specs.Writes.Write.{ArcPower, Standard, TcStep, XyStep, TcLimit, Activation, Memory}
use Rattle.calls.specs.Colours.{activate_call, recoloured, stage_call}
use Rattle.colour.specs.Activation.{activate, activated, automatic, recall, strays}
use Rattle.colour.specs.Limits.{effective_coolest, effective_warmest, limits_fit}
use Rattle.colour.specs.Record.{fitb as colour_fit, fresh, with_features}
use Rattle.colour.specs.Setting.{factory}
use Rattle.colour.specs.Staging.{load, load_temporaries_from}
use Rattle.colour.specs.Tint.{lies_within}
use Rattle.demands.proofs.Fit.{fit_exactly}
use Rattle.gear.specs.Command.{command_of}
use Rattle.std.specs.Prelude.{Option, Some, None}
use Rattle.gear.specs.declared.command.StandardCommand.{StandardCommand}
use Rattle.gear.specs.declared.command.StandardCommand.TheVariants.{Arc, GoToScene, Reset, IdentifyDevice, Config, EnableWriteMemory}
use Rattle.gear.specs.declared.profile.Profile.{Profile}
use Rattle.gear.specs.Marks.{walk_fit}
use Rattle.gear.specs.Profile.{accepted, floor, is_type, short_fit, unit_fit}
use Rattle.gear.specs.Record.{fitb, fresh_gear}
use Rattle.gear.specs.Scene.{nowhere, scene_at}
use Rattle.gear.specs.Serve.{serve}
use Rattle.gear.specs.Settings.{unset}
use Rattle.gear.specs.Types.{has_type, member}
use Rattle.gear.proofs.Built.{fresh_fit}
use Rattle.level.specs.Levels.{levels_fit}
use Rattle.numbers.proofs.Logic.{by_cases}

-- ---- a fresh gear

no_scene : (s : ℕ) → scene_at (replicate 16 unset) s ≡ unset
unfolding scene_at
no_scene s = by_cases (leb 16 s) (λ e. rw e) (λ e. rw e (get_or-replicate 16 s unset nowhere (leb-false 16 s e)))

scene_clean : (p : Profile) (s : ℕ) → RecallsClean (fresh_gear p) s
unfolding recall with_features fresh_gear fresh
scene_clean p s = rw (no_scene s)

command_clean : (p : Profile) (k : Option StandardCommand) → CommandClean (fresh_gear p) k
command_clean p (Some (GoToScene s)) = scene_clean p s
command_clean p (Some (Arc a)) = tt
command_clean p (Some Reset) = tt
command_clean p (Some IdentifyDevice) = tt
command_clean p (Some (Config k)) = tt
command_clean p (Some EnableWriteMemory) = tt
command_clean p None = tt

write_clean : (p : Profile) (w : Write) → Clean (fresh_gear p) w
write_clean p (Standard byte d) = command_clean p (command_of byte)
write_clean p (ArcPower v) = tt
write_clean p (TcStep warmer) = tt
write_clean p (XyStep y up) = tt
write_clean p (TcLimit v s) = tt
write_clean p Activation = tt
write_clean p (Memory bank offset v) = tt

all_clean : (p : Profile) (ws : List Write) → All (Clean (fresh_gear p)) ws
all_clean p [] = All.none
all_clean p (w ∷ ws) = All.more (write_clean p w) (all_clean p ws)

pub fresh_worded : (p : Profile) (ws : List Write) → accepted p ≡ true → Worded (fresh_gear p) ws
unfolding fresh_gear fresh automatic
fresh_worded p ws e =
    record { fit = (fit_exactly (fresh_gear p)).1 (fresh_fit p e); nothing = record { pending = refl; scenes = all_clean p ws }; activates = refl }

-- ---- a gear that once activated a colour: ready, and yet not 'nothing staged'

pub used_ready : Ready used
unfolding fresh_gear fresh factory stage_call activate_call recoloured load_temporaries_from load activate activated strays serve fitb unit_fit short_fit floor is_type has_type member levels_fit colour_fit limits_fit effective_coolest effective_warmest lies_within walk_fit automatic
used_ready = record { fit = (fit_exactly used).1 refl; unstaged = refl; activates = refl }

pub used_staged : (ws : List Write) → NothingStaged used ws → ⊥
unfolding fresh_gear fresh factory stage_call activate_call recoloured load_temporaries_from load activate activated strays serve fitb unit_fit short_fit floor is_type has_type member levels_fit colour_fit limits_fit effective_coolest effective_warmest lies_within walk_fit automatic
used_staged ws h = let e : ◌≡◌ {A = ℕ} 300 0 = ap (λ p. p.tc) h.pending in omega arith
