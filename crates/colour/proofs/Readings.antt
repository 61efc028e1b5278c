-- The readings of document 01 that are about colour alone: P5, P6 and P7.
use Prim.Native.Nat.{ℕ}
use mathlib.Core.Path.{◌≡◌, refl}
use mathlib.Core.Bool.{true, false}
use lib.ListN.{replicate}
use Rattle.colour.specs.declared.record.Colour.{Colour}
use Rattle.colour.specs.declared.setting.ColourSetting.{ColourSetting}
use Rattle.colour.specs.declared.value.NoValue.TheVariants.{Unknown}
use Rattle.std.specs.Prelude.{Ok, Err}
use Rattle.colour.specs.Activation.{activated, strays, unlinked, activate}
use Rattle.colour.specs.Limits.{effective_coolest, effective_warmest, store_coolest, store_warmest, store_limit}
use Rattle.colour.specs.Record.{fresh}
use Rattle.colour.specs.Staging.{load, load_temporaries_from}
use Rattle.colour.specs.Steps.{snaps, snapped, store_tc_limit}
use Rattle.colour.specs.Kinds.{kind_of}
use Rattle.colour.specs.Value.{color_value, colour_status}

-- a gear that can do Tc alone, with physical limits 153..400
abbrev warm_gear : Colour
warm_gear = fresh (record { tc = true; xy = false; channels = 0 }) 153 400

abbrev tc_setting : ℕ → ColourSetting
tc_setting tc = record { kind = 0x20; x = 0; y = 0; tc = tc; levels = replicate 6 0; control = 0 }

abbrev lit : ℕ → Colour
lit tc = activate (load_temporaries_from warm_gear (tc_setting tc))

-- P5: staged 100 becomes 153, and is marked; staged 153 is not
pub p5 : ((lit 100).active.tc ≡ 153) × (colour_status (lit 100) ≡ 0x22) × ((lit 153).active.tc ≡ 153) × (colour_status (lit 153) ≡ 0x20)
unfolding fresh load load_temporaries_from activate activated strays unlinked effective_coolest effective_warmest colour_status
p5 = (refl, refl, refl, refl)

abbrev cooled : Colour
cooled = store_tc_limit (lit 200) 300 0

abbrev pinched : Colour
pinched = store_tc_limit cooled 250 1

-- P6: coolest 300 pushes the active 200 to 300; then warmest 250 drags the coolest and the active along
pub p6 :
    ((lit 200).active.tc ≡ 200) ×
    (cooled.active.tc ≡ 300) ×
    (pinched.active.tc ≡ 250) ×
    (pinched.limits.stored.coolest ≡ 250) ×
    (pinched.limits.stored.warmest ≡ 250)
unfolding fresh load load_temporaries_from activate activated strays unlinked effective_coolest effective_warmest store_coolest store_warmest store_limit snaps snapped store_tc_limit
p6 = (refl, refl, refl, refl, refl)

-- P7: what ids 63, 64, 81, 82, 83 and 127 show, on every record
pub p7 :
    (c : Colour) →
    (color_value c 63 ≡ Err Unknown) ×
    (color_value c 64 ≡ Ok 65535) ×
    (color_value c 81 ≡ Ok 65535) ×
    (color_value c 82 ≡ Ok 0) ×
    (color_value c 83 ≡ Err Unknown) ×
    (color_value c 127 ≡ Err Unknown)
unfolding kind_of color_value
p7 c = (refl, refl, refl, refl, refl, refl)
