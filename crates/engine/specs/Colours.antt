-- Work on a slot whose staged colour has a known mode.
use Rattle.std.specs.Prelude.{ℕ, ◌≡◌, ◌+◌, List, drop, eqb, set}
use Rattle.colour.specs.Activation.{activate}
use Rattle.colour.specs.declared.setting.ColourSetting.{ColourSetting}
use Rattle.colour.specs.declared.tint.ColorMode.{ColorMode}
use Rattle.colour.specs.Staging.{load_temporaries_from}
use Rattle.colour.specs.Tint.{captured}
use Rattle.gear.specs.declared.record.Gear.{Gear}
use Rattle.gear.specs.Parts.{with_colour}
use Rattle.numbers.specs.Numbers.{pick}
use Rattle.slot.specs.Calls.{colour_put}
use Rattle.slot.specs.Held.{Holds}
use Rattle.slot.specs.Record.{at, colour_in, tint_of}

-- it activates a colour that is staged with this mode
abbrev pub Activates : ColorMode → List ℕ → List ℕ → Type 0
Activates mode b b' = (g : Gear) → Holds b g → g.colour.pending.mode ≡ mode → Holds b' (with_colour g (activate g.colour))

-- it stages a setting of this type
abbrev pub Stages : ℕ → ColourSetting → List ℕ → List ℕ → Type 0
Stages kind s b b' = (g : Gear) → Holds b g → s.kind ≡ kind → Holds b' (with_colour g (load_temporaries_from g.colour s))

-- nothing is staged any more: the numbers of what was stay behind
abbrev pub nothing_staged : List ℕ → List ℕ
nothing_staged b = set (set b 109 0xFF) 110 0xFF

-- the staged colour goes to a place of the slot, and nothing is staged any more
abbrev pub taken : List ℕ → ℕ → List ℕ
taken b place = nothing_staged (colour_put b place (captured (tint_of (colour_in (drop 97 b)))))

-- a level stands behind the fourteen bytes of its colour, which are those of the staged one, if there is any
abbrev pub level_stored : List ℕ → ℕ → ℕ → List ℕ
level_stored b place v = pick (eqb (at 110 b) 0xFF) (set b (place + 14) v) (taken (set b (place + 14) v) place)
