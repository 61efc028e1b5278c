-- One record as 512 bytes (docs/SLOT.md has the layout as a table). Each encoder puts its bytes in front of those that follow.
use Rattle.std.specs.Prelude.{ℕ, zero, suc, ◌/◌, ◌%◌, Bool, false, List, ◌∷◌, drop, get_or, replicate, take, Option, is_some, unwrap_or}
use Rattle.bank.specs.declared.build.Banks.{Banks}
use Rattle.colour.specs.declared.record.Colour.{Colour}
use Rattle.colour.specs.declared.setting.ColourSetting.{ColourSetting}
use Rattle.colour.specs.declared.tint.Tint.{Tint}
use Rattle.colour.specs.Tint.{colour_type_byte}
use Rattle.gear.specs.declared.record.Gear.{Gear}
use Rattle.gear.specs.declared.settings.LevelSetting.{LevelSetting}
use Rattle.gear.specs.Scene.{nowhere}
use Rattle.numbers.specs.Numbers.{pick}

-- ## Single values

abbrev pub flag_byte : Bool → ℕ
flag_byte b = pick b 1 0

-- 64 is no address, so that no address above 63 has a byte
abbrev pub short_byte : Option ℕ → ℕ
short_byte s = unwrap_or s 64

-- 17 is off, so that no walk past 16 has a byte
abbrev pub walk_byte : Option ℕ → ℕ
walk_byte w = unwrap_or w 17

abbrev pub open_flag : Option ℕ → ℕ
open_flag p = flag_byte (is_some p)

-- a closed pair has frame 0
abbrev pub open_frame : Option ℕ → ℕ
open_frame p = unwrap_or p 0

-- ## Encoders

-- two bytes, low byte first
abbrev pub put_word : ℕ → List ℕ → List ℕ
put_word n t = n % 256 ∷ n / 256 ∷ t

-- the entries of an array, so many of them; where a list is shorter, what stands past its end
abbrev pub put_all : {A : Type 0} → (A → List ℕ → List ℕ) → A → ℕ → List A → List ℕ → List ℕ
put_all put none zero xs t = t
put_all put none (suc n) xs t = put (get_or xs 0 none) (put_all put none n (drop 1 xs) t)

abbrev pub put_bytes : ℕ → List ℕ → List ℕ → List ℕ
put_bytes = put_all (λ x t. x ∷ t) 0

abbrev pub put_flags : ℕ → List Bool → List ℕ → List ℕ
put_flags = put_all (λ b t. flag_byte b ∷ t) false

-- fourteen bytes: x, y, Tc, the channels' levels, control, type
abbrev pub put_colour : ColourSetting → List ℕ → List ℕ
put_colour s t = put_word s.x (put_word s.y (put_word s.tc (put_bytes 6 s.levels (s.control ∷ s.kind ∷ t))))

-- the same of a colour with its mode, which is the type byte of that mode
abbrev pub typed : Tint → ColourSetting
typed p = record { kind = colour_type_byte p.mode; control = p.control; x = p.x; y = p.y; tc = p.tc; levels = p.levels }

-- fifteen bytes: the colour, then the level
abbrev pub put_setting : LevelSetting → List ℕ → List ℕ
put_setting s t = put_colour s.colour (s.level ∷ t)

-- ## The record

-- places 0 to 15
abbrev pub put_front : Gear → List ℕ → List ℕ
put_front g t =
    g.levels.level ∷ g.levels.last ∷ g.levels.min ∷ g.levels.max ∷
    g.unit.minimum ∷ walk_byte g.marks.walk ∷ short_byte g.unit.short ∷ g.unit.count ∷
    g.unit.random % 256 ∷ g.unit.random / 256 % 256 ∷ g.unit.random / 65536 % 256 ∷ g.unit.random / 16777216 ∷
    g.colour.can.channels ∷
    g.settings.fades.time ∷ g.settings.fades.rate ∷ g.settings.fades.extended ∷ t

-- places 48 to 66, behind the types and the groups
abbrev pub put_marks : Gear → List ℕ → List ℕ
put_marks g t =
    flag_byte g.levels.error ∷
    flag_byte g.marks.reset ∷ flag_byte g.marks.cycled ∷ flag_byte g.marks.initialise ∷ flag_byte g.marks.withdrawn ∷
    flag_byte g.marks.identifying ∷ flag_byte g.marks.writable ∷ open_flag g.marks.pair ∷
    flag_byte g.unit.adjustable ∷ flag_byte g.unit.holds ∷ flag_byte g.unit.bare ∷
    flag_byte g.colour.can.tc ∷ flag_byte g.colour.can.xy ∷ flag_byte g.colour.outside ∷
    flag_byte g.condition.enabled ∷ flag_byte g.condition.lamp.failure ∷ flag_byte g.condition.lamp.starting ∷
    flag_byte g.condition.faults.unstored ∷ flag_byte g.condition.faults.holds ∷ t

-- places 67 to 82
abbrev pub put_numbers : Gear → List ℕ → List ℕ
put_numbers g t =
    g.colour.features ∷ g.settings.curve ∷ g.condition.faults.forced ∷ g.condition.faults.failure ∷
    put_word g.condition.faults.drop
    (put_word (open_frame g.marks.pair)
    (put_word g.colour.limits.stored.coolest
    (put_word g.colour.limits.stored.warmest
    (put_word g.colour.limits.physical.coolest (put_word g.colour.limits.physical.warmest t)))))

-- places 83 to 124: the active, the staged and the reported colour
abbrev pub put_colours : Colour → List ℕ → List ℕ
put_colours c t = put_colour (typed c.active) (put_colour (typed c.pending) (put_colour c.report t))

-- places 125 to 394: for power-on, for system failure, and the sixteen scenes
abbrev pub put_settings : Gear → List ℕ → List ℕ
put_settings g t = put_setting g.settings.on (put_setting g.settings.failure (put_all put_setting nowhere 16 g.scenes t))

-- places 395 to 440
abbrev pub put_banks : Banks → List ℕ → List ℕ
put_banks b t = put_bytes 29 b.identity (put_bytes 17 b.profile t)

-- The types behind the list's length, and all that stands behind the banks, are spare bytes: 0.
unfoldable pub image_of : Gear → List ℕ
image_of g =
    put_front g
    (put_bytes 16 (take g.unit.count g.unit.types)
    (put_flags 16 g.settings.groups
    (put_marks g (put_numbers g (put_colours g.colour (put_settings g (put_banks g.banks (replicate 71 0))))))))
