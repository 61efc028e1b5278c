-- A colour with its mode, and how it is stored.
use Rattle.std.specs.Prelude.{ℕ, Bool, true, false, eqb, leb, replicate}
use Rattle.colour.specs.declared.limits.Limits.{Limits}
use Rattle.colour.specs.declared.setting.ColourSetting.{ColourSetting}
use Rattle.colour.specs.declared.tint.Tint.{Tint}
use Rattle.colour.specs.declared.tint.ColorMode.{ColorMode}
use Rattle.colour.specs.declared.tint.ColorMode.TheVariants.{None, Cct, Xy, Rgb}
use Rattle.colour.specs.Limits.{effective_coolest, effective_warmest}
use Rattle.numbers.specs.Numbers.{both, pick}
use Rattle.colour.specs.Setting.{mask}

-- a value for each mode, in the order none, xy, Tc, RGBWAF
abbrev pub by_mode : {A : Type 0} → ColorMode → A → A → A → A → A
by_mode None n x t r = n
by_mode Xy n x t r = x
by_mode Cct n x t r = t
by_mode Rgb n x t r = r

abbrev pub is_cct : ColorMode → Bool
is_cct m = by_mode m false false true false

abbrev pub is_xy : ColorMode → Bool
is_xy m = by_mode m false true false false

-- any mode but none
abbrev pub is_lit : ColorMode → Bool
is_lit m = by_mode m false true true true

abbrev pub colour_type_byte : ColorMode → ℕ
colour_type_byte m = by_mode m 0xFF 0x10 0x20 0x80

-- any byte but the three types is no mode
abbrev pub mode_of : ℕ → ColorMode
mode_of n = pick (eqb n 0x10) Xy (pick (eqb n 0x20) Cct (pick (eqb n 0x80) Rgb None))

abbrev pub dark : ℕ → Tint
dark control = record { mode = None; x = 0; y = 0; tc = 0; levels = replicate 6 0; control = control }

-- a colour temperature within the effective limits; the other modes have none
unfoldable pub lies_within : Tint → Limits → Bool
lies_within t l = pick (is_cct t.mode) (both (leb (effective_coolest l) t.tc) (leb t.tc (effective_warmest l))) true

-- every number as it stands
unfoldable pub face : Tint → ColourSetting
face t = record { kind = colour_type_byte t.mode; x = t.x; y = t.y; tc = t.tc; levels = t.levels; control = t.control }

-- the mode's own numbers, every other one masked
unfoldable pub captured : Tint → ColourSetting
captured t =
    record {
      kind = colour_type_byte t.mode;
      x = by_mode t.mode 0xFFFF t.x 0xFFFF 0xFFFF;
      y = by_mode t.mode 0xFFFF t.y 0xFFFF 0xFFFF;
      tc = by_mode t.mode 0xFFFF 0xFFFF t.tc 0xFFFF;
      levels = by_mode t.mode mask.levels mask.levels mask.levels t.levels;
      control = by_mode t.mode 0xFF 0xFF 0xFF t.control;
    }

-- under no mode, with the control masked; the other numbers stay behind
abbrev pub unstaged : Tint → Tint
unstaged t = record { mode = None; x = t.x; y = t.y; tc = t.tc; levels = t.levels; control = 0xFF }
