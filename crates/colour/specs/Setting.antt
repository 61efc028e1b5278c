-- A stored colour: no colour at all, and what a gear leaves the factory with (part 209, table 8).
use Rattle.std.specs.Prelude.{ℕ, Bool, replicate}
use Rattle.colour.specs.declared.record.Capabilities.{Capabilities}
use Rattle.colour.specs.declared.setting.ColourSetting.{ColourSetting}
use Rattle.numbers.specs.Numbers.{pick}

-- a type byte over numbers that all say 'no change'
abbrev pub masked : ℕ → ColourSetting
masked kind = record { kind = kind; x = 0xFFFF; y = 0xFFFF; tc = 0xFFFF; levels = replicate 6 0xFF; control = 0xFF }

abbrev pub mask : ColourSetting
mask = masked 0xFF

-- the first type that the gear can do: xy, Tc, else RGBWAF; none for a gear without the colour type
unfoldable pub factory : Bool → Capabilities → ColourSetting
factory dt8 can = masked (pick dt8 (pick can.xy 0x10 (pick can.tc 0x20 0x80)) 0xFF)
