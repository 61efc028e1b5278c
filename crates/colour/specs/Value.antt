-- Colour values by id (part 209, table 11), status, features and control.
use Rattle.std.specs.Prelude.{ℕ, ◌+◌, ◌-◌, ◌*◌, ◌%◌, List, Result, Ok, Err, eqb, leb, ltb, get_or}
use Rattle.colour.specs.declared.capability.Capability.{Capability}
use Rattle.colour.specs.declared.capability.Capability.TheVariants.{Xy, Tc, Channels}
use Rattle.colour.specs.declared.limits.Limits.{Limits}
use Rattle.colour.specs.declared.record.Capabilities.{Capabilities}
use Rattle.colour.specs.declared.record.Colour.{Colour}
use Rattle.colour.specs.declared.setting.ColourSetting.{ColourSetting}
use Rattle.colour.specs.declared.value.NoValue.{NoValue}
use Rattle.colour.specs.declared.value.NoValue.TheVariants.{Unknown, Incapable}
use Rattle.numbers.specs.Numbers.{pick}
use Rattle.colour.specs.Capability.{has}
use Rattle.colour.specs.Kinds.{by_kind, kind_of}
use Rattle.colour.specs.Tint.{by_mode, face}

-- a channel that the gear lacks has the mask
unfoldable pub channel_level : List ℕ → ℕ → ℕ → ℕ
channel_level levels channel channels = pick (leb channels channel) 0xFF (pick (leb 6 channel) 0xFF (get_or levels channel 0))

-- a value that only some gears have
unfoldable pub if_capable : Capabilities → Capability → ℕ → Result ℕ NoValue
if_capable can need v = pick (has can need) (Ok v) (Err (Incapable need))

-- a number of one type of colour; under another type it is masked
unfoldable pub own_or : ℕ → ℕ → ℕ → ℕ → ℕ
own_or kind owner v m = pick (eqb kind owner) v m

-- the numbers of an active, staged or reported colour: 0 x, 1 y, 2 temperature, 9 to 14 channels, 15 control, 16 type
unfoldable pub shown : Capabilities → ColourSetting → ℕ → Result ℕ NoValue
shown can s place =
    pick (eqb place 0) (if_capable can Xy (own_or s.kind 0x10 s.x 0xFFFF))
    (pick (eqb place 1) (if_capable can Xy (own_or s.kind 0x10 s.y 0xFFFF))
    (pick (eqb place 2) (if_capable can Tc (own_or s.kind 0x20 s.tc 0xFFFF))
    (pick (ltb place 9) (Err Unknown)
    (pick (ltb place 15)
    (if_capable can Channels (own_or s.kind 0x80 (channel_level s.levels (place - 9) can.channels) 0xFF))
    (pick (eqb place 15) (if_capable can Channels (own_or s.kind 0x80 s.control 0xFF))
    (pick (eqb place 16) (Ok s.kind) (Err Unknown)))))))

-- the limits in the order of their ids
unfoldable pub limit_value : Capabilities → Limits → ℕ → Result ℕ NoValue
limit_value can l place =
    if_capable can Tc
    (pick (eqb place 0) l.stored.coolest
    (pick (eqb place 1) l.physical.coolest (pick (eqb place 2) l.stored.warmest l.physical.warmest)))

-- the place of an id within its kind is its remainder by 32
unfoldable pub color_value : Colour → ℕ → Result ℕ NoValue
color_value c id =
    by_kind (kind_of id) (shown c.can (face c.active) (id % 32)) (Ok 0xFFFF) (Ok 0) (limit_value c.can c.limits (id % 32))
    (shown c.can (face c.pending) (id % 32))
    (shown c.can c.report (id % 32))
    (Err Unknown)

-- bits 4, 5 and 7 the active mode, bit 1 an active colour temperature that was out of range
unfoldable pub colour_status : Colour → ℕ
colour_status c = by_mode c.active.mode 0 0x10 (pick c.outside 0x22 0x20) 0x80

-- bit 0 xy, bit 1 Tc, bits 5 to 7 the number of channels
unfoldable pub features : Colour → ℕ
features c = c.can.channels % 8 * 32 + pick c.can.tc 2 0 + pick c.can.xy 1 0

unfoldable pub control_byte : Colour → Result ℕ NoValue
control_byte c = if_capable c.can Channels c.active.control
