-- Request 2 of document 02: why a colour value is absent. The id table decides first: an id that no gear has is unknown, whatever this
-- gear can do; of the others this gear may lack what the id needs. Values and records are what they were.
use Rattle.std.specs.Prelude.{ℕ, ◌-◌, ◌%◌, ◌≡◌, Bool, true, false, List, [], ◌∷◌, eqb, ltb, Ok, Err}
use Rattle.demands.specs.Calls.{Behaviour, Call}
use Rattle.demands.specs.Calls.Call.{ColorValue}
use Rattle.demands.specs.Fit.{Fit}
use Rattle.demands.specs.Refusals.{listed}
use Rattle.demands.specs.Runs.{Always}
use Rattle.colour.specs.declared.capability.Capability.TheVariants.{Xy, Tc, Channels}
use Rattle.colour.specs.declared.limits.Limits.{Limits}
use Rattle.colour.specs.declared.record.Capabilities.{Capabilities}
use Rattle.colour.specs.declared.record.Colour.{Colour}
use Rattle.colour.specs.declared.setting.ColourSetting.{ColourSetting}
use Rattle.colour.specs.Kinds.{by_kind, kind_of}
use Rattle.colour.specs.Tint.{face}
use Rattle.colour.specs.Value.{channel_level, own_or}
use Rattle.dali_gear.proofs.dali_gear_ask
use Rattle.dali_gear.specs.Code.{answer_code, answer_detail}
use Rattle.file.specs.File.{well_formed}
use Rattle.gear.specs.Answer.{Answer, unexplained}
use Rattle.gear.specs.declared.answer.Reply.TheVariants.{Done, Value, Nothing, Incapable}
use Rattle.gear.specs.declared.record.Gear.{Gear}
use Rattle.gear.specs.Serve.{tell}
use Rattle.numbers.specs.Numbers.{pick}
use Rattle.runner.specs.Run.{last_of}

-- ## The ids of part 209's table 11 by what they need, as ranges: the active colour, the limits, the staged and the reported colour

-- x and y
abbrev pub xy_ids : List (ℕ × ℕ)
xy_ids = (0, 1) ∷ (192, 193) ∷ (224, 225) ∷ []

-- colour temperatures
abbrev pub tc_ids : List (ℕ × ℕ)
tc_ids = (2, 2) ∷ (128, 131) ∷ (194, 194) ∷ (226, 226) ∷ []

-- the levels of the six channels, and their control: these need a channel or more
abbrev pub channel_ids : List (ℕ × ℕ)
channel_ids = (9, 15) ∷ (201, 207) ∷ (233, 239) ∷ []

-- the primaries' numbers and how many there are, the types of the staged and the reported colour: every gear has these
abbrev pub common_ids : List (ℕ × ℕ)
common_ids = (64, 82) ∷ (208, 208) ∷ (240, 240) ∷ []

-- a choice by the list that has the id: common, xy, Tc, channels; and one for an id of none of them
abbrev pub by_list : {A : Type 0} → ℕ → A → A → A → A → A → A
by_list id common xy tc channels none =
    pick (listed common_ids id) common
    (pick (listed xy_ids id) xy (pick (listed tc_ids id) tc (pick (listed channel_ids id) channels none)))

-- an id of a list has its value, or this gear lacks what the list needs; an id of no list is unknown
unfoldable pub explained : Capabilities → ℕ → Answer → Answer
explained can id value =
    by_list id value (pick can.xy value (Ok (Incapable Xy))) (pick can.tc value (Ok (Incapable Tc)))
    (pick (ltb 0 can.channels) value (Ok (Incapable Channels))) (Ok Nothing)

-- the id is of a list, and this gear has what the list needs
unfoldable pub capable : Capabilities → ℕ → Bool
capable can id = by_list id true can.xy can.tc (ltb 0 can.channels) false

abbrev pub is_value : Answer → Bool
is_value (Ok Done) = false
is_value (Ok (Value n)) = true
is_value (Ok Nothing) = false
is_value (Ok (Incapable need)) = false
is_value (Err r) = false

-- ## The answer as it was, by 000: a value or none

abbrev pub if_there : Bool → ℕ → Answer
if_there can v = pick can (Ok (Value v)) (Ok Nothing)

unfoldable pub shown_before : Capabilities → ColourSetting → ℕ → Answer
shown_before can s place =
    pick (eqb place 0) (if_there can.xy (own_or s.kind 0x10 s.x 0xFFFF))
    (pick (eqb place 1) (if_there can.xy (own_or s.kind 0x10 s.y 0xFFFF))
    (pick (eqb place 2) (if_there can.tc (own_or s.kind 0x20 s.tc 0xFFFF))
    (pick (ltb place 9) (Ok Nothing)
    (pick (ltb place 15)
    (if_there (ltb 0 can.channels) (own_or s.kind 0x80 (channel_level s.levels (place - 9) can.channels) 0xFF))
    (pick (eqb place 15) (if_there (ltb 0 can.channels) (own_or s.kind 0x80 s.control 0xFF))
    (pick (eqb place 16) (Ok (Value s.kind)) (Ok Nothing)))))))

unfoldable pub limit_before : Capabilities → Limits → ℕ → Answer
limit_before can l place =
    if_there can.tc
    (pick (eqb place 0) l.stored.coolest
    (pick (eqb place 1) l.physical.coolest (pick (eqb place 2) l.stored.warmest l.physical.warmest)))

unfoldable pub value_before : Colour → ℕ → Answer
value_before c id =
    by_kind (kind_of id) (shown_before c.can (face c.active) (id % 32)) (Ok (Value 0xFFFF)) (Ok (Value 0))
    (limit_before c.can c.limits (id % 32))
    (shown_before c.can (face c.pending) (id % 32))
    (shown_before c.can c.report (id % 32))
    (Ok Nothing)

-- the old value where this gear has it, else the reason; refusal 2 for a record that is not fit
abbrev pub explained_by : Gear → ℕ → Answer
explained_by g id = tell g (explained g.colour.can id (value_before g.colour id))

-- ## Of calls that behave in some way

-- any call but a colour value
abbrev pub Other : Call → Type 0
Other c = (id : ℕ) → c ≡ ColorValue id → ⊥

pub record Absent (f : Behaviour) : Type 0 where
  -- its two cases read as 'no value', the answer is the old one, on every record and for every id; and the record stays
  pub as_before : (g : Gear) (id : ℕ) → unexplained (f (ColorValue id) g).answer ≡ tell g (value_before g.colour id)
  pub kept : (g : Gear) (id : ℕ) → (f (ColorValue id) g).gear ≡ g
  -- which case it is: the id table decides, then what this gear can do
  pub by_table : (g : Gear) (id : ℕ) → (f (ColorValue id) g).answer ≡ explained_by g id
  -- and there is a value wherever neither is in the way, so that each case is given exactly when
  pub exactly_valued : (g : Gear) (id : ℕ) → Fit g → is_value (f (ColorValue id) g).answer ≡ capable g.colour.can id
  -- no other call says that the gear lacks something
  pub nowhere_else : (c : Call) (g : Gear) → Other c → unexplained (f c g).answer ≡ (f c g).answer

-- ## Of what a host is told of a colour value (kind 5) by its library, on the record that the file's steps leave

-- code and detail of an answer: 17 for `Nothing`; 19 for `Incapable`, and 1 xy, 2 Tc, 3 channels; 16 for a value, and the value
abbrev pub CodedAs : Answer → ℕ → ℕ → Type 0
CodedAs answer code detail = (code ≡ answer_code answer) × (detail ≡ answer_detail answer)

abbrev pub HostAbsent : Type 0
HostAbsent =
    Always dali_gear_ask.Reads.Post
    (λ κs args r e.
    well_formed args.0.now ≡ true → args.1.0 ≡ 5 →
    CodedAs (explained_by (last_of args.0.now) args.1.1.0) r e.1.1.1.1.1.0.now)

-- ## On a panel: a gear that can do xy alone is asked for colour values 2, a colour temperature, and 63, and for 0, its x

abbrev pub panel_file : List ℕ
panel_file =
    -- one type: 8
    0x01 ∷ 0x08 ∷
    -- the profile's eleven bytes: short address 5, flags 2, no channels, physical minimum 1
    0x0B ∷ 0x05 ∷ 0x00 ∷ 0x00 ∷ 0x01 ∷ 0x02 ∷ 0x00 ∷ 0x00 ∷ 0x00 ∷ 0x00 ∷ 0x00 ∷ 0x01 ∷
    -- three steps of kind 5
    0x00 ∷ 0x03 ∷
    0x05 ∷ 0x02 ∷ 0x00 ∷ 0x00 ∷
    0x05 ∷ 0x3F ∷ 0x00 ∷ 0x00 ∷
    0x05 ∷ 0x00 ∷ 0x00 ∷ 0x00 ∷
    []

abbrev pub panel_lines : List ℕ
panel_lines =
    -- 1 ~
    49 ∷ 32 ∷ 126 ∷ 10 ∷
    -- 2 -
    50 ∷ 32 ∷ 45 ∷ 10 ∷
    -- 3 65535
    51 ∷ 32 ∷ 54 ∷ 53 ∷ 53 ∷ 51 ∷ 53 ∷ 10 ∷
    -- end 0 1 254
    101 ∷ 110 ∷ 100 ∷ 32 ∷ 48 ∷ 32 ∷ 49 ∷ 32 ∷ 50 ∷ 53 ∷ 52 ∷ 10 ∷
    []
