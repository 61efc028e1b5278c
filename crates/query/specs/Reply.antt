-- The queries by their bytes (document 01, 'Command bytes').
use Rattle.std.specs.Prelude.{ℕ, ◌+◌, ◌*◌, ◌/◌, ◌%◌, Bool, true, false, eqb, leb, Ok, Err, None}
use Rattle.query.specs.Bits.{eight}
use Rattle.query.specs.Lamp.{lamp_on, actual_level}
use Rattle.query.specs.Status.{missing, status_byte}
use Rattle.query.specs.Walk.{device_type, next_device_type, type_answer, next_type_answer}
use Rattle.query.specs.declared.told.Seen.{Seen}
use Rattle.colour.specs.declared.record.Colour.{Colour}
use Rattle.colour.specs.Report.{report_from, report_from_actual}
use Rattle.gear.specs.Answer.{Answer, refused}
use Rattle.gear.specs.declared.answer.Reply.TheVariants.{Value, Nothing}
use Rattle.gear.specs.declared.answer.Outcome.{Outcome}
use Rattle.gear.specs.declared.answer.Refusal.TheVariants.{Byte}
use Rattle.gear.specs.declared.record.Gear.{Gear}
use Rattle.gear.specs.Marks.{with_walk}
use Rattle.gear.specs.Parts.{with_light}
use Rattle.gear.specs.Profile.{is_type}
use Rattle.gear.specs.Serve.{serve}
use Rattle.gear.specs.Write.{scene}
use Rattle.numbers.specs.Numbers.{pick}

-- of 144 to 159 all but 152, 156 and 157
unfoldable pub is_status_query : ℕ → Bool
is_status_query low = pick (eqb low 8) false (pick (eqb low 12) false (pick (eqb low 13) false true))

-- of 160 to 175 the first nine, and 170
unfoldable pub is_setting_query : ℕ → Bool
is_setting_query low = pick (leb low 8) true (eqb low 10)

-- with 176 to 191, and 192 to 196
unfoldable pub is_query : ℕ → Bool
is_query b =
    pick (eqb (b / 16) 9) (is_status_query (b % 16))
    (pick (eqb (b / 16) 10) (is_setting_query (b % 16)) (pick (eqb (b / 16) 11) true (pick (eqb (b / 16) 12) (leb (b % 16) 4) false)))

-- yes is 255, no is no answer
unfoldable pub yes : Bool → Answer
yes b = pick b (Ok (Value 255)) (Ok Nothing)

-- ## What is told, from the parts of the record that queries tell of

-- 144 status, 145 present, 146 lamp failure, 147 lamp on, 148 limit error, 149 reset state, 150 missing address, 151 version,
-- 154 physical minimum, 155 power failure, 158 operating mode, 159 light source
unfoldable pub status_reply : Seen → ℕ → Answer
status_reply s low =
    pick (eqb low 0) (Ok (Value (status_byte s.unit s.levels s.marks s.condition.lamp s.condition.faults)))
    (pick (eqb low 1) (Ok (Value 255))
    (pick (eqb low 2) (yes s.condition.lamp.failure)
    (pick (eqb low 3) (yes (lamp_on s.unit s.levels s.condition.lamp s.condition.faults))
    (pick (eqb low 4) (yes s.levels.error)
    (pick (eqb low 5) (yes s.marks.reset)
    (pick (eqb low 6) (yes (missing s.unit.short))
    (pick (eqb low 7) (Ok (Value 8))
    (pick (eqb low 10) (Ok (Value s.unit.minimum))
    (pick (eqb low 11) (yes s.marks.cycled)
    (pick (eqb low 14) (Ok (Value 0)) (pick (eqb low 15) (Ok (Value 6)) (Ok Nothing))))))))))))

-- the low half of each
unfoldable pub packed_fades : ℕ → ℕ → ℕ
packed_fades time rate = time % 16 * 16 + rate % 16

-- bit 0 of the status
unfoldable pub gear_failure : Seen → Bool
gear_failure s = eqb (status_byte s.unit s.levels s.marks s.condition.lamp s.condition.faults % 2) 1

-- 160 actual level, 161 max, 162 min, 163 power-on, 164 system failure, 165 fades, 166 manufacturer mode (never), 168 extended
-- fade, 170 gear failure
unfoldable pub setting_reply : Seen → ℕ → Answer
setting_reply s low =
    pick (eqb low 0) (Ok (Value (actual_level s.unit s.levels s.condition.faults s.active)))
    (pick (eqb low 1) (Ok (Value s.levels.max))
    (pick (eqb low 2) (Ok (Value s.levels.min))
    (pick (eqb low 3) (Ok (Value s.on))
    (pick (eqb low 4) (Ok (Value s.failure))
    (pick (eqb low 5) (Ok (Value (packed_fades s.fades.time s.fades.rate)))
    (pick (eqb low 8) (Ok (Value s.fades.extended)) (pick (eqb low 10) (yes (gear_failure s)) (Ok Nothing))))))))

-- 192 and 193 groups, 194 to 196 random address
unfoldable pub identity_reply : Seen → ℕ → Answer
identity_reply s low =
    pick (eqb low 0) (Ok (Value (eight s.groups 0)))
    (pick (eqb low 1) (Ok (Value (eight s.groups 8)))
    (pick (eqb low 2) (Ok (Value (s.unit.random / 65536 % 256)))
    (pick (eqb low 3) (Ok (Value (s.unit.random / 256 % 256))) (pick (eqb low 4) (Ok (Value (s.unit.random % 256))) (Ok Nothing)))))

unfoldable pub reply : Seen → ℕ → Answer
reply s b =
    pick (eqb (b / 16) 9) (status_reply s (b % 16))
    (pick (eqb (b / 16) 10) (setting_reply s (b % 16))
    (pick (eqb (b / 16) 11) (Ok (Value s.scene)) (pick (eqb (b / 16) 12) (identity_reply s (b % 16)) (Ok Nothing))))

-- 153 and 167 are the walk
unfoldable pub told : Seen → ℕ → Answer
told s b =
    pick (eqb b 153) (type_answer s.unit)
    (pick (eqb b 167) (next_type_answer s.unit s.marks.walk) (pick (is_query b) (reply s b) (Err Byte)))

-- ## The query

-- of a record, with the level of one scene
abbrev pub seen_with : Gear → ℕ → Seen
seen_with g level =
    record {
      unit = g.unit;
      levels = g.levels;
      marks = g.marks;
      on = g.settings.on.level;
      failure = g.settings.failure.level;
      fades = g.settings.fades;
      groups = g.settings.groups;
      scene = level;
      condition = g.condition;
      active = g.colour.active;
    }

-- the scene is the one that the low half of the byte names
abbrev pub seen : Gear → ℕ → Seen
seen g b = seen_with g (scene g (b % 16)).level

-- 160 reports the active colour; 163, 164 and 176 to 191 the stored one
unfoldable pub report_for : Gear → ℕ → Colour
report_for g b =
    pick (eqb b 160) (report_from_actual g.colour)
    (pick (eqb b 163) (report_from g.colour g.settings.on.colour)
    (pick (eqb b 164) (report_from g.colour g.settings.failure.colour)
    (pick (eqb (b / 16) 11) (report_from g.colour (scene g (b % 16)).colour) g.colour)))

-- only a type 8 gear reports
unfoldable pub reported : Gear → ℕ → Colour
reported g b = pick (is_type g.unit 8) (report_for g b) g.colour

unfoldable pub heard_query : Gear → ℕ → Gear
heard_query g b = with_light g g.levels (with_walk g.marks None) (reported g b)

-- 153 and 167 are the walk; any other query ends it
unfoldable pub query : Gear → ℕ → Outcome
query g b =
    pick (eqb b 153) (device_type g)
    (pick (eqb b 167) (next_device_type g)
    (pick (is_query b) (record { answer = reply (seen g b) b; gear = heard_query g b }) (refused g Byte)))

unfoldable pub gear_query_reply : Gear → ℕ → Outcome
gear_query_reply g b = serve g (query g b)
