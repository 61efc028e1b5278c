-- Document 01's readings P1 to P13 as one table, under a single statement: `Readings`.
use Rattle.std.specs.Prelude.{ℕ, ◌+◌, Bool, true, false, List, [], ◌∷◌, eqb, replicate, Ok, None}
use Rattle.demands.specs.Calls.{Behaviour, Call}
use Rattle.demands.specs.Calls.Call.{StandardWrite, ArcPower, Query, StoreTcLimit, Stage, Activate, SetFeatures, ColorValue, ColourStatus, ReadMemory, WriteMemory}
use Rattle.demands.specs.Readings.{Reading, AllHold, number}
use Rattle.demands.specs.Readings.Reading.{Shows, OrdersDiffer}
use Rattle.demands.specs.Readings.Sight.{Level, LimitError, Min, Max, PhysicalMin, ActiveTc, StagedTc, SceneTc, Limits, PhysicalLimits, Activation}
use Rattle.gear.specs.declared.answer.Reply.TheVariants.{Done, Value, Nothing}
use Rattle.gear.specs.declared.profile.Profile.{Profile}
use Rattle.gear.specs.Answer.{Answer}
use Rattle.numbers.specs.Numbers.{pick}
use Rattle.step.specs.Step.{temperature}

-- ## Gears and calls by name

-- so many types, Tc or not; physical minimum 1, physical limits 153..400
abbrev pub gear : List ℕ → ℕ → Bool → Profile
gear types count tc =
    record {
      unit =
          record {
            short = None;
            random = 0;
            types = types;
            count = count;
            adjustable = false;
            holds = false;
            bare = false;
            minimum = 1;
          };
      can = record { tc = tc; xy = false; channels = 0 };
      physical = record { coolest = 153; warmest = 400 };
    }

abbrev pub led : Profile
led = gear (6 ∷ replicate 15 0) 1 false

abbrev pub tunable : Profile
tunable = gear (8 ∷ replicate 15 0) 1 true

abbrev pub six_and_eight : Profile
six_and_eight = gear (6 ∷ 8 ∷ replicate 14 0) 2 true

abbrev pub step_up : Call
step_up = StandardWrite 3 0

abbrev pub step_down : Call
step_down = StandardWrite 4 0

abbrev pub step_down_and_off : Call
step_down_and_off = StandardWrite 7 0

abbrev pub go_to_scene : ℕ → Call
go_to_scene s = StandardWrite (16 + s) 0

abbrev pub set_max_level : ℕ → Call
set_max_level n = StandardWrite 42 n

abbrev pub set_min_level : ℕ → Call
set_min_level n = StandardWrite 43 n

abbrev pub set_scene : ℕ → ℕ → Call
set_scene s n = StandardWrite (64 + s) n

abbrev pub stage_tc : ℕ → Call
stage_tc n = Stage (temperature n)

-- what the ids of P7 show
abbrev pub id_answers : List (Call × Answer)
id_answers =
    (ColorValue 63, Ok Nothing) ∷
    (ColorValue 64, Ok (Value 65535)) ∷
    (ColorValue 81, Ok (Value 65535)) ∷
    (ColorValue 82, Ok (Value 0)) ∷
    (ColorValue 83, Ok Nothing) ∷
    (ColorValue 127, Ok Nothing) ∷
    []

-- ## The table

-- Each row under its sentence of document 01: the gear, the calls that lead to the start and what is seen there; the calls of the
-- reading with their answers, and what is seen after them.
abbrev pub table : List Reading
table =
    -- P1 fresh gear, StepUp: level 0, no limit error.
    Shows 1 led [] [] ((step_up, Ok Done) ∷ []) (Level 0 ∷ LimitError false ∷ []) ∷
    -- P2 at max 200, StepUp: 200, limit error.
    Shows 2 led (set_max_level 200 ∷ ArcPower 200 ∷ []) (Max 200 ∷ Level 200 ∷ LimitError false ∷ [])
    ((step_up, Ok Done) ∷ (Query 160, Ok (Value 200)) ∷ (Query 148, Ok (Value 255)) ∷ []) (Level 200 ∷ LimitError true ∷ []) ∷
    -- P3 at min 10, StepDown: 10, cleared;
    Shows 3 led (set_min_level 10 ∷ ArcPower 5 ∷ []) (Min 10 ∷ Level 10 ∷ LimitError true ∷ [])
    ((step_down, Ok Done) ∷ []) (Level 10 ∷ LimitError false ∷ []) ∷
    -- StepDownAndOff: 0.
    Shows 3 led (set_min_level 10 ∷ ArcPower 5 ∷ []) (Min 10 ∷ Level 10 ∷ []) ((step_down_and_off, Ok Done) ∷ []) (Level 0 ∷ []) ∷
    -- P4 SetMaxLevel 255 with min 1: 254;
    Shows 4 led (set_max_level 200 ∷ []) (Min 1 ∷ Max 200 ∷ []) ((set_max_level 255, Ok Done) ∷ []) (Max 254 ∷ []) ∷
    -- 0 with min 10: 10.
    Shows 4 led (set_min_level 10 ∷ []) (Min 10 ∷ []) ((set_max_level 0, Ok Done) ∷ []) (Max 10 ∷ []) ∷
    -- P5 physical 153..400, staged 100: 153, colour status 0x22;
    Shows 5 tunable (stage_tc 100 ∷ []) (PhysicalLimits 153 400 ∷ StagedTc 100 ∷ [])
    ((Activate, Ok Done) ∷ (ColourStatus, Ok (Value 0x22)) ∷ []) (ActiveTc 153 ∷ []) ∷
    -- staged 153: 0x20.
    Shows 5 tunable (stage_tc 153 ∷ []) (PhysicalLimits 153 400 ∷ StagedTc 153 ∷ [])
    ((Activate, Ok Done) ∷ (ColourStatus, Ok (Value 0x20)) ∷ []) (ActiveTc 153 ∷ []) ∷
    -- P6 same pair, active 200, selector 0 value 300: active 300;
    Shows 6 tunable (stage_tc 200 ∷ Activate ∷ []) (PhysicalLimits 153 400 ∷ ActiveTc 200 ∷ [])
    ((StoreTcLimit 300 0, Ok Done) ∷ []) (ActiveTc 300 ∷ []) ∷
    -- then selector 1 value 250: both limits and active 250.
    Shows 6 tunable (stage_tc 200 ∷ Activate ∷ StoreTcLimit 300 0 ∷ []) (ActiveTc 300 ∷ [])
    ((StoreTcLimit 250 1, Ok Done) ∷ []) (Limits 250 250 ∷ ActiveTc 250 ∷ []) ∷
    -- P7 ids 63 none, 64 and 81 65,535, 82 0, 83 and 127 none.
    Shows 7 tunable [] [] id_answers [] ∷
    Shows 7 led [] [] id_answers [] ∷
    -- P8 bank 0: offset 0 is 26, 1 none, 2 is 1, 27 none.
    Shows 8 led [] []
    ((ReadMemory 0 0, Ok (Value 26)) ∷ (ReadMemory 0 1, Ok Nothing) ∷ (ReadMemory 0 2, Ok (Value 1)) ∷ (ReadMemory 0 27, Ok Nothing) ∷ []) [] ∷
    -- P9 bank 1: write 0 at 2, then 3 not writable, 2 still is.
    Shows 9 led [] [] ((WriteMemory 1 2 0, Ok (Value 0)) ∷ (WriteMemory 1 3 7, Ok Nothing) ∷ (WriteMemory 1 2 85, Ok (Value 85)) ∷ []) [] ∷
    -- P10 types 6,8: 255, 6, 8, 254, 254.
    Shows 10 six_and_eight [] []
    ((Query 153, Ok (Value 255)) ∷ (Query 167, Ok (Value 6)) ∷ (Query 167, Ok (Value 8)) ∷ (Query 167, Ok (Value 254)) ∷ (Query 167, Ok (Value 254)) ∷ []) [] ∷
    -- P11 staged 300, SetScene 0 and SetScene 1: orders differ.
    OrdersDiffer 11 tunable (stage_tc 300 ∷ []) (StagedTc 300 ∷ []) (set_scene 0 254) (set_scene 1 254) ∷
    -- P12 activation off, scene 0 has Tc, GoToScene 0 and SetScene 1: orders differ.
    OrdersDiffer 12 tunable (stage_tc 300 ∷ set_scene 0 254 ∷ SetFeatures 0 ∷ []) (Activation false ∷ SceneTc 0 300 ∷ [])
    (go_to_scene 0) (set_scene 1 254) ∷
    -- P13 fresh gear of physical minimum 1, arc power 10 and 20: orders differ.
    OrdersDiffer 13 led [] (PhysicalMin 1 ∷ []) (ArcPower 10) (ArcPower 20) ∷
    []

-- every row holds
abbrev pub Readings : Behaviour → Type 0
Readings f = AllHold f table

-- the rows of one reading
abbrev pub numbered : ℕ → List Reading → List Reading
numbered n [] = []
numbered n (reading ∷ readings) = pick (eqb (number reading) n) (reading ∷ numbered n readings) (numbered n readings)

abbrev pub RowsOf : ℕ → Behaviour → Type 0
RowsOf n f = AllHold f (numbered n table)
