-- What a call on a slot answers, and the bytes that it leaves.
use denote.Ref.{Bor}
use Rattle.std.specs.Prelude.{ℕ, ◌+◌, List, ◌++◌, eqb, leb, drop, length, take, Result, Ok, Err}
use Rattle.gear.specs.declared.answer.Reply.TheVariants.{Done}
use Rattle.gear.specs.declared.answer.Refusal.{Refusal}
use Rattle.gear.specs.declared.answer.Refusal.TheVariants.{Length, Unfit}
use Rattle.gear.specs.declared.record.Gear.{Gear}
use Rattle.gear.specs.declared.answer.Outcome.{Outcome}
use Rattle.gear.specs.Answer.{Answer, done, refused}
use Rattle.gear.specs.Profile.{no_profile}
use Rattle.gear.specs.Record.{fitb, new_gear}
use Rattle.numbers.specs.Numbers.{pick}
use Rattle.colour.specs.declared.setting.ColourSetting.{ColourSetting}
use Rattle.slot.specs.Held.{heldb}
use Rattle.slot.specs.Record.{gear_of}
use Rattle.slot.specs.Image.{image_of, put_colour}

-- the fourteen bytes of a colour at a place, where a slot has room for them
unfoldable pub colour_put : List ℕ → ℕ → ColourSetting → List ℕ
colour_put b place s = pick (leb (place + 14) (length b)) (take place b ++ put_colour s (drop (place + 14) b)) b

-- a slot of another length is refused, and then bytes that are no image of a fit record
unfoldable pub tested : List ℕ → Result (List ℕ) Refusal
tested b = pick (eqb (length b) 512) (pick (heldb b) (Ok b) (Err Unfit)) (Err Length)

-- the bytes of a slot that was lent, or why none was
abbrev pub lent : Result (Bor (List ℕ)) Refusal → Result (List ℕ) Refusal
lent (Ok slot) = Ok slot.now
lent (Err refusal) = Err refusal

-- a slot of another length is refused, and then a record that is not fit
unfoldable pub stored_answer : List ℕ → Gear → Answer
stored_answer b g = pick (eqb (length b) 512) (pick (fitb g) (Ok Done) (Err Unfit)) (Err Length)

-- nothing is written where the call is refused
unfoldable pub stored_bytes : List ℕ → Gear → List ℕ
stored_bytes b g = pick (eqb (length b) 512) (pick (fitb g) (image_of g) b) b

-- the record of an image; a refusal comes with a record that no call accepts
unfoldable pub record_of : List ℕ → Outcome
record_of b =
    pick (eqb (length b) 512) (pick (heldb b) (done (gear_of b)) (refused (new_gear no_profile).gear Unfit))
    (refused (new_gear no_profile).gear Length)
