-- The lines that a run writes, as lists of bytes, and what a buffer holds once one is written into it.
use Rattle.std.specs.Prelude.{ℕ, zero, suc, ◌+◌, ◌/◌, ◌%◌, ◌≡◌, List, [], ◌∷◌, ◌++◌, ltb, length, take, drop, Ok, Err}
use Rattle.gear.specs.declared.answer.Reply.TheVariants.{Done, Value, Nothing, Incapable}
use Rattle.gear.specs.Answer.{Answer, refusal_number}
use Rattle.numbers.specs.Numbers.{pick}

-- ## Text

-- the byte of a digit
abbrev pub digit : ℕ → ℕ
digit n = 48 + n

-- the last so many digits of a number, without leading zeros
unfoldable pub digits : ℕ → ℕ → List ℕ
digits zero n = []
digits (suc most) n = pick (ltb n 10) (digit n ∷ []) (digits most (n / 10) ++ (digit (n % 10) ∷ []))

-- a number below 100,000, as all numbers here are
abbrev pub decimal : ℕ → List ℕ
decimal n = digits 5 n

-- a number, and the byte behind it: 32, a space, or 10, a line feed
unfoldable pub number_text : ℕ → ℕ → List ℕ
number_text n behind = decimal n ++ (behind ∷ [])

-- `.`, a decimal, `-`, `~` where the gear lacks what the value needs, or `!` and at once the refusal's number
unfoldable pub answer_text : Answer → List ℕ
answer_text (Ok Done) = 46 ∷ []
answer_text (Ok (Value n)) = decimal n
answer_text (Ok Nothing) = 45 ∷ []
answer_text (Ok (Incapable need)) = 126 ∷ []
answer_text (Err r) = (33 ∷ []) ++ decimal (refusal_number r)

-- a step's number and its answer
unfoldable pub line_text : ℕ → Answer → List ℕ
line_text number answer = number_text number 32 ++ (answer_text answer ++ (10 ∷ []))

-- `end`, level, min and max
unfoldable pub end_text : ℕ → ℕ → ℕ → List ℕ
end_text level min max =
    (101 ∷ 110 ∷ 100 ∷ 32 ∷ []) ++ (number_text level 32 ++ (number_text min 32 ++ number_text max 10))

-- `bad` and the offset
unfoldable pub bad_text : ℕ → List ℕ
bad_text offset = (98 ∷ 97 ∷ 100 ∷ 32 ∷ []) ++ number_text offset 10

-- ## Into a buffer

-- a text in the place of what was there
unfoldable pub written : List ℕ → ℕ → List ℕ → List ℕ
written old at text = take at old ++ (text ++ drop (at + length text) old)

-- the text is written, and the next place is right behind it
pub record Wrote (old : List ℕ) (at : ℕ) (text : List ℕ) (new : List ℕ) (next : ℕ) : Type 0 where
  pub bytes : new ≡ written old at text
  pub next_is : next ≡ at + length text
