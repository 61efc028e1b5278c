-- What a gear remembers of the frames that it heard.
use Rattle.std.specs.Prelude.{ℕ, Bool, true, false, leb, Option, None, Some}
use Rattle.gear.specs.declared.marks.Marks.{Marks}
use Rattle.numbers.specs.Numbers.{both}

abbrev pub fresh_marks : Marks
fresh_marks =
    record {
      walk = None;
      pair = None;
      reset = true;
      cycled = true;
      initialise = false;
      withdrawn = false;
      identifying = false;
      writable = false;
    }

-- a reset leaves no power cycle seen
abbrev pub reset_marks : Marks
reset_marks =
    record {
      walk = None;
      pair = None;
      reset = true;
      cycled = false;
      initialise = false;
      withdrawn = false;
      identifying = false;
      writable = false;
    }

-- the walk ends; four marks are as given; the rest stays
abbrev pub heard : Marks → Bool → Bool → Bool → Bool → Marks
heard m reset cycled identifying writable =
    record {
      walk = None;
      pair = m.pair;
      reset = reset;
      cycled = cycled;
      initialise = m.initialise;
      withdrawn = m.withdrawn;
      identifying = identifying;
      writable = writable;
    }

-- after a command that asks for a level
unfoldable pub asked : Marks → Bool → Marks
asked m keeps = heard m m.reset false (both keeps m.identifying) m.writable

-- after a setting
unfoldable pub configured : Marks → Marks
configured m = heard m false m.cycled false m.writable

unfoldable pub identified : Marks → Marks
identified m = heard m m.reset m.cycled true m.writable

unfoldable pub enabled : Marks → Marks
enabled m = heard m m.reset m.cycled false true

abbrev pub with_walk : Marks → Option ℕ → Marks
with_walk m w =
    record {
      walk = w;
      pair = m.pair;
      reset = m.reset;
      cycled = m.cycled;
      initialise = m.initialise;
      withdrawn = m.withdrawn;
      identifying = m.identifying;
      writable = m.writable;
    }

abbrev pub with_pair : Marks → Option ℕ → Marks
with_pair m p =
    record {
      walk = m.walk;
      pair = p;
      reset = m.reset;
      cycled = m.cycled;
      initialise = m.initialise;
      withdrawn = m.withdrawn;
      identifying = m.identifying;
      writable = m.writable;
    }

-- the walk and the reset state stay; a power cycle is seen
abbrev pub power_up_marks : Marks → Marks
power_up_marks m =
    record {
      walk = m.walk;
      pair = None;
      reset = m.reset;
      cycled = true;
      initialise = false;
      withdrawn = false;
      identifying = false;
      writable = false;
    }

-- off, or at most 16
unfoldable pub walk_fit : Option ℕ → Bool
walk_fit None = true
walk_fit (Some n) = leb n 16
