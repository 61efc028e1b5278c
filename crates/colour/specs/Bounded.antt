-- The limit store on the few numbers of a colour that it reads and changes.
use Rattle.std.specs.Prelude.{ℕ, false, replicate}
use Rattle.colour.specs.declared.bounded.BoundedTc.{BoundedTc}
use Rattle.colour.specs.declared.record.Colour.{Colour}
use Rattle.colour.specs.Record.{fresh}
use Rattle.colour.specs.Steps.{store_tc_limit, with_active, with_tc}

-- those of a colour
abbrev pub bounded : Colour → BoundedTc
bounded c = record { limits = c.limits; tc = c.active.tc; mode = c.active.mode; outside = c.outside }

-- and put back into it
abbrev pub put_back : Colour → BoundedTc → Colour
put_back c b = with_active c b.limits (with_tc c.active b.tc) b.outside

-- a colour with these numbers, and for the rest that of a fresh gear that can do nothing
abbrev pub plain : BoundedTc → Colour
plain b =
    with_active (fresh (record { tc = false; xy = false; channels = 0 }) 0 0) b.limits
    (record { mode = b.mode; x = 0; y = 0; tc = b.tc; levels = replicate 6 0; control = 0 })
    b.outside

-- the rule of the limit store, on such a colour
abbrev pub store_bounded : BoundedTc → ℕ → ℕ → BoundedTc
store_bounded b v s = bounded (store_tc_limit (plain b) v s)
