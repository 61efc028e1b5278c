-- The kind of each id of a colour value (part 209, table 11).
use Rattle.std.specs.Prelude.{ℕ, Option, None, Some, eqb, ltb}
use Rattle.colour.specs.declared.kinds.Kind.{Kind}
use Rattle.colour.specs.declared.kinds.Kind.TheVariants.{Active, Primary, Primaries, Limit, Staged, Report}
use Rattle.numbers.specs.Numbers.{pick}

-- the kinds in their order, from 1
unfoldable pub kind_numbered : ℕ → Option Kind
kind_numbered n =
    pick (eqb n 1) (Some Active)
    (pick (eqb n 2) (Some Primary)
    (pick (eqb n 3) (Some Primaries) (pick (eqb n 4) (Some Limit) (pick (eqb n 5) (Some Staged) (pick (eqb n 6) (Some Report) None)))))

-- the kind of an id: active, a primary's number, how many primaries, a Tc limit, staged, reported; none where no gear has the id.
-- Each line ends below the number that it names.
unfoldable pub kind_of : ℕ → Option Kind
kind_of id =
    pick (ltb id 3) (Some Active)
    (pick (ltb id 9) None
    (pick (ltb id 16) (Some Active)
    (pick (ltb id 64) None
    (pick (ltb id 82) (Some Primary)
    (pick (ltb id 83) (Some Primaries)
    (pick (ltb id 128) None
    (pick (ltb id 132) (Some Limit)
    (pick (ltb id 192) None
    (pick (ltb id 195) (Some Staged)
    (pick (ltb id 201) None
    (pick (ltb id 209) (Some Staged)
    (pick (ltb id 224) None
    (pick (ltb id 227) (Some Report)
    (pick (ltb id 233) None
    (pick (ltb id 241) (Some Report) None)))))))))))))))

-- a value for each kind, in that order, and one for none
abbrev pub by_kind : {A : Type 0} → Option Kind → A → A → A → A → A → A → A → A
by_kind (Some Active) a p q l s r n = a
by_kind (Some Primary) a p q l s r n = p
by_kind (Some Primaries) a p q l s r n = q
by_kind (Some Limit) a p q l s r n = l
by_kind (Some Staged) a p q l s r n = s
by_kind (Some Report) a p q l s r n = r
by_kind None a p q l s r n = n
