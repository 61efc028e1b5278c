-- The limits of a colour temperature (part 209, 9.13 and table 9). A stored limit of 65,535 gives way to the physical one.
use Rattle.std.specs.Prelude.{ℕ, min, max, Bool, Option, None, Some, eqb, leb, ltb}
use Rattle.colour.specs.declared.limits.Limits.{Limits}
use Rattle.colour.specs.declared.limits.Range.{Range}
use Rattle.colour.specs.declared.limits.TcLimit.{TcLimit}
use Rattle.colour.specs.declared.limits.TcLimit.TheVariants.{Coolest, Warmest, PhysicalCoolest, PhysicalWarmest}
use Rattle.numbers.specs.Numbers.{both, pick, clamp_to}

abbrev pub range : ℕ → ℕ → Range
range coolest warmest = record { coolest = coolest; warmest = warmest }

-- the limit in effect, from a stored and a physical one
abbrev pub effective : ℕ → ℕ → ℕ
effective stored physical = pick (eqb stored 65535) physical stored

unfoldable pub effective_coolest : Limits → ℕ
effective_coolest l = pick (eqb l.stored.coolest 65535) l.physical.coolest l.stored.coolest

unfoldable pub effective_warmest : Limits → ℕ
effective_warmest l = pick (eqb l.stored.warmest 65535) l.physical.warmest l.stored.warmest

-- physical coolest ≤ effective coolest ≤ effective warmest ≤ physical warmest < 65,535
unfoldable pub limits_fit : Limits → Bool
limits_fit l =
    both (leb l.physical.coolest (effective_coolest l))
    (both (leb (effective_coolest l) (effective_warmest l))
    (both (leb (effective_warmest l) l.physical.warmest) (ltb l.physical.warmest 65535)))

-- a value asked for, within the physical pair
abbrev pub rendered : ℕ → Limits → ℕ
rendered v l = clamp_to v l.physical.coolest l.physical.warmest

-- selector 0: the coolest limit, and the warmest where the effective one would be passed
unfoldable pub store_coolest : ℕ → Limits → Limits
store_coolest v l =
    record {
      stored =
          range (pick (eqb v 65535) 65535 (rendered v l))
          (pick (eqb v 65535) l.stored.warmest
          (pick (ltb (effective_warmest l) (rendered v l)) (rendered v l) l.stored.warmest));
      physical = l.physical;
    }

-- selector 1: the warmest limit, and the coolest where the effective one would be passed
unfoldable pub store_warmest : ℕ → Limits → Limits
store_warmest v l =
    record {
      stored =
          range
          (pick (eqb v 65535) l.stored.coolest
          (pick (ltb (rendered v l) (effective_coolest l)) (rendered v l) l.stored.coolest))
          (pick (eqb v 65535) 65535 (rendered v l));
      physical = l.physical;
    }

-- a stored limit pulled into new physical ones; 65,535 is none, and stays
unfoldable pub pulled : ℕ → ℕ → ℕ → ℕ
pulled s low high = pick (eqb s 65535) s (clamp_to s low high)

unfoldable pub store_physical : ℕ → ℕ → Limits → Limits
store_physical low high l =
    record {
      stored = range (pulled l.stored.coolest low high) (pulled l.stored.warmest low high);
      physical = range low high;
    }

-- the selector of each limit, and the limit that a selector names; above 3 none
abbrev pub selector_of : TcLimit → ℕ
selector_of Coolest = 0
selector_of Warmest = 1
selector_of PhysicalCoolest = 2
selector_of PhysicalWarmest = 3

unfoldable pub selected : ℕ → Option TcLimit
selected s =
    pick (eqb s 0) (Some Coolest)
    (pick (eqb s 1) (Some Warmest) (pick (eqb s 2) (Some PhysicalCoolest) (pick (eqb s 3) (Some PhysicalWarmest) None)))

-- the limit that the selector names: 2 and 3 stop at the other physical limit and ignore 65,535; above 3 there is none
unfoldable pub store_limit : Limits → ℕ → ℕ → Limits
store_limit l v s =
    pick (eqb s 0) (store_coolest v l)
    (pick (eqb s 1) (store_warmest v l)
    (pick (eqb v 65535) l
    (pick (eqb s 2) (store_physical (min v l.physical.warmest) l.physical.warmest l)
    (pick (eqb s 3) (store_physical l.physical.coolest (max v l.physical.coolest) l) l))))
