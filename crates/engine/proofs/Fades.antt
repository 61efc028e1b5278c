-- The three fades of a slot, each stored by itself.
use Prim.Native.Nat.{ℕ}
use mathlib.Core.Path.{refl}
use mathlib.Core.List.{List}
use lib.ListN.{set}
use Rattle.gear.specs.declared.record.Gear.{Gear}
use Rattle.gear.specs.Write.{set_fades}
use Rattle.slot.specs.Held.{Holds}
use Rattle.slot.specs.Image.{image_of}

module _ (b : List ℕ) (g : Gear) (h : Holds b g) (v : ℕ) where
  pub time_stored : Holds (set b 13 v) (set_fades g v g.settings.fades.rate g.settings.fades.extended)
  unfolding image_of
  time_stored = rw h.0 (refl, h.1)

  pub rate_stored : Holds (set b 14 v) (set_fades g g.settings.fades.time v g.settings.fades.extended)
  unfolding image_of
  rate_stored = rw h.0 (refl, h.1)

  pub extended_stored : Holds (set b 15 v) (set_fades g g.settings.fades.time g.settings.fades.rate v)
  unfolding image_of
  extended_stored = rw h.0 (refl, h.1)
