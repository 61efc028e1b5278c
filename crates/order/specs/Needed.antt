-- Each premise is needed: a record and two orders that differ, where all the other premises hold, in document 01's words (and so
-- in the strong form, which they imply).
use Rattle.std.specs.Prelude.{◌≡◌, true}
use mathlib.Core.List.{List, Permᴰ}
use Rattle.order.specs.Keys.{Keyed, NoSharedKey}
use Rattle.order.specs.Lists.{All, Apart, run}
use Rattle.order.specs.Premises.{Listed, NothingStaged, Worded}
use Rattle.order.specs.Writes.{Write, after}
use Rattle.colour.specs.Activation.{automatic}
use Rattle.demands.specs.Fit.{Fit}
use Rattle.gear.specs.declared.record.Gear.{Gear}

-- two orders of one list that leave different records
pub record Differ (g : Gear) (ws vs : List Write) : Type 0 where
  pub order : Permᴰ ws vs
  pub different : run after ws g ≡ run after vs g → ⊥

-- all but 'nothing staged' (P11)
pub record StagedMatters (g : Gear) (ws vs : List Write) : Type 0 where
  pub fit : Fit g
  pub activates : automatic g.colour ≡ true
  pub listed : Listed ws
  pub differ : Differ g ws vs

-- all but 'activation on' (P12)
pub record ActivationMatters (g : Gear) (ws vs : List Write) : Type 0 where
  pub fit : Fit g
  pub nothing : NothingStaged g ws
  pub listed : Listed ws
  pub differ : Differ g ws vs

-- all but 'no shared key' (P13)
pub record KeysMatter (g : Gear) (ws vs : List Write) : Type 0 where
  pub worded : Worded g ws
  pub keyed : All Keyed ws
  pub differ : Differ g ws vs

-- all but 'each write has a key': no key is shared, since one write has none
pub record KeylessMatters (g : Gear) (ws vs : List Write) : Type 0 where
  pub worded : Worded g ws
  pub apart : Apart NoSharedKey ws
  pub differ : Differ g ws vs
