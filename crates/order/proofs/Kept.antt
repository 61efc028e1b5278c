-- Every keyed write keeps the record ready: fit, with no mode staged and activation on.
use mathlib.Core.Path.{◌≡◌, refl, ◌∙◌, ap}
use mathlib.Core.Bool.{Bool, true, false}
use mathlib.Core.Option.{Option, none, some}
use lib.Dec.{eqb, leb}
use Rattle.order.specs.Keys.{Keyed}
use Rattle.order.specs.Premises.{Ready}
use Rattle.order.specs.Carry.{carry, colour_step, does, read_scene, settled}
use Rattle.order.specs.Rows.{ColourStep, Row}
use Rattle.order.specs.Rows.ColourStep.{Tc, Xy, Limit, Activated, SceneColour}
use Rattle.order.specs.Table.{row}
use Rattle.order.specs.Writes.{Sized, Write, after, call_of, perform}
use Rattle.order.specs.Writes.Write.{ArcPower, Standard, TcStep, XyStep, TcLimit, Activation, Memory}
use Rattle.order.proofs.Rowed.{rowed}
use Rattle.calls.proofs.Kept as Calls
use Rattle.colour.specs.Activation.{activate, automatic}
use Rattle.colour.specs.declared.record.Colour.{Colour}
use Rattle.colour.specs.declared.setting.ColourSetting.{ColourSetting}
use Rattle.colour.specs.declared.tint.ColorMode.TheVariants.{None}
use Rattle.colour.specs.Staging.{load_temporaries_from}
use Rattle.colour.specs.Steps.{store_tc_limit, tc_step, xy_step}
use Rattle.demands.specs.Calls.{perform as perform_call}
use Rattle.demands.proofs.Fit.{fit_exactly}
use Rattle.gear.specs.declared.record.Gear.{Gear}
use Rattle.gear.specs.Record.{fitb}
use Rattle.gear.proofs.Kept as Writes
use Rattle.numbers.proofs.Logic.{by_cases}

-- ---- no mode staged, activation on

pub record Calm (c : Colour) : Type 0 where
  pub unstaged : c.pending.mode ≡ None
  pub activates : automatic c ≡ true

settled_calm : (p : Bool) (c : Colour) → Calm c → Calm (settled p c)
unfolding automatic
settled_calm true c h = record { unstaged = refl; activates = h.activates }
settled_calm false c h = h

step_calm : (s : ColourSetting) (k : ColourStep) (c : Colour) → Calm c → Calm (colour_step s k c)
unfolding automatic tc_step xy_step store_tc_limit activate load_temporaries_from
step_calm s (Tc warmer) c h = record { unstaged = h.unstaged; activates = h.activates }
step_calm s (Xy y up) c h = record { unstaged = h.unstaged; activates = h.activates }
step_calm s (Limit v sel) c h =
    by_cases (leb sel 3) (λ e. rw e (record { unstaged = h.unstaged; activates = h.activates })) (λ e. rw e h)
step_calm s Activated c h = h
step_calm s SceneColour c h =
    by_cases (eqb s.kind 0xFF) (λ e. rw e h) (λ e. rw e (record { unstaged = refl; activates = h.activates }))

does_calm : (s : ColourSetting) (k : Option ColourStep) (c : Colour) → Calm c → Calm (does (colour_step s) k c)
does_calm s none c h = h
does_calm s (some k) c h = step_calm s k c h

carry_calm : (r : Row) (g : Gear) → Calm g.colour → Calm (carry r g).colour
unfolding carry
carry_calm r g h = does_calm (read_scene r.scene g.scenes).colour r.colour _ (settled_calm r.settles g.colour h)

-- ---- fit

fit_kept : (w : Write) (g : Gear) → Sized w → fitb g ≡ true → fitb (after w g) ≡ true
unfolding perform perform_call call_of
fit_kept (ArcPower v) g z = Writes.arc_power_kept g v
fit_kept (Standard byte d) g z = Writes.standard_write_kept g byte d
fit_kept (TcStep warmer) g z = Calls.tc_step_kept g warmer
fit_kept (XyStep y up) g z = Calls.xy_step_kept g y up
fit_kept (TcLimit v s) g z = Calls.store_tc_limit_kept g v s z
fit_kept Activation g z = Calls.activate_kept g
fit_kept (Memory bank offset v) g z = Calls.write_memory_kept g bank offset v

pub ready_kept : (w : Write) (g : Gear) → Keyed w → Ready g → Ready (after w g)
ready_kept w g k h =
    let calm = carry_calm (row w) g (record { unstaged = h.unstaged; activates = h.activates }) in
    let same : (after w g).colour ≡ (carry (row w) g).colour = ap (λ x. x.colour) (rowed w g k h) in
    record {
      fit = (fit_exactly (after w g)).1 (fit_kept w g k.sized ((fit_exactly g).0 h.fit));
      unstaged = ap (λ c. c.pending.mode) same ∙ calm.unstaged;
      activates = ap automatic same ∙ calm.activates;
    }
