-- What the bytes of a colour say of the record that a slot holds.
use Prim.Native.Nat.{ℕ}
use mathlib.Core.Path.{◌≡◌, ap, subst, sym, ◌∙◌}
use mathlib.Core.Bool.{Bool, false, not}
use mathlib.Core.List.{List, [], ◌∷◌, append-nil}
use borrow.Author.Tests.{eqb-true}
use denote.Enum.Bare.{sameb}
use lib.Dec.{eqb}
use lib.ListN.{length}
use Rattle.colour.specs.declared.record.Colour.{Colour}
use Rattle.colour.specs.contracts.tint.ColorMode.{the_type}
use Rattle.colour.specs.declared.tint.ColorMode.{ColorMode}
use Rattle.colour.specs.declared.tint.ColorMode.TheVariants.{None, Cct, Xy, Rgb}
use Rattle.colour.specs.Tint.{is_cct, is_xy, mode_of}
use Rattle.gear.specs.declared.record.Gear.{Gear}
use Rattle.gear.specs.Parts.{with_colour}
use Rattle.numbers.proofs.Logic.{by_cases}
use Rattle.slot.proofs.Back.{mode_back}
use Rattle.slot.proofs.Lists.{word_back}
use Rattle.slot.proofs.Puts.{bytes_cells, bytes_whole}
use Rattle.slot.specs.Held.{Holds}
use Rattle.slot.specs.Image.{image_of}
use Rattle.slot.specs.Record.{at, word_at}

module _ (b : List ℕ) (g : Gear) (h : Holds b g) where
  pub staged_mode : g.colour.pending.mode ≡ mode_of (at 110 b)
  unfolding image_of
  staged_mode = sym (ap (λ (x : List ℕ). mode_of (at 110 x)) h.0 ∙ mode_back g.colour.pending.mode)

  pub active_mode : g.colour.active.mode ≡ mode_of (at 96 b)
  unfolding image_of
  active_mode = sym (ap (λ (x : List ℕ). mode_of (at 96 x)) h.0 ∙ mode_back g.colour.active.mode)

  pub staged_tc : word_at 101 b ≡ g.colour.pending.tc
  unfolding image_of
  staged_tc = ap (word_at 101) h.0 ∙ word_back g.colour.pending.tc

  pub active_tc : word_at 87 b ≡ g.colour.active.tc
  unfolding image_of
  active_tc = ap (word_at 87) h.0 ∙ word_back g.colour.active.tc

  pub features_byte : at 67 b ≡ g.colour.features
  unfolding image_of
  features_byte = ap (at 67) h.0

-- the six levels of a colour, one by one
pub six : (xs : List ℕ) → length xs ≡ 6 → xs ≡ at 0 xs ∷ at 1 xs ∷ at 2 xs ∷ at 3 xs ∷ at 4 xs ∷ at 5 xs ∷ []
six xs h = sym (append-nil xs) ∙ sym (bytes_whole 6 xs [] h) ∙ bytes_cells 6 xs []

-- ## The test of the active mode

cct_byte : (n : ℕ) → is_cct (mode_of n) ≡ eqb n 0x20
cct_byte n =
    by_cases (eqb n 0x10) (λ e. rw (e, eqb-true n 0x10 e))
    (λ e. by_cases (eqb n 0x20) (λ f. rw (e, f)) (λ f. by_cases (eqb n 0x80) (λ k. rw (e, f, k)) (λ k. rw (e, f, k))))

cct_unless : (m : ColorMode) (r : Bool) → r ≡ not (sameb the_type m Cct) → is_cct m ≡ not r
cct_unless None r e = sym (ap not e)
cct_unless Cct r e = sym (ap not e)
cct_unless Xy r e = sym (ap not e)
cct_unless Rgb r e = sym (ap not e)

xy_unless : (m : ColorMode) (r : Bool) → r ≡ not (sameb the_type m Xy) → is_xy m ≡ not r
xy_unless None r e = sym (ap not e)
xy_unless Cct r e = sym (ap not e)
xy_unless Xy r e = sym (ap not e)
xy_unless Rgb r e = sym (ap not e)

module _ (b : List ℕ) (g : Gear) (h : Holds b g) where
  pub active_cct : is_cct g.colour.active.mode ≡ eqb (at 96 b) 0x20
  active_cct = ap is_cct (active_mode b g h) ∙ cct_byte (at 96 b)

  pub cct_told : (m : ColorMode) (r : Bool) → m ≡ mode_of (at 96 b) → r ≡ not (sameb the_type m Cct) → is_cct g.colour.active.mode ≡ not r
  cct_told m r e d = ap is_cct (active_mode b g h ∙ sym e) ∙ cct_unless m r d

  pub xy_told : (m : ColorMode) (r : Bool) → m ≡ mode_of (at 96 b) → r ≡ not (sameb the_type m Xy) → is_xy g.colour.active.mode ≡ not r
  xy_told m r e d = ap is_xy (active_mode b g h ∙ sym e) ∙ xy_unless m r d

  pub active_x : word_at 83 b ≡ g.colour.active.x
  unfolding image_of
  active_x = ap (word_at 83) h.0 ∙ word_back g.colour.active.x

  pub active_y : word_at 85 b ≡ g.colour.active.y
  unfolding image_of
  active_y = ap (word_at 85) h.0 ∙ word_back g.colour.active.y

-- the same colour by another rule
pub same_colour : (b : List ℕ) (g : Gear) (c d : Colour) → c ≡ d → Holds b (with_colour g c) → Holds b (with_colour g d)
same_colour b g c d e h = subst (λ (x : Colour). Holds b (with_colour g x)) e h
