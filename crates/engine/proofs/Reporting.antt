-- The colour that a query reports: where it is read, and that its fourteen bytes at place 111 are the report's.
use Prim.Native.Nat.{ℕ, ◌%◌, ◌*◌, ◌+◌}
use mathlib.Core.List.{List}
use mathlib.Core.Path.{◌≡◌, ap, sym}
use lib.ListN.{drop, length}
use borrow.Author.Tests.{ne_eqb}
use native.Mathlib.Omega.{arith}
use Rattle.colour.specs.Report.{report_from}
use Rattle.colour.specs.declared.setting.ColourSetting.{ColourSetting}
use Rattle.engine.proofs.Places.{scene_place}
use Rattle.engine.specs.Reported.{shown_by}
use Rattle.gear.specs.Parts.{with_colour}
use Rattle.gear.specs.declared.record.Gear.{Gear}
use Rattle.gear.specs.declared.settings.LevelSetting.{LevelSetting}
use Rattle.query.specs.Heard.{shown}
use Rattle.slot.specs.Calls.{colour_put}
use Rattle.slot.specs.Held.{Holds}
use Rattle.slot.specs.Image.{image_of}
use Rattle.slot.specs.Record.{colour_in, gear_of}

-- ## Read

-- a query of any other level tells that of a scene
pub scene_shown :
    (n : ℕ) (b : List ℕ) → (n ≡ 160 → ⊥) → (n ≡ 163 → ⊥) → (n ≡ 164 → ⊥) →
    colour_in (drop (155 + 15 * (n % 16)) b) ≡ shown_by (gear_of b) n
unfolding gear_of shown
scene_shown n b level on failure =
    rw (ne_eqb n 160 level, ne_eqb n 163 on, ne_eqb n 164 failure)
    (ap (λ (s : LevelSetting). s.colour) (sym (scene_place (n % 16) b (omega arith))))

-- ## Stored

pub report_stored :
    (b : List ℕ) (g : Gear) (s : ColourSetting) → Holds b g → length s.levels ≡ 6 →
    Holds (colour_put b 111 s) (with_colour g (report_from g.colour s))
unfolding image_of colour_put report_from
report_stored b g s h six =
    (rw h.0, (h.1.0, h.1.1, (h.1.2.0, h.1.2.1, six), h.1.3, h.1.4, h.1.5))
