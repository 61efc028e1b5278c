-- `memory::write_location` meets its contract: a location that can be written answers the value, stored or not.
use mathlib.Core.Path.{◌≡◌, sym, ◌∙◌}
use Rattle.bank.specs.Memory.{store_profile, stored, write_memory_location}
use Rattle.bank.specs.Setters.{set_bank1_location}
use Rattle.engine.specs.Works.{write_location}
use Rattle.gear.specs.Answer.{location_answer}
use Rattle.slot.proofs.Read.{part}
use Rattle.slot.specs.Record.{gear_of}
use Rattle.engine.proofs.memory.write_location.Goals as goal
use Rattle.engine.proofs.memory.write_location.Goals.{then-not-flag, else-not-flag}

pub returns-then-not-is_writable : goal.returns-then-not-is_writable
unfolding write_location write_memory_location location_answer
returns-then-not-is_writable c =
    let can = c.is_writable.ensures in
    let no = c.if-not-is_writable.true in
    record { does = λ g h. rw (← can g h, no) h; tells = λ g h. rw (← can g h, no) }

pub returns : goal.returns
unfolding write_location write_memory_location stored set_bank1_location location_answer gear_of
returns c =
    let b = c.args.slot.now in
    let v = c.args in
    let can = c.is_writable.ensures in
    let yes = c.if-not-is_writable.false in
    elim c.if-not-flag.branch [
      | then-not-flag w ↦
          let kept = sym c.flag.ensures ∙ w.if-not-flag.true in
          record {
            does =
                λ g h.
                let to = store_profile g.banks.profile v.offset v.value in
                let next : (write_location g v.bank v.offset v.value).gear.banks.profile ≡ to =
                rw (← can g h, yes, ← part b g h (λ x. x.condition.faults.unstored), kept)
                in
                rw (w.slot-is, next) (w.store_profile.ensures g h);
            tells = λ g h. rw (← can g h, yes, c.from.ensures);
          }
      | else-not-flag w ↦
          let lost = sym c.flag.ensures ∙ w.if-not-flag.false in
          record {
            does =
                λ g h.
                let next : (write_location g v.bank v.offset v.value).gear.banks.profile ≡ g.banks.profile =
                rw (← can g h, yes, ← part b g h (λ x. x.condition.faults.unstored), lost)
                in
                rw (w.slot-is, next) h;
            tells = λ g h. rw (← can g h, yes, c.from.ensures);
          }
    ]
