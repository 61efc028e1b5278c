-- The record that the steps of a well-formed file begin with is fit.
use Prim.Native.Nat.{ℕ, ◌<◌}
use mathlib.Core.Path.{◌≡◌, sym, ap, ◌∙◌}
use mathlib.Core.Bool.{true}
use mathlib.Core.List.{List}
use Rattle.std.specs.Prelude.{Ok, is_ok}
use Rattle.file.specs.File.{byte, checked, well_formed}
use Rattle.file.specs.Profile.{profile_in}
use Rattle.file.proofs.Accepted.{file_accepted}
use Rattle.file.proofs.Lowest.{accepted_exactly}
use Rattle.gear.specs.Record.{fitb, new_gear}
use Rattle.gear.proofs.Built.{fresh_fit}
use Rattle.runner.specs.Run.{first_of}

pub good_fit : (s : List ℕ) → ((i : ℕ) → byte s i < 256) → checked s ≡ Ok tt → fitb (first_of s) ≡ true
unfolding new_gear
good_fit s bytes good =
    let well : well_formed s ≡ true = sym (accepted_exactly s) ∙ ap is_ok good in
    let known = file_accepted s bytes well in
    let first : fitb (new_gear (profile_in s)).gear ≡ true = rw known (fresh_fit (profile_in s) known) in
    first
