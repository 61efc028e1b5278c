-- `write::write_byte` meets its contract: a byte of no write is refused, and every write is done.
use Prim.Native.Nat.{ℕ}
use mathlib.Core.Path.{◌≡◌, refl, sym, ◌∙◌}
use Rattle.std.proofs.Common.{rules}
use Rattle.std.specs.Prelude.{None, Some, Ok, Err}
use Rattle.gear.specs.Command.{command_of}
use Rattle.gear.specs.Write.{write}
use Rattle.gear.specs.declared.answer.Refusal.TheVariants.{Byte}
use Rattle.gear.specs.declared.answer.Reply.TheVariants.{Done}
use Rattle.gear.specs.declared.command.StandardCommand.{StandardCommand}
use Rattle.gear.specs.declared.command.StandardCommand.TheVariants.{Arc, GoToScene, Reset, IdentifyDevice, Config, EnableWriteMemory}
use Rattle.gear.specs.declared.record.Gear.{Gear}
use Rattle.engine.proofs.write.write_byte.Goals as goal

is_done : (g : Gear) (command : StandardCommand) (d : ℕ) → Ok Done ≡ (write g (Some command) d).answer
unfolding write
is_done g (Arc a) d = refl
is_done g (GoToScene s) d = refl
is_done g Reset d = refl
is_done g IdentifyDevice d = refl
is_done g (Config k) d = refl
is_done g EnableWriteMemory d = refl

pub returns-in_err-command : goal.returns-in_err-command
unfolding write
returns-in_err-command c =
    let none : command_of c.args.byte ≡ None = sym c.command_of.ensures ∙ c.in_err-command.ensures.ok_part in
    let refused : c.from_residual.result ≡ Err Byte = search rules in
    rw (none, refused) (record { does = λ g h. h; tells = λ g h. refl })

pub returns : goal.returns
returns c =
    let some : command_of c.args.byte ≡ Some c.in_ok-command.command = sym c.command_of.ensures ∙ c.in_ok-command.ensures.ok_part in
    rw some (record { does = c.write.ensures; tells = λ g h. is_done g c.in_ok-command.command c.args.dtr0 })
