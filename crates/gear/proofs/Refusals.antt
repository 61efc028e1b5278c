-- A write is refused exactly where document 01's table says: 2 for an unfit record, then 3 for a byte that is no write.
use Prim.Native.Nat.{ℕ, ◌<◌}
use mathlib.Core.Path.{◌≡◌, refl, sym, ◌∙◌}
use mathlib.Core.Bool.{Bool, true, false, not}
use lib.Dec.{T, ltb}
use lib.ListN.{replicate, length-replicate}
use Rattle.std.specs.declared.result.Result.TheVariants.{Ok}
use Rattle.gear.specs.declared.answer.Refusal.TheVariants.{Unfit, Byte}
use Rattle.gear.specs.declared.answer.Reply.TheVariants.{Done}
use Rattle.std.specs.Prelude.{Option, Some, None}
use Rattle.gear.specs.declared.command.StandardCommand.{StandardCommand}
use Rattle.gear.specs.declared.command.StandardCommand.TheVariants.{Arc, GoToScene, Reset, IdentifyDevice, Config, EnableWriteMemory}
use Rattle.gear.specs.declared.record.Gear.{Gear}
use Rattle.gear.specs.Answer.{refused}
use Rattle.gear.specs.Command.{level_command, config_command, command_of}
use Rattle.gear.specs.Record.{fitb}
use Rattle.gear.specs.Serve.{serve}
use Rattle.gear.specs.Write.{write, apply_standard_write}
use Rattle.numbers.specs.Numbers.{pick}
use Rattle.numbers.proofs.Logic.{no_false}
use Rattle.numbers.proofs.Table.{at}

-- document 01's writes: 0 to 8, 10, 16 to 32, 37, 42 to 48, 64 to 127, 129. Each line ends below the number that it names
abbrev pub is_write : ℕ → Bool
is_write b =
    pick (ltb b 9) true
    (pick (ltb b 10) false
    (pick (ltb b 11) true
    (pick (ltb b 16) false
    (pick (ltb b 33) true
    (pick (ltb b 37) false
    (pick (ltb b 38) true
    (pick (ltb b 42) false
    (pick (ltb b 49) true (pick (ltb b 64) false (pick (ltb b 128) true (pick (ltb b 129) false (pick (ltb b 130) true false))))))))))))

abbrev known : Option StandardCommand → Bool
known (Some (Arc a)) = true
known (Some (GoToScene s)) = true
known (Some Reset) = true
known (Some IdentifyDevice) = true
known (Some (Config k)) = true
known (Some EnableWriteMemory) = true
known None = false

abbrev same : Bool → Bool → Bool
same true b = b
same false b = not b

same_eq : (a b : Bool) → T (same a b) → a ≡ b
same_eq true true t = refl
same_eq true false t = absurd t
same_eq false true t = absurd t
same_eq false false t = refl

agrees : ℕ → ℕ → Bool
unfolding level_command config_command command_of
agrees b x = same (known (command_of b)) (is_write b)

-- a byte stands for a command exactly where it is a write: one test over all 256 bytes
known_write : (b : ℕ) → b < 256 → known (command_of b) ≡ is_write b
unfolding agrees level_command config_command command_of
known_write b h =
    same_eq (known (command_of b)) (is_write b) (at agrees (replicate 256 0) tt b (rw length-replicate h))

served : (g : Gear) (k : Option StandardCommand) (d : ℕ) → known k ≡ true → (write g k d).answer ≡ Ok Done
unfolding write
served g (Some (Arc a)) d e = refl
served g (Some (GoToScene s)) d e = refl
served g (Some Reset) d e = refl
served g (Some IdentifyDevice) d e = refl
served g (Some (Config k)) d e = refl
served g (Some EnableWriteMemory) d e = refl
served g None d e = no_false e

unknown : (g : Gear) (k : Option StandardCommand) (d : ℕ) → known k ≡ false → write g k d ≡ refused g Byte
unfolding write
unknown g (Some (Arc a)) d e = no_false (sym e)
unknown g (Some (GoToScene s)) d e = no_false (sym e)
unknown g (Some Reset) d e = no_false (sym e)
unknown g (Some IdentifyDevice) d e = no_false (sym e)
unknown g (Some (Config k)) d e = no_false (sym e)
unknown g (Some EnableWriteMemory) d e = no_false (sym e)
unknown g None d e = refl

-- one of three: the record is unfit, the byte is no write, or the write is served; a refused record comes back as it was
pub record WriteRefusals (g : Gear) (b d : ℕ) : Type 0 where
  pub unfit : fitb g ≡ false → apply_standard_write g b d ≡ refused g Unfit
  pub byte : fitb g ≡ true → is_write b ≡ false → apply_standard_write g b d ≡ refused g Byte
  pub write : fitb g ≡ true → is_write b ≡ true → (apply_standard_write g b d).answer ≡ Ok Done

pub write_refusals : (g : Gear) (b d : ℕ) → b < 256 → WriteRefusals g b d
unfolding serve apply_standard_write
write_refusals g b d h =
    record {
      unfit = λ e. rw e;
      byte = λ e n. rw e (unknown g (command_of b) d (known_write b h ∙ n));
      write = λ e y. rw e (served g (command_of b) d (known_write b h ∙ y));
    }
