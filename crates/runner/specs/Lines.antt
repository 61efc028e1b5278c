-- Lines of text in a lent buffer.
use Rattle.std.specs.Prelude.{List, ℕ, ◌≡◌, ◌+◌, ◌≤◌, length}
use Rattle.runner.specs.declared.line.Lines.{Lines}
use Rattle.runner.specs.Line.{Wrote}

-- the text fits behind what is written
abbrev pub HasRoom : Lines → List ℕ → Type 0
HasRoom lines text = lines.at + length text ≤ length lines.out.now

-- the text is written there, where it fits, in the same buffer
pub record Put (old : Lines) (text : List ℕ) (new : Lines) : Type 0 where
  pub same : new.out.ghost_name ≡ old.out.ghost_name
  pub size : length new.out.now ≡ length old.out.now
  pub fits : old.at + length text ≤ length old.out.now
  pub wrote : Wrote old.out.now old.at text new.out.now new.at
