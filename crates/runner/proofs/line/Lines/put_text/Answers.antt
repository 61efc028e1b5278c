-- `line::Lines::put_text` meets its contract: the part of the buffer is the text.
use mathlib.Core.Path.{refl}
use native.Mathlib.Omega.{arith}
use Rattle.std.proofs.Common.{rules}
use Rattle.runner.proofs.Written.{wrote_part}
use Rattle.runner.proofs.line.Lines.put_text.Goals as goal

pub returns : goal.returns
returns c = record {
  same = refl;
  size = search rules;
  fits = c.requires;
  wrote = wrote_part c.requires (omega arith) (search (rules, c.copy_from_slice.ensures.after));
}
