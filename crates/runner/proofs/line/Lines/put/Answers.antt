-- `line::Lines::put` meets its contract: storing one byte writes a text of one byte.
use mathlib.Core.Path.{refl}
use native.Mathlib.Omega.{arith}
use Rattle.std.proofs.Common.{rules}
use Rattle.runner.proofs.Written.{wrote_byte}
use Rattle.runner.proofs.line.Lines.put.Goals as goal

pub returns : goal.returns
returns c = record {
  same = refl;
  size = search rules;
  fits = c.requires;
  wrote = wrote_byte c.args.self.now.out.now c.args.self.now.at c.args.byte (omega (arith, c.requires));
}
