use Rattle.std.proofs.Common.{◌≡◌, ◌%◌}
use Rattle.runner.specs.Lines.{Put}
use Rattle.runner.proofs.Digits.{front, unit_before}
use Rattle.runner.proofs.line.Lines.put_digits.Given as goal

-- so many digits are put, and the rest is what they leave of the number
abbrev pub invariant-loop-unit : goal.invariant-loop-unit
invariant-loop-unit l = record {
  put : Put l.fn.self (front l.unit-index l.n) l.self;
  rest : l.rest ≡ l.n % unit_before l.unit-index;
}
