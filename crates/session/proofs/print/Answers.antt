-- `print` meets its contract: the lines are those at the buffer's front, and its room serves every file.
use Rattle.std.proofs.Common.{◌≤◌, ℕ, List, OnOk, refl, length, subst, arith}
use Rattle.std.proofs.Math.ListN.{replicate}
use Rattle.std.proofs.lemmas.List.{length-replicate}
use Rattle.std.specs.Io.KnownBytes.{Appends}
use Rattle.session.proofs.Printed.{front, lines_only}
use Rattle.session.proofs.print.Goals as goal

wide : 45072 ≤ length {A = ℕ} (replicate 45072 0)
wide = omega (arith, length-replicate {A = ℕ} 45072 0)

pub unwrap-count-requires : goal.unwrap-count-requires
unwrap-count-requires g c = lines_only c.args.file.now (replicate 45072 0) wide c.report.ensures.answer refl

pub returns : goal.returns
returns g c =
    subst (λ (l : List ℕ). OnOk c.write_lines.result (Appends (g.W.Write.contents c.args.output.now) (g.W.Write.contents c.write_lines.new.output) l))
    (front c.args.file.now (replicate 45072 0) wide c.report.ensures.answer c.report.ensures.buffer c.unwrap-count.ensures) c.write_lines.ensures
