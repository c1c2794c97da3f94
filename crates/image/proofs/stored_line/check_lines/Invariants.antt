use Rattle.std.proofs.Common.{◌≡◌, drop, None}
use Rattle.image.specs.Lines.{first_fault}
use Rattle.image.proofs.stored_line.check_lines.Given as goal

abbrev pub invariant-loop-i : goal.invariant-loop-i
invariant-loop-i g l =
    first_fault g.L.StoredLine.cause l.i-counter l.before (drop l.i-counter l.lines) ≡ first_fault g.L.StoredLine.cause 0 None l.lines
