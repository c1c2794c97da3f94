use Rattle.std.proofs.Common.{◌≡◌}
use Rattle.service.specs.Counter.{zero_lines}
use Rattle.service.proofs.counter.zero_lines.Given as goal

abbrev pub invariant-loop-line : goal.invariant-loop-line
invariant-loop-line l = l.words.items ≡ zero_lines l.line
