use Rattle.std.proofs.Common.{◌≡◌, ◌++◌}
use Rattle.survey.specs.Columns.{spaces}
use Rattle.survey.proofs.column.push_spaces.Given as goal

abbrev pub invariant-loop-i : goal.invariant-loop-i
invariant-loop-i g l = l.line.bytes ≡ l.initial.line.bytes ++ spaces l._i
