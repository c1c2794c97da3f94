use Rattle.std.proofs.Common.{◌≡◌, ◌≤◌, ◌++◌, length, drop}
use Rattle.protocol.specs.Among.{raised_above, lowered_below}
use Rattle.register.specs.Lookups.{relation_in}
use Rattle.register.specs.Relations.{floors_beside, ceilings_beside, befores_beside, afters_beside}
use Rattle.register.proofs.validation.look_over.Given as goal

-- With what the rows that are left come to, it is what all rows come to.
abbrev pub invariant-loop-row : goal.invariant-loop-row
invariant-loop-row l =
    let q = relation_in l.relations in
    let rest = drop l.row-index l.rows in
    record {
      few_before : length l.befores ≤ l.row-index;
      few_after : length l.afters ≤ l.row-index;
      lower : raised_above l.left.lower (floors_beside q rest) ≡ raised_above l.fn.range.lower (floors_beside q l.rows);
      upper : lowered_below l.left.upper (ceilings_beside q rest) ≡ lowered_below l.fn.range.upper (ceilings_beside q l.rows);
      before : l.befores ++ befores_beside q rest ≡ befores_beside q l.rows;
      after : l.afters ++ afters_beside q rest ≡ afters_beside q l.rows;
    }
