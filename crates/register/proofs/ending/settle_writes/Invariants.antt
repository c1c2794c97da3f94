use Rattle.std.proofs.Common.{◌≡◌, drop}
use Rattle.store.specs.Stores.{Puts}
use Rattle.register.specs.Settling.{cells_after_writes}
use Rattle.register.proofs.ending.settle_writes.Given as goal

-- With the lines that are left, the cells will be what they are to be in the end.
abbrev pub invariant-loop-line : goal.invariant-loop-line
invariant-loop-line g l = record {
  cells :
      cells_after_writes l.own.transaction l.own.ground l.stamp (g.S.Store.cells l.store) (drop l.line-index l.writes)
      ≡ cells_after_writes l.own.transaction l.own.ground l.stamp (g.S.Store.cells l.initial.store) l.writes;
  puts : Puts g.S.Store.beside l.initial.store l.store;
}
