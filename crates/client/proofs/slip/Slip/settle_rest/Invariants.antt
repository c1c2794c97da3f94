use Rattle.std.proofs.Common.{◌≡◌, ◌-◌, ◌≤◌}
use Rattle.store.specs.Stores.{Puts}
use Rattle.register.specs.Registers.{model, Keeps, KeepsButRowsAndCells}
use Rattle.client.specs.Slips.{settled_from, rest_settled}
use Rattle.client.proofs.slip.Slip.settle_rest.Given as goal

-- With the grounds that are left, the register and the count will be what they are to be in the end.
abbrev pub invariant-loop-ground : goal.invariant-loop-ground
invariant-loop-ground g l = record {
  few : l.settled ≤ l.ground;
  left :
      settled_from (model g.S.Store.cells l.register, l.settled) l.self.number l.ground (8 - l.ground)
      ≡ rest_settled (model g.S.Store.cells l.fn.register) l.self.number;
  keeps : Keeps l.fn.register l.register;
  rest : KeepsButRowsAndCells l.fn.register l.register;
  store : Puts g.S.Store.beside l.fn.register.store l.register.store;
}
