use Rattle.std.proofs.Common.{◌≡◌, ◌/◌, length, ℕ, ◌+◌}
use Rattle.store.specs.Stores.{Cells, Puts}
use Rattle.protocol.specs.Model.{Rooms}
use Rattle.serial.specs.Ledger.{History}
use Rattle.register.specs.Days.{LeadsTo}
use Rattle.register.specs.Registers.{Keeps}
use Rattle.service.specs.Answered.{Answer, ArePrewrites, pairs_from, pairs_in}
use Rattle.service.proofs.answering.prewrites.Given as goal

-- Some history led here, and what comes of the pairs that are left comes of all.
abbrev pub invariant-loop-i : goal.invariant-loop-i
invariant-loop-i g l = record {
  keeps : Keeps l.fn.register l.register;
  store : Puts g.S.Store.beside l.fn.register.store l.register.store;
  made :
      (first : Cells) (rooms : Rooms) (h : History) → LeadsTo g.S.Store.cells g.P.Policy.chosen first rooms h l.fn.register
      → (k : History) × LeadsTo g.S.Store.cells g.P.Policy.chosen first rooms k l.register
      × ((left : ℕ) → left + l.i ≡ length l.pairs / 2 → (e : History) (a : Answer)
      → ArePrewrites l.transaction (pairs_from l.pairs l.i left) l.stood k e a → ArePrewrites l.transaction (pairs_in l.pairs) 0 h e a);
}
