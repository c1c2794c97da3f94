use Rattle.std.proofs.Common.{◌≡◌, ◌≤◌, ◌+◌, ◌*◌, ℕ, List, ◌++◌, length, vec_len, vec_capacity}
use Rattle.store.specs.Stores.{Cells, Puts}
use Rattle.protocol.specs.Model.{Rooms}
use Rattle.serial.specs.Ledger.{History}
use Rattle.register.specs.Days.{LeadsTo}
use Rattle.register.specs.Registers.{Keeps}
use Rattle.service.specs.Served.{Served}
use Rattle.service.proofs.serving.serve.Given as goal

-- There is room for the answers to come; some history led here, and what comes of the words that are left comes of all.
abbrev pub invariant-messages : goal.invariant-messages
invariant-messages g l = record {
  room : vec_len l.out + 2 * length l.rest ≤ vec_capacity l.out;
  keeps : Keeps l.fn.register l.register;
  store : Puts g.S.Store.beside l.fn.register.store l.register.store;
  made :
      (first : Cells) (rooms : Rooms) (h : History) → LeadsTo g.S.Store.cells g.P.Policy.chosen first rooms h l.fn.register
      → (k : History) × LeadsTo g.S.Store.cells g.P.Policy.chosen first rooms k l.register
      × ((e : History) (bs : List ℕ) → Served l.rest k e bs
      → (cs : List ℕ) × Served l.words h e cs × (l.initial.out.items ++ cs ≡ l.out.items ++ bs));
}

abbrev pub decreases-messages : goal.decreases-messages
decreases-messages g l = length l.rest
