-- A register in memory, as the model of specs/Model sees it.
--   model cells r      its cells, the lines that its books hold, and their rooms
--   rooms_in a b ..    the rooms of books in memories of these lengths
--   Lent b m           the book b lies in the memory m, which is as it was
--   Keeps r s          what every call keeps: the policy, where the books lie, and the memory past the lines held
--   KeepsButTransactions r s   s has the store of r, and its books but for the transactions
--   KeepsButRows r s   s has the store of r, and its books but for the rows
--   KeepsButRowsAndCells r s   s has the other books of r
--   IsOfStamps range   both bounds are stamps, the lower not above the upper
--   BegunAt r t i      the line of the transaction t has the place i
--   LineAt r t l       l is the line of the transaction t with its place, or nothing
use Rattle.std.specs.Prelude.{◌≡◌, ℕ, ◌<◌, min, List, length, nat_eq, Some, None, Option, ℤ, pos, ◌≤ℤ◌}
use Rattle.std.specs.Borrow.{MutBor}
use Rattle.book.specs.Books.{memory, room, Stays, lines_of, line_with, position_of}
use Rattle.book.specs.declared.book.Book.{Book}
use Rattle.base.specs.declared.stamp.TheConstants.{TOP}
use Rattle.lines.specs.declared.transaction.Transaction.{Transaction}
use Rattle.store.specs.Stores.{Cells}
use Rattle.protocol.specs.Model.{Model, Rooms}
use Rattle.register.specs.declared.register.Register.{Register}

-- What a register means, where a store means the cells that it has.
abbrev pub model : {S P : Type 0} → (S → Cells) → Register S P → Model
model cells r = record {
  cells = cells r.store;
  transactions = lines_of r.transactions;
  rows = lines_of r.rows.book;
  reads = lines_of r.reads;
  writes = lines_of r.writes;
  notes = lines_of r.notes;
  rooms = record {
    transactions = room r.transactions;
    rows = room r.rows.book;
    reads = room r.reads;
    writes = room r.writes;
    notes = room r.notes;
  };
}

-- Each book can hold so many lines, and no more than its memory.
abbrev pub rooms_in : ℕ → ℕ → ℕ → ℕ → ℕ → Rooms
rooms_in transactions rows reads writes notes = record {
  transactions = min 64 transactions;
  rows = min 256 rows;
  reads = min 512 reads;
  writes = min 512 writes;
  notes = min 4096 notes;
}

-- The book lies in the memory that was lent, which goes by its name, and has written nothing there.
pub record Lent {L : Type 0} (b : Book L) (m : MutBor (List L)) : Type 0 where
  pub memory : memory b ≡ m.now
  pub named : b.lines.ghost_name ≡ m.ghost_name

-- What every call keeps: the policy, where the books lie, and what lies past the lines that each book holds.
pub record Keeps {S P : Type 0} (r s : Register S P) : Type 0 where
  pub policy : s.policy ≡ r.policy
  pub transactions : Stays r.transactions s.transactions
  pub rows : Stays r.rows.book s.rows.book
  pub reads : Stays r.reads s.reads
  pub writes : Stays r.writes s.writes
  pub notes : Stays r.notes s.notes

-- What a call keeps beside that, whose transaction lines alone may change: the store and the four other books, memory included.
pub record KeepsButTransactions {S P : Type 0} (r s : Register S P) : Type 0 where
  pub store : s.store ≡ r.store
  pub rows : s.rows ≡ r.rows
  pub reads : s.reads ≡ r.reads
  pub writes : s.writes ≡ r.writes
  pub notes : s.notes ≡ r.notes

-- What a call keeps beside that, whose rows alone may change.
pub record KeepsButRows {S P : Type 0} (r s : Register S P) : Type 0 where
  pub store : s.store ≡ r.store
  pub transactions : s.transactions ≡ r.transactions
  pub reads : s.reads ≡ r.reads
  pub writes : s.writes ≡ r.writes
  pub notes : s.notes ≡ r.notes

-- What a settlement keeps beside that: it may change the rows and the cells.
pub record KeepsButRowsAndCells {S P : Type 0} (r s : Register S P) : Type 0 where
  pub transactions : s.transactions ≡ r.transactions
  pub reads : s.reads ≡ r.reads
  pub writes : s.writes ≡ r.writes
  pub notes : s.notes ≡ r.notes

-- A range of stamps, not empty.
pub record IsOfStamps (range : ℤ × ℤ) : Type 0 where
  pub least : pos 0 ≤ℤ range.0
  pub order : range.0 ≤ℤ range.1
  pub most : range.1 ≤ℤ pos TOP

-- The place of a transaction's line.
pub record BegunAt {S P : Type 0} (r : Register S P) (t i : ℕ) : Type 0 where
  pub within : i < length (lines_of r.transactions)
  pub position : position_of nat_eq (λ x. x.number) t (lines_of r.transactions) ≡ Some i

-- The line of a transaction with its place, or nothing.
abbrev pub LineAt : {S P : Type 0} → Register S P → ℕ → Option (ℕ × Transaction) → Type 0
LineAt r t None = line_with nat_eq (λ x. x.number) t (lines_of r.transactions) ≡ None
LineAt r t (Some p) = (line_with nat_eq (λ x. x.number) t (lines_of r.transactions) ≡ Some p.1) × BegunAt r t p.0
