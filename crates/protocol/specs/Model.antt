-- The register as the rules see it: cells, five lists of lines in the order written, and how many lines each book has room for.
--   Model, Rooms                                all of that; how many lines each book can hold
--   Chooses                                     what a policy answers
--   new cells rooms                             a register with empty books
--   transaction_of, read_of, write_of           the first line of its key, or nothing
--   with_transactions, with_rows, with_writes   the same register with one list replaced
--   with_line same f k x xs                     the list xs with x in the place of its first line of key k
use Rattle.std.specs.Prelude.{ℕ, Bool, cond, List, [], ◌∷◌, ℤ, Option, nat_eq}
use Rattle.store.specs.Stores.{Cells}
use Rattle.book.specs.Books.{line_with}
use Rattle.lines.specs.LineKeys.{read_key, write_key, same_access}
use Rattle.lines.specs.declared.access.ReadLine.{ReadLine}
use Rattle.lines.specs.declared.access.WriteLine.{WriteLine}
use Rattle.lines.specs.declared.note.Note.{Note}
use Rattle.lines.specs.declared.row.Row.{Row}
use Rattle.lines.specs.declared.transaction.Transaction.{Transaction}

-- How many lines each of the five books can hold.
pub record Rooms : Type 0 where
  pub transactions : ℕ
  pub rows : ℕ
  pub reads : ℕ
  pub writes : ℕ
  pub notes : ℕ

-- A register: its cells where the store has the key, its five books, and their rooms.
pub record Model : Type 0 where
  pub cells : Cells
  pub transactions : List Transaction
  pub rows : List Row
  pub reads : List ReadLine
  pub writes : List WriteLine
  pub notes : List Note
  pub rooms : Rooms

-- What a policy answers to l, u, the lowers of the before rows and the uppers of the after rows.
abbrev pub Chooses : Type 0
Chooses = ℤ → ℤ → List ℤ → List ℤ → ℤ × ℤ

-- A new register: its books are empty, whatever its cells hold.
abbrev pub new : Cells → Rooms → Model
new cells rooms = record { cells = cells; transactions = []; rows = []; reads = []; writes = []; notes = []; rooms = rooms }

-- The line of a transaction.
abbrev pub transaction_of : Model → ℕ → Option Transaction
transaction_of m t = line_with nat_eq (λ x. x.number) t m.transactions

-- The read line of a transaction at a key.
abbrev pub read_of : Model → ℕ → ℕ → Option ReadLine
read_of m t k = line_with same_access read_key (record { transaction = t; key = k }) m.reads

-- The write line of a transaction at a key.
abbrev pub write_of : Model → ℕ → ℕ → Option WriteLine
write_of m t k = line_with same_access write_key (record { transaction = t; key = k }) m.writes

-- A list with x in the place of its first line of key k, if it has one.
abbrev pub with_line : {L K : Type 0} → (K → K → Bool) → (L → K) → K → L → List L → List L
with_line same f k x [] = []
with_line same f k x (y ∷ ys) = cond (same (f y) k) (x ∷ ys) (y ∷ with_line same f k x ys)

-- The register with other transaction lines.
abbrev pub with_transactions : Model → List Transaction → Model
with_transactions m xs = record m { transactions = xs }

-- The register with other rows.
abbrev pub with_rows : Model → List Row → Model
with_rows m xs = record m { rows = xs }

-- The register with other write lines.
abbrev pub with_writes : Model → List WriteLine → Model
with_writes m xs = record m { writes = xs }
