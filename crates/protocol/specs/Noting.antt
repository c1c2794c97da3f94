-- What a read and a prewrite write: their line, a row where the transaction has none yet, and notes for the soft locks they meet.
--   locks_on rows k xs                 the transactions of the lines xs on the key k whose locks stand
--   read_locks m k, write_locks m k    the transactions whose soft locks stand on the key k, in the order of their lines
--   before_note, apart_note            the two kinds of note
--   notes_of_read, notes_of_prewrite   the notes that a call writes
--   new_rows m t k                     the row that a call writes, where there is none
--   with_read, with_prewrite           the register with all that the call writes
use Rattle.std.specs.Prelude.{ℕ, cond, ◌&&◌, List, [], ◌∷◌, ◌++◌, map, ℤ, Some, None, Option, ◌==◌, filter, not}
use Rattle.store.specs.declared.cell.Cell.{Cell}
use Rattle.base.specs.Keys.{ground_of}
use Rattle.lines.specs.LineKeys.{read_key, write_key}
use Rattle.lines.specs.Locks.{lock_stands, row_of}
use Rattle.lines.specs.Rows.{new_row}
use Rattle.lines.specs.declared.access.AccessKey.{AccessKey}
use Rattle.lines.specs.declared.note.Note.{Note}
use Rattle.lines.specs.declared.note.Order.TheVariants.{Before, Apart}
use Rattle.lines.specs.declared.row.Row.{Row}
use Rattle.protocol.specs.Model.{Model}

-- The transactions of those lines on the key k whose lock stands.
abbrev pub locks_on : List Row → ℕ → List AccessKey → List ℕ
locks_on rows k [] = []
locks_on rows k (x ∷ xs) =
    cond (x.key == k && lock_stands rows x.transaction k) (x.transaction ∷ locks_on rows k xs) (locks_on rows k xs)

-- Who holds a soft read lock on a key.
abbrev pub read_locks : Model → ℕ → List ℕ
read_locks m k = locks_on m.rows k (map read_key m.reads)

-- Who holds a soft write lock on a key.
abbrev pub write_locks : Model → ℕ → List ℕ
write_locks m k = locks_on m.rows k (map write_key m.writes)

-- All but one transaction.
abbrev pub others : ℕ → List ℕ → List ℕ
others t us = filter (λ u. not (u == t)) us

-- The note "t before u" at a key.
abbrev pub before_note : ℕ → ℕ → ℕ → Note
before_note k t u = record { key = k; first = t; second = u; order = Before }

-- The note "t apart u" at a key.
abbrev pub apart_note : ℕ → ℕ → ℕ → Note
apart_note k t u = record { key = k; first = t; second = u; order = Apart }

-- A reader comes before each writer whose lock it meets.
abbrev pub notes_of_read : Model → ℕ → ℕ → List Note
notes_of_read m t k = map (before_note k t) (write_locks m k)

-- Each other reader comes before the writer; then each other writer is apart from it.
abbrev pub notes_of_prewrite : Model → ℕ → ℕ → List Note
notes_of_prewrite m t k =
    map (λ r. before_note k r t) (others t (read_locks m k)) ++ map (apart_note k t) (others t (write_locks m k))

-- The row that a transaction needs at a ground, where it has none.
abbrev pub row_needed : Option Row → ℕ → ℕ → List Row
row_needed None t g = new_row t g ∷ []
row_needed (Some r) t g = []

-- The row that a transaction needs for a key.
abbrev pub new_rows : Model → ℕ → ℕ → List Row
new_rows m t k = row_needed (row_of m.rows t (ground_of k)) t (ground_of k)

-- The register after a first read of a key whose cell is c.
abbrev pub with_read : Model → ℕ → ℕ → Cell → Model
with_read m t k c = record m {
  rows = m.rows ++ new_rows m t k;
  reads = m.reads ++ record { transaction = t; key = k; value = c.value; seen = c.write } ∷ [];
  notes = m.notes ++ notes_of_read m t k;
}

-- The register after a first prewrite of a key.
abbrev pub with_prewrite : Model → ℕ → ℕ → ℤ → Model
with_prewrite m t k v = record m {
  rows = m.rows ++ new_rows m t k;
  writes = m.writes ++ record { transaction = t; key = k; value = v } ∷ [];
  notes = m.notes ++ notes_of_prewrite m t k;
}
