-- What some cases leave in the books: six of docs/cases.md, which tells of their bounds and notes, and three longer days.
--   BooksLeft             all that is told of them
--   Leaves c rows notes   the case c leaves these rows and these notes
use Rattle.std.specs.Prelude.{◌≡◌, ℕ, List, [], ◌∷◌, pos}
use Rattle.lines.specs.Rows.{new_row, with_bounds}
use Rattle.lines.specs.declared.note.Note.{Note}
use Rattle.lines.specs.declared.row.Row.{Row}
use Rattle.lines.specs.declared.row.State.{State}
use Rattle.lines.specs.declared.row.State.TheVariants.{Running, Validated, Committed, Aborted}
use Rattle.protocol.specs.AtOneCell.{pushed_down, read_then_written}
use Rattle.protocol.specs.Calls.{register_after}
use Rattle.protocol.specs.Cases.{Case, calls_of, cells_at, top}
use Rattle.protocol.specs.Model.{Model, new}
use Rattle.protocol.specs.Noting.{before_note, apart_note}
use Rattle.protocol.specs.RefusedCalls.{prewrite_replaced}
use Rattle.protocol.specs.Worked.{beside_validated, reader_writer_whole, reader_writer_near, two_writers, ranges_apart, last_stamp_taken}

-- The register after a case.
abbrev pub register_left : Case → Model
register_left c = register_after c.policy (new (cells_at c.cells) c.rooms) (calls_of c)

-- A row by its transaction, ground, state and bounds.
abbrev pub row : ℕ → ℕ → State → ℕ → ℕ → Row
row t g s l u = with_bounds (new_row t g) s (pos l) (pos u)

-- The rows and the notes after a case.
pub record Leaves (c : Case) (rows : List Row) (notes : List Note) : Type 0 where
  pub rows_left : (register_left c).rows ≡ rows
  pub notes_left : (register_left c).notes ≡ notes

-- A failed validation keeps the bounds that its row had, and a neighbour that makes way keeps those that were narrowed.
pub record BooksLeft : Type 0 where
  pub beside_validated : Leaves beside_validated
      (row 1 0 Validated 141 top ∷ row 2 0 Validated 124 140 ∷ row 3 0 Validated 102 123 ∷ [])
      (before_note 4 2 1 ∷ before_note 0 3 2 ∷ [])
  pub reader_writer_whole : Leaves reader_writer_whole
      (row 1 0 Validated 1 top ∷ row 2 0 Aborted 268435456 top ∷ [])
      (before_note 0 1 2 ∷ [])
  pub reader_writer_near : Leaves reader_writer_near
      (row 1 0 Validated 1 1024 ∷ row 2 0 Validated 1025 top ∷ [])
      (before_note 0 1 2 ∷ [])
  pub two_writers : Leaves two_writers
      (row 1 0 Committed 1025 1025 ∷ row 2 0 Committed 1 1 ∷ [])
      (apart_note 0 2 1 ∷ [])
  pub ranges_apart : Leaves ranges_apart
      (row 1 0 Validated 1 1024 ∷ row 2 1 Validated 1 1024 ∷ row 1 1 Validated 1025 top ∷ row 2 0 Running 1025 top ∷ [])
      (before_note 8192 2 1 ∷ before_note 0 1 2 ∷ [])
  pub last_stamp_taken : Leaves last_stamp_taken (row 1 0 Aborted 0 top ∷ []) []
  pub prewrite_replaced : Leaves prewrite_replaced
      (row 1 0 Committed 1 1 ∷ row 2 0 Validated 1025 top ∷ [])
      (apart_note 0 2 1 ∷ [])
  pub pushed_down : Leaves pushed_down (row 1 0 Aborted 0 0 ∷ row 2 0 Aborted 1 1024 ∷ []) (before_note 0 1 2 ∷ [])
  pub read_then_written : Leaves read_then_written (row 1 0 Committed 1 1 ∷ []) []
