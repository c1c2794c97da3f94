-- Soft locks.
--   holds_lock r          the row r lets its transaction's lines at its ground stand as locks
--   row_of rows t g       the row of transaction t at ground g, or nothing
--   lock_stands rows t k  a read or write line of t at the key k stands as a lock
use Rattle.std.specs.Prelude.{ℕ, Bool, true, false, List, Some, None, Option}
use Rattle.book.specs.Books.{line_with}
use Rattle.base.specs.Keys.{ground_of}
use Rattle.lines.specs.LineKeys.{row_key, row_key_at, same_row}
use Rattle.lines.specs.declared.row.Row.{Row}
use Rattle.lines.specs.declared.row.State.{State}
use Rattle.lines.specs.declared.row.State.TheVariants.{Running, Validated, Committed, Aborted}

-- Running or Validated.
abbrev pub is_live : State → Bool
is_live Running = true
is_live Validated = true
is_live Committed = false
is_live Aborted = false

-- The lock of a live row stands.
abbrev pub holds_lock : Row → Bool
holds_lock r = is_live r.state

-- The first row of a transaction at a ground.
abbrev pub row_of : List Row → (transaction ground : ℕ) → Option Row
row_of rows t g = line_with same_row row_key (row_key_at t g) rows

-- The lock of a row, if there is a row.
abbrev pub is_locked : Option Row → Bool
is_locked None = false
is_locked (Some r) = holds_lock r

-- A line's lock stands exactly while its transaction's row at the key's ground is Running or Validated.
abbrev pub lock_stands : List Row → ℕ → ℕ → Bool
lock_stands rows t k = is_locked (row_of rows t (ground_of k))
