-- What a decision and a settlement work out.
--   rows_of m t                 the rows of t
--   decision_by m t             Aborted if a row of t is; else Committed at the largest lower if no upper lies below it; else Aborted
--   decision_of, decision_in    the same by rows, and by a range
--   with_decision m t d         the register with t's decision
--   settled_cells m t g c       the cells after t, Committed at c, is settled at ground g
--   with_settlement m t g r e   the register after a settlement
use Rattle.std.specs.Prelude.{ℕ, cond, eqb, List, map, ℤ, pos, Some, None, fold, filter, Option, ◌==◌, int_lt, nat_lt}
use Rattle.std.specs.Int.{int_max, int_min}
use Rattle.std.specs.Option.{option_map}
use Rattle.std.specs.List.{list_any}
use Rattle.store.specs.Stores.{Cells}
use Rattle.store.specs.declared.cell.Cell.{Cell}
use Rattle.base.specs.Keys.{ground_of}
use Rattle.base.specs.Stamps.{stamp_of_bound}
use Rattle.base.specs.declared.stamp.Stamp.{Stamp}
use Rattle.base.specs.declared.stamp.TheConstants.{TOP}
use Rattle.lines.specs.declared.access.ReadLine.{ReadLine}
use Rattle.lines.specs.declared.access.WriteLine.{WriteLine}
use Rattle.lines.specs.declared.row.Event.{Event}
use Rattle.lines.specs.declared.row.Event.TheVariants.{Pass, Fail, Abort, Commit}
use Rattle.lines.specs.declared.row.Row.{Row}
use Rattle.lines.specs.declared.transaction.Decision.{Decision}
use Rattle.lines.specs.declared.transaction.Decision.TheVariants.{Committed, Aborted}
use Rattle.protocol.specs.Checks.{is_aborted, is_own}
use Rattle.protocol.specs.Model.{Model, with_transactions, read_of, write_of, with_line}
use Rattle.protocol.specs.Validation.{row_moved}

-- The rows of a transaction.
abbrev pub rows_of : Model → ℕ → List Row
rows_of m t = filter (is_own t) m.rows

-- The largest lower bound, 0 where there is no row.
abbrev pub largest_lower : List Row → ℤ
largest_lower rs = fold int_max (pos 0) (map (λ r. r.lower) rs)

-- The smallest upper bound, TOP where there is no row.
abbrev pub smallest_upper : List Row → ℤ
smallest_upper rs = fold int_min (pos TOP) (map (λ r. r.upper) rs)

-- Committed at a stamp; Aborted at a bound that is none, which no range from 0 to TOP has for its lower.
abbrev pub committed_at : Option Stamp → Decision
committed_at (Some c) = Committed c
committed_at None = Aborted

-- Committed at the lower bound of a range that is not empty.
abbrev pub decision_in : ℤ → ℤ → Decision
decision_in l u = cond (int_lt u l) Aborted (committed_at (stamp_of_bound l))

-- An Aborted row aborts; else one stamp has to suit all rows.
abbrev pub decision_of : List Row → Decision
decision_of rs = cond (list_any (λ r. is_aborted r.state) rs) Aborted (decision_in (largest_lower rs) (smallest_upper rs))

-- What is decided of a transaction.
abbrev pub decision_by : Model → ℕ → Decision
decision_by m t = decision_of (rows_of m t)

-- The register with a transaction's decision.
abbrev pub with_decision : Model → ℕ → Decision → Model
with_decision m t d =
    with_transactions m (with_line eqb (λ x. x.number) t (record { number = t; decision = Some d }) m.transactions)

-- The larger of two stamps.
abbrev pub larger_stamp : Stamp → Stamp → Stamp
larger_stamp a b = cond (nat_lt a.number b.number) b a

-- A cell after a transaction is settled at c, by its read line of the cell, if it has one: the read stamp is at least c.
abbrev pub cell_after_read : Option ReadLine → Stamp → Cell → Cell
cell_after_read None c x = x
cell_after_read (Some r) c x = record x { read = larger_stamp x.read c }

-- The same by its write line, if it has one: the cell has the line's value where c exceeds its write stamp.
abbrev pub cell_after_write : Option WriteLine → Stamp → Cell → Cell
cell_after_write None c x = x
cell_after_write (Some w) c x =
    cond (nat_lt x.write.number c.number) (record x { value = w.value; write = c }) x

-- The cells after a transaction that is Committed at c is settled at a ground.
abbrev pub settled_cells : Model → ℕ → ℕ → Stamp → Cells
settled_cells m t g c k =
    cond (ground_of k == g)
    (option_map (λ x. cell_after_write (write_of m t k) c (cell_after_read (read_of m t k) c x)) (m.cells k))
    (m.cells k)

-- The cells after an event at a row: only a commitment changes them.
abbrev pub cells_after : Model → ℕ → ℕ → Event → Cells
cells_after m t g (Pass l u) = m.cells
cells_after m t g Fail = m.cells
cells_after m t g Abort = m.cells
cells_after m t g (Commit c) = settled_cells m t g c

-- The register after a settlement.
abbrev pub with_settlement : Model → ℕ → ℕ → Row → Event → Model
with_settlement m t g r e = record m { cells = cells_after m t g e; rows = row_moved t g r e m.rows }
