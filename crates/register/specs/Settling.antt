-- What a settlement writes into cells, line by line.
--   with_change m k f              the cells m with the one at k changed by f
--   cells_after_lines key f t g m xs   the cells m after each of the lines xs that is of t at g made its change, in their order
--   cells_after_reads t g c m xs   that of read lines, settled at the stamp c
--   cells_after_writes t g c m xs  that of write lines
use Rattle.std.specs.Prelude.{ℕ, cond, List, [], ◌∷◌, Some, ◌==◌}
use Rattle.std.specs.Option.{option_map}
use Rattle.base.specs.declared.stamp.Stamp.{Stamp}
use Rattle.store.specs.Stores.{Cells}
use Rattle.store.specs.declared.cell.Cell.{Cell}
use Rattle.lines.specs.LineKeys.{read_key, write_key}
use Rattle.lines.specs.declared.access.AccessKey.{AccessKey}
use Rattle.lines.specs.declared.access.ReadLine.{ReadLine}
use Rattle.lines.specs.declared.access.WriteLine.{WriteLine}
use Rattle.protocol.specs.Decisions.{cell_after_read, cell_after_write}
use Rattle.protocol.specs.Validation.{of_here}

-- The cells with one of them changed, if there is one.
abbrev pub with_change : Cells → ℕ → (Cell → Cell) → Cells
with_change m k f q = cond (q == k) (option_map f (m q)) (m q)

-- The cells after each line of t at g made its change, in their order.
abbrev pub cells_after_lines : {L : Type 0} → (L → AccessKey) → (L → Cell → Cell) → ℕ → ℕ → Cells → List L → Cells
cells_after_lines key f t g m [] = m
cells_after_lines key f t g m (x ∷ xs) =
    cells_after_lines key f t g (cond (of_here t g (key x).transaction (key x).key) (with_change m (key x).key (f x)) m) xs

-- After read lines.
abbrev pub cells_after_reads : ℕ → ℕ → Stamp → Cells → List ReadLine → Cells
cells_after_reads t g c m xs = cells_after_lines read_key (λ x. cell_after_read (Some x) c) t g m xs

-- After write lines.
abbrev pub cells_after_writes : ℕ → ℕ → Stamp → Cells → List WriteLine → Cells
cells_after_writes t g c m xs = cells_after_lines write_key (λ x. cell_after_write (Some x) c) t g m xs
