-- A sparse store: four words a line, the key first, keys strictly rising.
--   sparse_fault ws    the first fault of the memory ws as a sparse store, if any
--   sparse_line ..     the number of a key's line
--   sparse_cells ws    the cells that the memory means
use Rattle.std.specs.Prelude.{ℕ, ◌%◌, Bool, cond, List, is_none, length, None, Option, position, ◌==◌}
use Rattle.std.specs.Option.{option_map, option_or}
use Rattle.image.specs.declared.fault.Fault.{Fault}
use Rattle.image.specs.declared.stored_line.TheConstants.{SPARSE_LINES}
use Rattle.image.specs.Faults.{whole_fault}
use Rattle.image.specs.Lines.{first_fault, key_of, keyed_cause, lines_of, shape_cause}
use Rattle.image.specs.Memory.{Keyed, cell_at, cell_index, line_count, width}
use Rattle.store.specs.Stores.{Cells}

-- The length of memory first, then the lines from the first.
abbrev pub sparse_fault : List ℕ → Option Fault
sparse_fault ws =
    option_or (option_map whole_fault (shape_cause SPARSE_LINES (line_count Keyed ws) (length ws % width Keyed)))
    (first_fault keyed_cause 0 None (lines_of Keyed ws))

-- The line that names the key. Memory that is no good has no keys.
abbrev pub sparse_line : Bool → List ℕ → ℕ → Option ℕ
sparse_line good ws k = cond good (position (λ x. key_of x == k) (lines_of Keyed ws)) None

-- What memory means as a sparse store: at each key that a line names the cell there.
abbrev pub sparse_cells : List ℕ → Cells
sparse_cells ws k = option_map (λ i. cell_at ws (cell_index Keyed i)) (sparse_line (is_none (sparse_fault ws)) ws k)
