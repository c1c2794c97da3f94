-- A flat store: one ground's first keys, three words a cell.
--   flat_fault g ws    the first fault of the memory ws as a flat store of ground g, if any
--   flat_line ..       the number of a key's line
--   flat_cells g ws    the cells that the memory means
use Rattle.std.specs.Prelude.{ℕ, ◌%◌, Bool, cond, ◌&&◌, List, is_none, length, Some, None, Option, ◌==◌, nat_le, nat_lt}
use Rattle.std.specs.Option.{option_map, option_or}
use Rattle.base.specs.Keys.{ground_of}
use Rattle.image.specs.declared.fault.Cause.TheVariants.{GroundAbove7}
use Rattle.image.specs.declared.fault.Fault.{Fault}
use Rattle.image.specs.declared.stored_line.TheConstants.{FLAT_LINES}
use Rattle.image.specs.Faults.{whole_fault}
use Rattle.image.specs.Lines.{bare_cause, first_fault, lines_of, shape_cause}
use Rattle.image.specs.Memory.{Bare, cell_at, cell_index, line_count, width}
use Rattle.store.specs.Stores.{Cells}

-- The length of memory first, then the ground, then the lines from the first.
abbrev pub flat_fault : ℕ → List ℕ → Option Fault
flat_fault g ws =
    option_or (option_map whole_fault (shape_cause FLAT_LINES (line_count Bare ws) (length ws % width Bare)))
    (cond (nat_le g 7) (first_fault bare_cause 0 None (lines_of Bare ws)) (Some (whole_fault GroundAbove7)))

-- The line of a key: its low 13 bits number it among its ground's keys. Memory that is no good has no keys.
abbrev pub flat_line : Bool → ℕ → List ℕ → ℕ → Option ℕ
flat_line good g ws k =
    cond (good && (ground_of k == g && nat_lt (k % FLAT_LINES) (line_count Bare ws))) (Some (k % FLAT_LINES)) None

-- What memory means as a ground's flat store: at each key that has a line the cell there.
abbrev pub flat_cells : ℕ → List ℕ → Cells
flat_cells g ws k = option_map (λ i. cell_at ws (cell_index Bare i)) (flat_line (is_none (flat_fault g ws)) g ws k)
