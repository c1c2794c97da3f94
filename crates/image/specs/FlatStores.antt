-- A flat store.
--   cells_of s, fault_of s   the cells of a store, and the fault of its memory
--   name_of s, words_of s    the name and the words of that memory
use Rattle.std.specs.Prelude.{ℕ, List, Option}
use Rattle.image.specs.declared.fault.Fault.{Fault}
use Rattle.image.specs.declared.flat.Flat.{Flat}
use Rattle.image.specs.Flats.{flat_fault, flat_cells}
use Rattle.store.specs.Stores.{Cells}

-- The cells of a flat store are those that its memory means.
abbrev pub cells_of : Flat → Cells
cells_of s = flat_cells s.burial_ground s.words.now

-- The fault of a flat store's memory.
abbrev pub fault_of : Flat → Option Fault
fault_of s = flat_fault s.burial_ground s.words.now

-- The name of the memory that a flat store was lent.
abbrev pub name_of : Flat → ℕ
name_of s = s.words.ghost_name

-- The words of that memory.
abbrev pub words_of : Flat → List ℕ
words_of s = s.words.now
