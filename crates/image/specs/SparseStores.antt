-- A sparse store.
--   cells_of s, fault_of s   the cells of a store, and the fault of its memory
--   name_of s, words_of s    the name and the words of that memory
use Rattle.std.specs.Prelude.{ℕ, List, Option}
use Rattle.image.specs.declared.fault.Fault.{Fault}
use Rattle.image.specs.declared.sparse.Sparse.{Sparse}
use Rattle.image.specs.Sparses.{sparse_fault, sparse_cells}
use Rattle.store.specs.Stores.{Cells}

-- The cells of a sparse store are those that its memory means.
abbrev pub cells_of : Sparse → Cells
cells_of s = sparse_cells s.words.now

-- The fault of a sparse store's memory.
abbrev pub fault_of : Sparse → Option Fault
fault_of s = sparse_fault s.words.now

-- The name of the memory that a sparse store was lent.
abbrev pub name_of : Sparse → ℕ
name_of s = s.words.ghost_name

-- The words of that memory.
abbrev pub words_of : Sparse → List ℕ
words_of s = s.words.now
