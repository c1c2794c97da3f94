-- Cells in memory, and how lines lie there.
--   cell_at ws p           the cell in the three words at index p
--   with_cell_at ws p x    the memory with the words of the cell x at index p
--   cell_cause ws p        what is wrong with the three words at index p, if anything
--   checked_cell ws        what the three words ws hold: a cell, or what is wrong with them
--   IsWordsOf x ws         the three words ws are those of the cell x
--   width l, line_count l  how many words a line of a layout has, and how many whole lines there are
--   cell_index l i         the index of line i's cell
use Rattle.std.specs.Prelude.{◌≡◌, ℕ, ◌+◌, ◌*◌, ◌/◌, ◌%◌, ◌^◌, List, [], ◌∷◌, length, None, Ok, Err, Option, Result}
use Rattle.std.specs.Prelude.{slice_index, slice_set}
use Rattle.base.specs.Stamps.{stamp}
use Rattle.base.specs.Values.{value_of}
use Rattle.base.specs.declared.kind.Kind.TheVariants.{WriteStamp, ReadStamp}
use Rattle.base.specs.Words.{value_word, stamp_word}
use Rattle.wire.specs.Words.{low_of, value_in, stamp_in}
use Rattle.store.specs.declared.cell.Cell.{Cell}
use Rattle.std.specs.Option.{option_map_or, option_or}
use Rattle.image.specs.declared.fault.Cause.{Cause}
use Rattle.image.specs.Faults.{cause_in}

-- How lines lie in memory: three words a cell, or four words with the key first.
pub data Layout : Type 0 where
  Bare : Layout
  Keyed : Layout

-- The cell in a value word, a write stamp word and a read stamp word.
abbrev pub cell_in : ℕ → ℕ → ℕ → Cell
cell_in v w r = record { value = value_of (low_of v); write = stamp (w % 2 ^ 28); read = stamp (r % 2 ^ 28) }

-- The cell in the three words at an index.
abbrev pub cell_at : List ℕ → ℕ → Cell
cell_at ws p = cell_in (slice_index ws p) (slice_index ws (p + 1)) (slice_index ws (p + 2))

-- The memory with a cell's three words at an index.
abbrev pub with_cell_at : List ℕ → ℕ → Cell → List ℕ
with_cell_at ws p x =
    slice_set (slice_set (slice_set ws p (value_word x.value)) (p + 1) (stamp_word WriteStamp x.write)) (p + 2) (stamp_word ReadStamp x.read)

-- What is wrong with the three words at an index, the first word first.
abbrev pub cell_cause : List ℕ → ℕ → Option Cause
cell_cause ws p =
    option_or (cause_in (value_in (slice_index ws p)))
    (option_or (cause_in (stamp_in WriteStamp (slice_index ws (p + 1))))
    (cause_in (stamp_in ReadStamp (slice_index ws (p + 2)))))

-- What three words hold: their cell, or what is wrong with them, the first word first.
abbrev pub checked_cell : List ℕ → Result Cell Cause
checked_cell ws = option_map_or Err (cell_cause ws 0) (Ok (cell_at ws 0))

-- The three words of a cell: those of its value and its stamps, in which it is found again with nothing wrong.
pub record IsWordsOf (x : Cell) (ws : List ℕ) : Type 0 where
  pub words : ws ≡ value_word x.value ∷ stamp_word WriteStamp x.write ∷ stamp_word ReadStamp x.read ∷ []
  pub cell : cell_at ws 0 ≡ x
  pub sound : cell_cause ws 0 ≡ None

-- The words of a line: three of a cell, or four with its key first.
abbrev pub width : Layout → ℕ
width Bare = 3
width Keyed = 4

-- How many whole lines there are.
abbrev pub line_count : Layout → List ℕ → ℕ
line_count l ws = length ws / width l

-- The index of line i's cell.
abbrev pub cell_index : Layout → ℕ → ℕ
cell_index Bare i = 3 * i
cell_index Keyed i = 4 * i + 1
