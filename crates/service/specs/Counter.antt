-- The register of the program `counter`.
--   zero_line             the words of a zero cell
--   zero_lines n          those of n zero cells
--   flat_words, sparse_words   the words of its two stores
--   counter_cells         the cells that it begins with
--   counter_rooms         the rooms of its books: all that their limits allow
use Rattle.std.specs.Prelude.{ℕ, zero, suc, List, [], ◌∷◌, ◌++◌, pos}
use Rattle.base.specs.Stamps.{stamp}
use Rattle.base.specs.Words.{value_word, stamp_word}
use Rattle.base.specs.declared.kind.Kind.TheVariants.{WriteStamp, ReadStamp}
use Rattle.wire.specs.Words.{key_word}
use Rattle.store.specs.Stores.{Cells}
use Rattle.store.specs.Splits.{split_cells}
use Rattle.image.specs.Flats.{flat_cells}
use Rattle.image.specs.Sparses.{sparse_cells}
use Rattle.lines.specs.declared.access.TheConstants.{READS, WRITES}
use Rattle.lines.specs.declared.note.TheConstants.{NOTES}
use Rattle.lines.specs.declared.row.TheConstants.{ROWS}
use Rattle.lines.specs.declared.transaction.TheConstants.{TRANSACTIONS}
use Rattle.protocol.specs.Model.{Rooms}
use Rattle.register.specs.Registers.{rooms_in}

-- A zero cell: value and both stamps 0.
abbrev pub zero_line : List ℕ
zero_line = value_word (pos 0) ∷ stamp_word WriteStamp (stamp 0) ∷ stamp_word ReadStamp (stamp 0) ∷ []

-- Zero cells, one after another.
unfoldable pub zero_lines : ℕ → List ℕ
zero_lines zero = []
zero_lines (suc n) = zero_lines n ++ zero_line

-- The flat store: keys 0 to 1,023 of ground 0.
abbrev pub flat_words : List ℕ
flat_words = zero_lines 1024

-- The sparse store: keys 8,192 and 8,204, which are plots 0 and 3 of ground 1.
abbrev pub sparse_words : List ℕ
sparse_words = (key_word 8192 ∷ zero_line) ++ (key_word 8204 ∷ zero_line)

-- Ground 0 has its cells in the flat store, the others in the sparse one.
abbrev pub counter_cells : Cells
counter_cells = split_cells 1 (flat_cells 0 flat_words) (sparse_cells sparse_words)

-- Every book has memory for all the lines that its limit allows.
abbrev pub counter_rooms : Rooms
counter_rooms = rooms_in TRANSACTIONS ROWS READS WRITES NOTES
