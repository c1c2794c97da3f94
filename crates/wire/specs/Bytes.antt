-- Words from bytes, the lowest byte first.
--   words_in bs   the words of whole groups of four bytes
use Rattle.std.specs.Prelude.{ℕ, ◌/◌, List, length, map}
use Rattle.std.specs.Int.{from_le_bytes, w32}
use Rattle.std.specs.Simd.{first_chunks}

-- The words of whole groups of four bytes, each with its lowest byte first; what is left over is no word.
abbrev pub words_in : List ℕ → List ℕ
words_in bs = map (from_le_bytes w32) (first_chunks 4 (length bs / 4) bs)
