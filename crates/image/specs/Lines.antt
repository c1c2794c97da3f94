-- The lines of a store in memory, one after the other, each as the list of its words.
--   lines_of l ws                     the whole lines in the memory ws, of three or four words each as the layout l has it
--   key_of x                          the key in the first word of a line of four words
--   bare_cause b x, keyed_cause b x   what is wrong with the line x that comes after the line b, if anything
--   first_fault f i b xs              the first fault of the lines xs from number i on, after the line b, if any
--   shape_cause m n r                 what is wrong with memory of n lines and r words more, where m lines are the most, if anything
use Rattle.std.specs.Prelude.{ℕ, ◌+◌, cond, List, [], ◌∷◌, Some, None, Option, ◌==◌, nat_le, nat_lt, slice_index}
use Rattle.std.specs.Option.{option_map, option_or}
use Rattle.std.specs.Simd.{first_chunks}
use Rattle.wire.specs.Words.{low_of, key_in}
use Rattle.image.specs.declared.fault.Cause.{Cause}
use Rattle.image.specs.declared.fault.Cause.TheVariants.{PartLine, TooMany, KeysNotRising}
use Rattle.image.specs.declared.fault.Fault.{Fault}
use Rattle.image.specs.Faults.{cause_in, line_fault}
use Rattle.image.specs.Memory.{Layout, cell_cause, line_count, width}

-- The lines in memory; words that are left over make none.
abbrev pub lines_of : Layout → List ℕ → List (List ℕ)
lines_of l ws = first_chunks (width l) (line_count l ws) ws

-- The key of a line of four words.
abbrev pub key_of : List ℕ → ℕ
key_of x = low_of (slice_index x 0)

-- Three words are a cell alone.
abbrev pub bare_cause : Option (List ℕ) → List ℕ → Option Cause
bare_cause before x = cell_cause x 0

-- A key has to rise over that of the line before.
abbrev pub rising_cause : Option (List ℕ) → List ℕ → Option Cause
rising_cause None x = None
rising_cause (Some b) x = cond (nat_lt (key_of b) (key_of x)) None (Some KeysNotRising)

-- Four words are a key and its cell, the first word first, and then keys rise.
abbrev pub keyed_cause : Option (List ℕ) → List ℕ → Option Cause
keyed_cause before x = option_or (cause_in (key_in (slice_index x 0))) (option_or (cell_cause x 1) (rising_cause before x))

-- The first fault of lines.
abbrev pub first_fault : {L : Type 0} → (Option L → L → Option Cause) → ℕ → Option L → List L → Option Fault
first_fault f i before [] = None
first_fault f i before (x ∷ xs) = option_or (option_map (line_fault i) (f before x)) (first_fault f (i + 1) (Some x) xs)

-- A part of a line that is left over, or else too many lines.
abbrev pub shape_cause : ℕ → ℕ → ℕ → Option Cause
shape_cause m n r = cond (r == 0) (cond (nat_le n m) None (Some TooMany)) (Some PartLine)
