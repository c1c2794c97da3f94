-- What a validation of transaction t at ground g works out.
--   of_here t g u k                   a line of the transaction u at the key k is one of t at g
--   note_effect m t g n               what follows from the note n
--   floors m t g, ceilings m t g      what the range has to lie above, and what it has to lie below
--   joins on m t g r                  whether some note puts the row r on a list
--   befores m t g, afters m t g       the lowers of the before rows and the uppers of the after rows, in the order of the row book
--   pushed, row_moved                 a row that makes way; the rows with the transaction's own row moved
--   failed, passed                    the register after a validation that failed, and after one that passed with a range
use Rattle.std.specs.Prelude.{ℕ, Bool, cond, ◌&&◌, List, [], ◌∷◌, ◌++◌, map, ℤ, pos, Some, None, Option, ◌==◌}
use Rattle.std.specs.List.{flat_map}
use Rattle.store.specs.Stores.{Cells}
use Rattle.store.specs.declared.cell.Cell.{Cell}
use Rattle.base.specs.Keys.{ground_of}
use Rattle.lines.specs.LineKeys.{row_key, same_row}
use Rattle.lines.specs.Rows.{moved_row}
use Rattle.lines.specs.declared.access.ReadLine.{ReadLine}
use Rattle.lines.specs.declared.access.WriteLine.{WriteLine}
use Rattle.lines.specs.declared.note.Effect.{Effect}
use Rattle.lines.specs.declared.note.Note.{Note}
use Rattle.lines.specs.declared.row.Event.{Event}
use Rattle.lines.specs.declared.row.Event.TheVariants.{Pass, Fail}
use Rattle.lines.specs.declared.row.Row.{Row}
use Rattle.protocol.specs.Among.{effect_among, note_floors, note_ceilings, joins_among, befores_among, afters_among, pushed_among}
use Rattle.protocol.specs.Model.{Model, with_rows, with_line}

-- A line of the transaction t at the ground g.
abbrev pub of_here : ℕ → ℕ → ℕ → ℕ → Bool
of_here t g t₁ k = t₁ == t && ground_of k == g

-- A read's floor: the write stamp that was seen when it was read.
abbrev pub read_floor : ℕ → ℕ → ReadLine → List ℤ
read_floor t g x = cond (of_here t g x.transaction x.key) (pos x.seen.number ∷ []) []

-- The two stamps of a cell.
abbrev pub stamps_of : Option Cell → List ℤ
stamps_of None = []
stamps_of (Some c) = pos c.read.number ∷ pos c.write.number ∷ []

-- A write's floors: the two stamps that its cell has now.
abbrev pub write_floor : Cells → ℕ → ℕ → WriteLine → List ℤ
write_floor cells t g x = cond (of_here t g x.transaction x.key) (stamps_of (cells x.key)) []

-- What follows from a note; notes of other grounds say nothing here.
abbrev pub note_effect : Model → ℕ → ℕ → Note → Option Effect
note_effect m t g n = effect_among m.rows t g n

-- What the range has to lie above: by the reads, the writes and the notes of the transaction here.
abbrev pub floors : Model → ℕ → ℕ → List ℤ
floors m t g =
    flat_map (read_floor t g) m.reads ++ (flat_map (write_floor m.cells t g) m.writes ++ note_floors m.rows m.notes t g)

-- What the range has to lie below.
abbrev pub ceilings : Model → ℕ → ℕ → List ℤ
ceilings m t g = note_ceilings m.rows m.notes t g

-- Whether some note puts a row on a list.
abbrev pub joins : (Option Effect → Bool) → Model → ℕ → ℕ → Row → Bool
joins on m t g r = joins_among on m.rows m.notes t g r

-- The lowers of the before rows.
abbrev pub befores : Model → ℕ → ℕ → List ℤ
befores m t g = befores_among m.rows m.notes t g

-- The uppers of the after rows.
abbrev pub afters : Model → ℕ → ℕ → List ℤ
afters m t g = afters_among m.rows m.notes t g

-- A row after the range from l to u was taken: a before row stays below l, an after row above u.
abbrev pub pushed : Model → ℕ → ℕ → ℤ × ℤ → Row → Row
pushed m t g range r = pushed_among m.rows m.notes t g range r

-- The rows with the transaction's own row here moved by an event.
abbrev pub row_moved : (transaction ground : ℕ) → Row → Event → List Row → List Row
row_moved t g r e rows = with_line same_row row_key (record { transaction = t; ground = g }) (moved_row r e).0 rows

-- The register after a validation that failed: the row is Aborted and keeps its bounds.
abbrev pub failed : Model → ℕ → ℕ → Row → Model
failed m t g r = with_rows m (row_moved t g r Fail m.rows)

-- The register after one that passed with a range: the row is Validated there, and its neighbours make way.
abbrev pub passed : Model → ℕ → ℕ → Row → ℤ × ℤ → Model
passed m t g r range = with_rows m (row_moved t g r (Pass range.0 range.1) (map (pushed m t g range) m.rows))
