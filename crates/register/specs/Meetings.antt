-- What a read or a prewrite adds for the soft locks that it meets.
--   is_met rows t k x   the line x stands as a lock of another than t on the key k
--   met rows t k xs     the others than t whose locks stand on the key k, among the lines xs
--   note_by s t k u     the note at the key k that says s of t, where u is the other
use Rattle.std.specs.Prelude.{ℕ, Bool, ◌&&◌, List, ◌==◌, not}
use Rattle.lines.specs.Locks.{lock_stands}
use Rattle.lines.specs.declared.access.AccessKey.{AccessKey}
use Rattle.lines.specs.declared.note.Note.{Note}
use Rattle.lines.specs.declared.note.Side.{Side}
use Rattle.lines.specs.declared.note.Side.TheVariants.{Earlier, Later, Apart}
use Rattle.lines.specs.declared.row.Row.{Row}
use Rattle.protocol.specs.Noting.{locks_on, others, before_note, apart_note}

-- A line that stands as a soft lock of another transaction on the key.
abbrev pub is_met : List Row → (transaction key : ℕ) → AccessKey → Bool
is_met rows t k x = (x.key == k && lock_stands rows x.transaction k) && not (x.transaction == t)

-- The holders of the locks that a transaction meets, without its own.
abbrev pub met : List Row → (transaction key : ℕ) → List AccessKey → List ℕ
met rows t k xs = others t (locks_on rows k xs)

-- The note on a transaction and a holder.
abbrev pub note_by : Side → (transaction key holder : ℕ) → Note
note_by Earlier t k u = before_note k t u
note_by Later t k u = before_note k u t
note_by Apart t k u = apart_note k t u
