-- What notes say of a transaction and of all others, each of whom has a slot by its number, or an entry where that is another's.
--   names t n             the note n names the transaction t
--   side_at n t g         what the note n says of the transaction t at the ground g
--   is_of o u, is_for s u   the slot s, which is o's, is empty or the transaction u's
--   is_own o u            it is the transaction u's
--   empty_slot, empty_entry   a slot before any note, and a blank entry
--   slot_with s u side    the slot s after one more note, which says this of the transaction and u
--   place_of es u, entry_of es u   where the entry of u lies, and the entry
--   has_room es           there is room for one more, so none was left out
--   entry_with q u side   an entry after that note, where others say q
--   entered_at o es u side, entered es u side   the entries after it, where the entry of u lies at the place o, and where it is sought
--   IsSaidBy o b q        the entry o says q; or there is none, and q is nothing where b, so where none was left out
--   IsEntered es u q      so the entries es of u
--   IsSaid es s r q       the slot s or the entry of the row r says q of it
--   AreTold slots es notes k   so of every row of the ground: what the notes say of the transaction of the key k and of the row's
use Rattle.std.specs.Prelude.{◌≡◌, ℕ, ◌%◌, Bool, true, false, ◌||◌, List, [], ◌∷◌, ◌++◌, cond, Some, None, Option, ◌==◌, find, position, set, length, nat_lt, slice_index_or}
use Rattle.base.specs.Keys.{ground_of}
use Rattle.lines.specs.Notes.{side_of}
use Rattle.lines.specs.declared.note.Note.{Note}
use Rattle.lines.specs.declared.note.Side.{Side}
use Rattle.lines.specs.declared.row.Row.{Row}
use Rattle.lines.specs.declared.row.RowKey.{RowKey}
use Rattle.register.specs.Relations.{relation_of, unrelated, with_side}
use Rattle.register.specs.declared.relation.Relation.{Relation}
use Rattle.register.specs.declared.slots.Entry.{Entry}
use Rattle.register.specs.declared.slots.Slot.{Slot}

-- A transaction is one of the two parties.
abbrev pub names : ℕ → Note → Bool
names t n = n.first == t || n.second == t

-- What a note says of a transaction at a ground, whoever the other is.
abbrev pub side_at : Note → ℕ → ℕ → Option Side
side_at n t g = cond (ground_of n.key == g) (side_of n t) None

-- Nobody's yet, or this one's.
abbrev pub is_of : Option ℕ → ℕ → Bool
is_of None u = true
is_of (Some v) u = v == u

-- This one's.
abbrev pub is_own : Option ℕ → ℕ → Bool
is_own None u = false
is_own (Some v) u = v == u

-- It is empty, or this one's.
abbrev pub is_for : Slot → ℕ → Bool
is_for s u = is_of s.of u

-- A slot that is for this one, after one more note.
abbrev pub slot_with : Slot → ℕ → Side → Slot
slot_with s u side = record { of = Some u; relation = with_side (Some side) s.relation }

-- A slot before any note.
abbrev pub empty_slot : Slot
empty_slot = record { of = None; relation = unrelated }

-- A blank where no entry is yet.
abbrev pub empty_entry : Entry
empty_entry = record { of = 0; relation = unrelated }

-- Where the first entry of this one lies, if it has one.
abbrev pub place_of : List Entry → ℕ → Option ℕ
place_of es u = position (λ e. e.of == u) es

-- That entry.
abbrev pub entry_of : List Entry → ℕ → Option Entry
entry_of es u = find (λ e. e.of == u) es

-- There is room for as many as a register has transactions; none was left out where some is left.
abbrev pub has_room : List Entry → Bool
has_room es = nat_lt (length es) 64

-- An entry after one more note, where others say q.
abbrev pub entry_with : Relation → ℕ → Side → Entry
entry_with q u side = record { of = u; relation = with_side (Some side) q }

-- The entry at a place, or one more where there is none, after one more note.
abbrev pub entered_at : Option ℕ → List Entry → ℕ → Side → List Entry
entered_at (Some i) es u side = set es i (entry_with (slice_index_or es i empty_entry).relation u side)
entered_at None es u side = cond (has_room es) (es ++ entry_with unrelated u side ∷ []) es

-- The entries after one more note.
abbrev pub entered : List Entry → ℕ → Side → List Entry
entered es u side = entered_at (place_of es u) es u side

-- Where there is no entry, no note speaks of the two, if none was left out.
abbrev pub IsSaidBy : Option Entry → Bool → Relation → Type 0
IsSaidBy (Some e) b q = q ≡ e.relation
IsSaidBy None b q = b ≡ true → q ≡ unrelated

-- What the entries say of one whose slot is another's.
abbrev pub IsEntered : List Entry → ℕ → Relation → Type 0
IsEntered es u q = IsSaidBy (entry_of es u) (has_room es) q

-- A slot speaks of a row that it is for; the entries do where it is not the row's own.
abbrev pub IsSaid : List Entry → Slot → Row → Relation → Type 0
IsSaid es s r q = (is_for s r.transaction ≡ true → q ≡ s.relation) × (is_own s.of r.transaction ≡ false → IsEntered es r.transaction q)

-- So each row is told of.
abbrev pub AreTold : List Slot → List Entry → List Note → RowKey → Type 0
AreTold slots es notes k =
    (r : Row) → r.ground ≡ k.ground
    → IsSaid es (slice_index_or slots (r.transaction % 64) empty_slot) r (relation_of notes k.transaction k.ground r)
