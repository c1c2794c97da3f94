-- Two transactions at a ground: what the notes say of them, and what follows for the first from the row of the other.
--   is_earlier, is_later, is_apart   what a side says
--   said t g r n                what the note n says of t and of the transaction whose row is r, at the ground g
--   relation_of notes t g r     what the notes say of the two: several sides may hold
--   unrelated, with_side s q    no note speaks of the two; what one more note says beside others
--   floors_by q r               what the row r of the other raises the lower bound above, if it does
--   ceilings_by q r             what it lowers the upper bound below, if it does
--   lists_by q r                which of the two lists the row is on
--   choice P l u befores afters  the range that a policy takes of the one from l to u, or nothing
--   event_of                     what that is for the transaction's own row
--  and of all rows, where q says what the notes say of each:
--   floors_beside, ceilings_beside    all that rows raise a range above, and lower it below
--   lists_of                    the lists of a row
--   befores_beside, afters_beside     the lowers of the rows before and the uppers of the rows after
--   pushed_beside               a row after a range was taken
--   choice_beside, rows_beside   what is taken of a range beside rows, and the rows after that
use Rattle.std.specs.Prelude.{ℕ, Bool, true, false, cond, ◌&&◌, ◌||◌, List, [], ◌∷◌, map, ℤ, int_lt, Some, None, filter, Option, ◌==◌}
use Rattle.std.specs.List.{flat_map, list_any}
use Rattle.base.specs.Keys.{ground_of}
use Rattle.lines.specs.LineKeys.{row_key, row_key_at, same_row}
use Rattle.lines.specs.Notes.{side_of}
use Rattle.lines.specs.Rows.{is_past}
use Rattle.lines.specs.declared.note.Note.{Note}
use Rattle.lines.specs.declared.note.Side.{Side}
use Rattle.lines.specs.declared.note.Side.TheVariants.{Earlier, Later, Apart}
use Rattle.lines.specs.declared.row.Event.{Event}
use Rattle.lines.specs.declared.row.Event.TheVariants.{Pass, Fail}
use Rattle.lines.specs.declared.row.Row.{Row}
use Rattle.protocol.specs.Among.{other_party, pushed_by, raised_above, lowered_below}
use Rattle.protocol.specs.Checks.{is_running}
use Rattle.protocol.specs.Model.{Chooses}
use Rattle.register.specs.declared.relation.Relation.{Relation}
use Rattle.register.specs.declared.relation.Lists.{Lists}

-- That the transaction goes before the other.
abbrev pub is_earlier : Option Side → Bool
is_earlier None = false
is_earlier (Some Earlier) = true
is_earlier (Some Later) = false
is_earlier (Some Apart) = false

-- That it goes after the other.
abbrev pub is_later : Option Side → Bool
is_later None = false
is_later (Some Earlier) = false
is_later (Some Later) = true
is_later (Some Apart) = false

-- That the two are apart, in either order.
abbrev pub is_apart : Option Side → Bool
is_apart None = false
is_apart (Some Earlier) = false
is_apart (Some Later) = false
is_apart (Some Apart) = true

-- What a note of the ground says of the transaction t, where the row r is the other party's there.
abbrev pub said : ℕ → ℕ → Row → Note → Option Side
said t g r n = cond (ground_of n.key == g && same_row (row_key r) (row_key_at (other_party n t) g)) (side_of n t) None

-- What the notes say of t and of the transaction whose row is r.
abbrev pub relation_of : List Note → ℕ → ℕ → Row → Relation
relation_of notes t g r = record {
  earlier = list_any (λ n. is_earlier (said t g r n)) notes;
  later = list_any (λ n. is_later (said t g r n)) notes;
  apart = list_any (λ n. is_apart (said t g r n)) notes;
}

-- No note speaks of the two.
abbrev pub unrelated : Relation
unrelated = record { earlier = false; later = false; apart = false }

-- What one more note says beside what others say.
abbrev pub with_side : Option Side → Relation → Relation
with_side s q = record { earlier = is_earlier s || q.earlier; later = is_later s || q.later; apart = is_apart s || q.apart }

-- A row that passed raises the lower bound above its upper where it goes before, or is apart.
abbrev pub floors_by : Relation → Row → List ℤ
floors_by q r = cond (is_past r.state && (q.later || q.apart)) (r.upper ∷ []) []

-- It lowers the upper bound below its lower where it goes after.
abbrev pub ceilings_by : Relation → Row → List ℤ
ceilings_by q r = cond (is_past r.state && q.earlier) (r.lower ∷ []) []

-- A Running row is on the list before where the transaction goes after it, and on the list after where that goes before it or is apart.
abbrev pub lists_by : Relation → Row → Lists
lists_by q r = record { before = is_running r.state && q.later; after = is_running r.state && (q.earlier || q.apart) }

-- What a policy takes of what is left, from l to u: nothing where nothing is.
abbrev pub choice : Chooses → ℤ → ℤ → List ℤ → List ℤ → Option (ℤ × ℤ)
choice P l u befores afters = cond (int_lt u l) None (Some (P l u befores afters))

-- A row passes with what was choice, or fails.
abbrev pub event_of : Option (ℤ × ℤ) → Event
event_of None = Fail
event_of (Some range) = Pass range.0 range.1

module _ (q : Row → Relation) where
  -- What all rows raise a range above.
  abbrev pub floors_beside : List Row → List ℤ
  floors_beside rows = flat_map (λ r. floors_by (q r) r) rows

  -- What they lower it below.
  abbrev pub ceilings_beside : List Row → List ℤ
  ceilings_beside rows = flat_map (λ r. ceilings_by (q r) r) rows

  -- The lists of a row.
  abbrev pub lists_of : Row → Lists
  lists_of r = lists_by (q r) r

  -- The lowers of the rows before.
  abbrev pub befores_beside : List Row → List ℤ
  befores_beside rows = map (λ r. r.lower) (filter (λ r. (lists_of r).before) rows)

  -- The uppers of the rows after.
  abbrev pub afters_beside : List Row → List ℤ
  afters_beside rows = map (λ r. r.upper) (filter (λ r. (lists_of r).after) rows)

  -- A row after a range was taken.
  abbrev pub pushed_beside : ℤ × ℤ → Row → Row
  pushed_beside range r = pushed_by (lists_of r).before (lists_of r).after range r

  -- What is taken of the range from l to u.
  abbrev pub choice_beside : Chooses → ℤ → ℤ → List Row → Option (ℤ × ℤ)
  choice_beside P l u rows =
      choice P (raised_above l (floors_beside rows)) (lowered_below u (ceilings_beside rows)) (befores_beside rows) (afters_beside rows)

  -- The rows after that.
  abbrev pub rows_beside : Option (ℤ × ℤ) → List Row → List Row
  rows_beside None rows = rows
  rows_beside (Some range) rows = map (pushed_beside range) rows
