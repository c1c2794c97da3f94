-- What notes mean for a validation of transaction t at ground g, by lists of rows and notes.
--   raise l x, lower u x            a bound raised above x, or lowered below x
--   raised_above, lowered_below     a bound raised above each of some numbers, or lowered below each
--   other_party n t                 the other party of the note n
--   effect_among rows t g n         what follows from the note n
--   is_before, is_after             whether that puts the other row on a list
--   note_floors, note_ceilings      what the notes raise the range above, and what they lower it below
--   joins_among                     whether some note puts a row on a list
--   befores_among, afters_among     the lowers of the before rows and the uppers of the after rows
--   pushed_by, pushed_among         a row after a range was taken
use Rattle.std.specs.Prelude.{ℕ, Bool, true, false, cond, ◌&&◌, List, [], ◌∷◌, map, ℤ, pos, ◌+ℤ◌, ◌-ℤ◌, Some, None, filter, Option, ◌==◌}
use Rattle.std.specs.Int.{int_max, int_min}
use Rattle.std.specs.List.{flat_map, list_any}
use Rattle.std.specs.Option.{option_and_then}
use Rattle.base.specs.Keys.{ground_of}
use Rattle.lines.specs.Locks.{row_of}
use Rattle.lines.specs.Notes.{effect_of}
use Rattle.lines.specs.Rows.{with_bounds}
use Rattle.lines.specs.declared.note.Effect.{Effect}
use Rattle.lines.specs.declared.note.Effect.TheVariants.{LowerBelow, RaiseAbove, JoinBefore, JoinAfter}
use Rattle.lines.specs.declared.note.Note.{Note}
use Rattle.lines.specs.declared.row.Row.{Row}

-- Raise a lower bound above x.
abbrev pub raise : ℤ → ℤ → ℤ
raise l x = int_max l (x +ℤ pos 1)

-- Lower an upper bound below x.
abbrev pub lower : ℤ → ℤ → ℤ
lower u x = int_min u (x -ℤ pos 1)

-- Raise a lower bound above each of some numbers.
abbrev pub raised_above : ℤ → List ℤ → ℤ
raised_above l [] = l
raised_above l (x ∷ xs) = raised_above (raise l x) xs

-- Lower an upper bound below each of some numbers.
abbrev pub lowered_below : ℤ → List ℤ → ℤ
lowered_below u [] = u
lowered_below u (x ∷ xs) = lowered_below (lower u x) xs

-- The other party of a note.
abbrev pub other_party : Note → ℕ → ℕ
other_party n t = cond (n.first == t) n.second n.first

-- What follows from a note whose other party has this row at the ground.
abbrev pub effect_with : Note → ℕ → Option Row → Option Effect
effect_with n t o = option_and_then (effect_of n t) o

-- The bound that what follows from a note raises the range above, if it does.
abbrev pub effect_floor : Option Effect → List ℤ
effect_floor None = []
effect_floor (Some (LowerBelow x)) = []
effect_floor (Some (RaiseAbove x)) = x ∷ []
effect_floor (Some JoinBefore) = []
effect_floor (Some JoinAfter) = []

-- The bound that it lowers the range below, if it does.
abbrev pub effect_ceiling : Option Effect → List ℤ
effect_ceiling None = []
effect_ceiling (Some (LowerBelow x)) = x ∷ []
effect_ceiling (Some (RaiseAbove x)) = []
effect_ceiling (Some JoinBefore) = []
effect_ceiling (Some JoinAfter) = []

-- Whether it puts the other row on the before list.
abbrev pub is_before : Option Effect → Bool
is_before None = false
is_before (Some (LowerBelow x)) = false
is_before (Some (RaiseAbove x)) = false
is_before (Some JoinBefore) = true
is_before (Some JoinAfter) = false

-- Whether it puts the other row on the after list.
abbrev pub is_after : Option Effect → Bool
is_after None = false
is_after (Some (LowerBelow x)) = false
is_after (Some (RaiseAbove x)) = false
is_after (Some JoinBefore) = false
is_after (Some JoinAfter) = true

-- What follows from a note; notes of other grounds say nothing here.
abbrev pub effect_among : List Row → ℕ → ℕ → Note → Option Effect
effect_among rows t g n =
    cond (ground_of n.key == g) (effect_with n t (row_of rows (other_party n t) g)) None

-- What the notes of a transaction here raise its range above.
abbrev pub note_floors : List Row → List Note → ℕ → ℕ → List ℤ
note_floors rows notes t g = flat_map (λ n. effect_floor (effect_among rows t g n)) notes

-- What they lower it below.
abbrev pub note_ceilings : List Row → List Note → ℕ → ℕ → List ℤ
note_ceilings rows notes t g = flat_map (λ n. effect_ceiling (effect_among rows t g n)) notes

-- Whether some note puts a row on a list.
abbrev pub joins_among : (Option Effect → Bool) → List Row → List Note → ℕ → ℕ → Row → Bool
joins_among on rows notes t g r =
    (r.ground == g) && list_any (λ n. on (effect_among rows t g n) && other_party n t == r.transaction) notes

-- The lowers of the before rows.
abbrev pub befores_among : List Row → List Note → ℕ → ℕ → List ℤ
befores_among rows notes t g = map (λ r. r.lower) (filter (joins_among is_before rows notes t g) rows)

-- The uppers of the after rows.
abbrev pub afters_among : List Row → List Note → ℕ → ℕ → List ℤ
afters_among rows notes t g = map (λ r. r.upper) (filter (joins_among is_after rows notes t g) rows)

-- A row after the range from l to u was taken: one that is before stays below l, one that is after above u.
abbrev pub pushed_by : Bool → Bool → ℤ × ℤ → Row → Row
pushed_by before after range r =
    with_bounds r r.state
    (cond after (raise r.lower range.1) r.lower)
    (cond before (lower r.upper range.0) r.upper)

-- Rows make way as the notes put them on the two lists.
abbrev pub pushed_among : List Row → List Note → ℕ → ℕ → ℤ × ℤ → Row → Row
pushed_among rows notes t g range r =
    pushed_by (joins_among is_before rows notes t g r) (joins_among is_after rows notes t g r) range r
