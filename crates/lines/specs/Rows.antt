-- A row and how it moves.
--   new_row t g    the row of transaction t at ground g as it is first written
--   moved_row r e      the row r after the event e, and what the event is answered
--   is_past s         a row in state s passed its validation and was not aborted since
--   IsBounded r      the bounds of r are within their limits
use Rattle.std.specs.Prelude.{ℕ, ◌+◌, Bool, true, false, ℤ, pos, negsuc, ◌≤ℤ◌, Ok, Result}
use Rattle.base.specs.declared.refusal.Refusal.{Refusal}
use Rattle.base.specs.declared.stamp.TheConstants.{TOP}
use Rattle.base.specs.Refusals.{refused}
use Rattle.lines.specs.declared.row.Event.{Event}
use Rattle.lines.specs.declared.row.Event.TheVariants.{Pass, Fail, Abort, Commit}
use Rattle.lines.specs.declared.row.Row.{Row}
use Rattle.lines.specs.declared.row.State.{State}
use Rattle.lines.specs.declared.row.State.TheVariants.{Running, Validated, Committed, Aborted}

-- Running, with every stamp from 0 to TOP.
abbrev pub new_row : (transaction ground : ℕ) → Row
new_row t g = record { transaction = t; ground = g; state = Running; lower = pos 0; upper = pos TOP }

-- The row in another state, with its bounds.
abbrev pub in_state : Row → State → Row
in_state r s = record r { state = s }

-- The row in another state, with other bounds.
abbrev pub with_bounds : Row → State → ℤ → ℤ → Row
with_bounds r s l u = record r { state = s; lower = l; upper = u }

-- A row whose validation passed, and which was not aborted since.
abbrev pub is_past : State → Bool
is_past Running = false
is_past Validated = true
is_past Committed = true
is_past Aborted = false

-- What comes of an event in each state: 5, 8 and 10 are refusals by their numbers. A refused event leaves the row as it was; so does the one
-- that no run brings about, a Running row settled as committed.
abbrev pub moved_row_in : Row → State → Event → Row × Result Unit Refusal
moved_row_in r Running (Pass l u) = (with_bounds r Validated l u, Ok tt)
moved_row_in r Running Fail = (in_state r Aborted, Ok tt)
moved_row_in r Running Abort = (in_state r Aborted, Ok tt)
moved_row_in r Running (Commit c) = (r, refused 8)
moved_row_in r Validated (Pass l u) = (r, refused 5)
moved_row_in r Validated Fail = (r, refused 5)
moved_row_in r Validated Abort = (in_state r Aborted, Ok tt)
moved_row_in r Validated (Commit c) = (with_bounds r Committed (pos c.number) (pos c.number), Ok tt)
moved_row_in r Committed (Pass l u) = (r, refused 5)
moved_row_in r Committed Fail = (r, refused 5)
moved_row_in r Committed Abort = (r, refused 10)
moved_row_in r Committed (Commit c) = (r, refused 10)
moved_row_in r Aborted (Pass l u) = (r, refused 5)
moved_row_in r Aborted Fail = (r, refused 5)
moved_row_in r Aborted Abort = (r, refused 10)
moved_row_in r Aborted (Commit c) = (r, refused 10)

-- The row after an event, and the answer.
abbrev pub moved_row : Row → Event → Row × Result Unit Refusal
moved_row r e = moved_row_in r r.state e

-- A lower bound from 0 to TOP + 1 and an upper bound from -1 to TOP.
pub record IsWithinLimits (l u : ℤ) : Type 0 where
  pub lower_least : pos 0 ≤ℤ l
  pub lower_most : l ≤ℤ pos (TOP + 1)
  pub upper_least : negsuc 0 ≤ℤ u
  pub upper_most : u ≤ℤ pos TOP

-- The bounds of a row are within their limits.
abbrev pub IsBounded : Row → Type 0
IsBounded r = IsWithinLimits r.lower r.upper

-- The range of an event that has one is within its limits.
abbrev pub FitsEvent : Event → Type 0
FitsEvent (Pass l u) = IsWithinLimits l u
FitsEvent Fail = Unit {0}
FitsEvent Abort = Unit {0}
FitsEvent (Commit c) = Unit {0}
