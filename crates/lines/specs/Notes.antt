-- What a note means for a validation.
--   side_of n t        what the note n says of the transaction t, if anything
--   effect_of n t r    what follows from n for t, if anything does, where r is the other party's row
use Rattle.std.specs.Prelude.{ℕ, cond, ◌||◌, ◌==◌, Some, None, Option}
use Rattle.std.specs.Option.{option_and_then}
use Rattle.lines.specs.declared.note.Effect.{Effect}
use Rattle.lines.specs.declared.note.Effect.TheVariants.{LowerBelow, RaiseAbove, JoinBefore, JoinAfter}
use Rattle.lines.specs.declared.note.Note.{Note}
use Rattle.lines.specs.declared.note.Order.{Order}
use Rattle.lines.specs.declared.note.Order.TheVariants as order
use Rattle.lines.specs.declared.note.Side.{Side}
use Rattle.lines.specs.declared.note.Side.TheVariants.{Earlier, Later, Apart}
use Rattle.lines.specs.declared.row.Row.{Row}
use Rattle.lines.specs.declared.row.State.{State}
use Rattle.lines.specs.declared.row.State.TheVariants.{Running, Validated, Committed, Aborted}

-- The side of a transaction by the note's order and its two parties; none of a third.
abbrev pub side_by : Order → ℕ → ℕ → ℕ → Option Side
side_by order.Before first second t = cond (first == t) (Some Earlier) (cond (second == t) (Some Later) None)
side_by order.Apart first second t = cond (first == t || second == t) (Some Apart) None

-- What a note says of a transaction. A note of a transaction with itself, which no run writes, says nothing.
abbrev pub side_of : Note → ℕ → Option Side
side_of n t = cond (n.first == n.second) None (side_by n.order n.first n.second t)

-- The table: the side of the transaction, then the state of the other party's row. An Aborted row is ignored.
abbrev pub effect_by : Side → State → Row → Option Effect
effect_by Earlier Running r = Some JoinAfter
effect_by Earlier Validated r = Some (LowerBelow r.lower)
effect_by Earlier Committed r = Some (LowerBelow r.lower)
effect_by Earlier Aborted r = None
effect_by Later Running r = Some JoinBefore
effect_by Later Validated r = Some (RaiseAbove r.upper)
effect_by Later Committed r = Some (RaiseAbove r.upper)
effect_by Later Aborted r = None
effect_by Apart Running r = Some JoinAfter
effect_by Apart Validated r = Some (RaiseAbove r.upper)
effect_by Apart Committed r = Some (RaiseAbove r.upper)
effect_by Apart Aborted r = None

-- What follows from a note: nothing where it says nothing of the transaction.
abbrev pub effect_of : Note → ℕ → Row → Option Effect
effect_of n t r = option_and_then (λ s. effect_by s r.state r) (side_of n t)
