-- What follows from a note, by what it says of the transaction and how far the other party has come.
--   ignored                           an Aborted other party changes nothing
--   earlier_past, earlier_running     a transaction that comes earlier stays below, or is waited for by, the other
--   later_past, later_running         one that comes later stays above, or waits for, the other
--   apart_past, apart_running         one that is apart goes after those that passed, and before those that did not
--   uninvolved                        a note of two others changes nothing
--   side_first, side_second, side_apart   on which side of a note its parties are
use Rattle.std.proofs.Common.{◌≡◌, ℕ, true, false, ◌||◌, eqb, Some, None, arith}
use Rattle.lines.specs.declared.note.Effect.TheVariants.{LowerBelow, RaiseAbove, JoinBefore, JoinAfter}
use Rattle.lines.specs.declared.note.Note.{Note}
use Rattle.lines.specs.declared.note.Order.TheVariants as order
use Rattle.lines.specs.declared.note.Side.TheVariants.{Earlier, Later, Apart}
use Rattle.lines.specs.declared.row.Row.{Row}
use Rattle.lines.specs.declared.row.State.TheVariants.{Running, Aborted}
use Rattle.lines.specs.Notes.{side_of, effect_of}
use Rattle.lines.specs.Rows.{is_past}

module _ (n : Note) (t : ℕ) (r : Row) where
  pub ignored : r.state ≡ Aborted → effect_of n t r ≡ None
  ignored e = grind arith

  pub earlier_past : side_of n t ≡ Some Earlier → is_past r.state ≡ true → effect_of n t r ≡ Some (LowerBelow r.lower)
  earlier_past e p = grind arith

  pub earlier_running : side_of n t ≡ Some Earlier → r.state ≡ Running → effect_of n t r ≡ Some JoinAfter
  earlier_running e p = grind arith

  pub later_past : side_of n t ≡ Some Later → is_past r.state ≡ true → effect_of n t r ≡ Some (RaiseAbove r.upper)
  later_past e p = grind arith

  pub later_running : side_of n t ≡ Some Later → r.state ≡ Running → effect_of n t r ≡ Some JoinBefore
  later_running e p = grind arith

  pub apart_past : side_of n t ≡ Some Apart → is_past r.state ≡ true → effect_of n t r ≡ Some (RaiseAbove r.upper)
  apart_past e p = grind arith

  pub apart_running : side_of n t ≡ Some Apart → r.state ≡ Running → effect_of n t r ≡ Some JoinAfter
  apart_running e p = grind arith

  pub uninvolved : eqb n.first t ≡ false → eqb n.second t ≡ false → effect_of n t r ≡ None
  uninvolved f s = grind arith

module _ (n : Note) (t : ℕ) where
  pub side_first : n.order ≡ order.Before → eqb n.first n.second ≡ false → eqb n.first t ≡ true → side_of n t ≡ Some Earlier
  side_first o d f = grind arith

  pub side_second : n.order ≡ order.Before → eqb n.first n.second ≡ false → eqb n.first t ≡ false → eqb n.second t ≡ true
      → side_of n t ≡ Some Later
  side_second o d f s = grind arith

  pub side_apart : n.order ≡ order.Apart → eqb n.first n.second ≡ false → (eqb n.first t || eqb n.second t) ≡ true
      → side_of n t ≡ Some Apart
  side_apart o d e = grind arith
