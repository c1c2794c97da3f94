-- Which rows are not live any more: those that failed their validation, and those that were settled.
--   settling       what a decision brings about is an Abort or a Commit
--   settled_dead   a row that was settled is not live
--   failed_dead    nor is one that failed its validation
use Rattle.std.proofs.Common.{◌≡◌, false, Some, None, Ok, Option, ap, arith}
use Rattle.lines.specs.Locks.{is_live}
use Rattle.lines.specs.Rows.{moved_row_in, moved_row}
use Rattle.lines.specs.declared.row.Event.{Event}
use Rattle.lines.specs.declared.row.Event.TheVariants.{Pass, Fail, Abort, Commit}
use Rattle.lines.specs.declared.row.Row.{Row}
use Rattle.lines.specs.declared.row.State.{State}
use Rattle.lines.specs.declared.row.State.TheVariants.{Running}
use Rattle.lines.specs.declared.transaction.Decision.{Decision}
use Rattle.lines.specs.declared.transaction.Decision.TheVariants as decision
use Rattle.lines.specs.declared.transaction.Transaction.{Transaction}
use Rattle.protocol.specs.Checks.{event_of, event_of_line}

-- The events that a decision brings about.
abbrev pub Settling : Event → Type 0
Settling (Pass l u) = ⊥
Settling Fail = ⊥
Settling Abort = Unit {0}
Settling (Commit c) = Unit {0}

-- The event of a decided transaction is one of those.
pub settling : (o : Option Transaction) (e : Event) → event_of_line o ≡ Ok e → Settling e
settling None e q = absurd cc
settling (Some x) e q = go x.decision q
  where
    go : (d : Option Decision) → event_of d ≡ Ok e → Settling e
    go None s = absurd cc
    go (Some (decision.Committed c)) s = let i : e ≡ Commit c = cc in rw i tt
    go (Some decision.Aborted) s = let i : e ≡ Abort = cc in rw i tt

-- A row that was settled is not live.
pub settled_dead : (r : Row) (s : State) (e : Event) → Settling e → (moved_row_in r s e).1 ≡ Ok tt → is_live (moved_row_in r s e).0.state ≡ false
settled_dead r s e n q = grind arith

-- A row that failed its validation is not live.
pub failed_dead : (r : Row) → r.state ≡ Running → is_live (moved_row r Fail).0.state ≡ false
failed_dead r e = ap (λ s. is_live (moved_row_in r s Fail).0.state) e
