-- What the ledger says of a decision and of a settlement is what they leave in the books.
--   settled_shows   a row that was settled shows what its transaction's stamp says
--   replied_stamp   the stamp that a decide replies is the decision's
use Rattle.std.proofs.Common.{◌≡◌, true, pos, Some, None, Ok, Option, sym, refl, ap, ◌∙◌}
use Rattle.base.specs.declared.stamp.Stamp.{Stamp}
use Rattle.lines.specs.Rows.{moved_row_in, moved_row}
use Rattle.lines.specs.declared.row.Event.{Event}
use Rattle.lines.specs.declared.row.Event.TheVariants.{Abort, Commit}
use Rattle.lines.specs.declared.row.Row.{Row}
use Rattle.lines.specs.declared.row.State.{State}
use Rattle.lines.specs.declared.row.State.TheVariants as state
use Rattle.lines.specs.declared.transaction.Decision.{Decision}
use Rattle.lines.specs.declared.transaction.Decision.TheVariants as decision
use Rattle.lines.specs.declared.transaction.Transaction.{Transaction}
use Rattle.protocol.specs.Calls.{decision_reply}
use Rattle.protocol.specs.Checks.{event_of, event_of_line}
use Rattle.serial.specs.Ledger.{stamp_in}
use Rattle.serial.proofs.Ledger.Fates.{Past, Gone, settled_fate, stamp_or}
use Rattle.serial.proofs.Ledger.Linked.{row_fate, decided_stamp, line_stamp}

-- A row that was settled shows what its transaction's stamp says.
pub settled_shows : (o : Option Transaction) (e : Event) (r : Row) → event_of_line o ≡ Ok e → (moved_row r e).1 ≡ Ok tt
    → settled_fate (line_stamp o) ≡ row_fate (Some (moved_row r e).0)
settled_shows None e r q ok = absurd cc
settled_shows (Some x) e r q ok = go x.decision q
  where
    committed : (c : Stamp) (s : State) → (moved_row_in r s (Commit c)).1 ≡ Ok tt
        → Past true (pos c.number) (pos c.number) ≡ row_fate (Some (moved_row_in r s (Commit c)).0)
    committed c state.Running d = absurd cc
    committed c state.Validated d = refl
    committed c state.Committed d = absurd cc
    committed c state.Aborted d = absurd cc

    aborted : (s : State) → (moved_row_in r s Abort).1 ≡ Ok tt → Gone ≡ row_fate (Some (moved_row_in r s Abort).0)
    aborted state.Running d = refl
    aborted state.Validated d = refl
    aborted state.Committed d = absurd cc
    aborted state.Aborted d = absurd cc

    go : (d : Option Decision) → event_of d ≡ Ok e → settled_fate (decided_stamp d) ≡ row_fate (Some (moved_row r e).0)
    go None d = absurd cc
    go (Some (decision.Committed c)) d =
        let i : e ≡ Commit c = cc in
        let ok' : (moved_row r (Commit c)).1 ≡ Ok tt = ap (λ v. (moved_row r v).1) (sym i) ∙ ok in
        rw i (committed c r.state ok')
    go (Some decision.Aborted) d =
        let i : e ≡ Abort = cc in
        let ok' : (moved_row r Abort).1 ≡ Ok tt = ap (λ v. (moved_row r v).1) (sym i) ∙ ok in
        rw i (aborted r.state ok')

-- The stamp that a decide replies is the decision's.
pub replied_stamp : (d : Decision) → stamp_or (stamp_in (Ok (decision_reply d))) None ≡ decided_stamp (Some d)
replied_stamp (decision.Committed c) = refl
replied_stamp decision.Aborted = refl
