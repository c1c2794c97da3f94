-- The ledger and the books say the same after every call.
--   linked_new    they do at a new register
--   linked_step   and after a call, if they did before it
use Rattle.std.proofs.Common.{◌≡◌, false, eqb, [], ◌∷◌, map, ℤ, Some, None, Ok, sym, refl, ap, ◌∙◌}
use Rattle.std.specs.Option.{option_map}
use Rattle.store.specs.Stores.{Cells}
use Rattle.lines.specs.Rows.{moved_row_in}
use Rattle.lines.specs.declared.row.Event.{Event}
use Rattle.lines.specs.declared.row.Event.TheVariants.{Pass, Fail}
use Rattle.lines.specs.declared.transaction.Decision.{Decision}
use Rattle.lines.specs.declared.transaction.Decision.TheVariants as decision
use Rattle.protocol.specs.Calls.{step, decision_reply, done_response, verdict_response, decide_response, withdraw_response}
use Rattle.protocol.specs.Decisions.{decision_by}
use Rattle.protocol.specs.Model.{Model, Chooses, Rooms, new, transaction_of}
use Rattle.protocol.specs.Validation.{pushed}
use Rattle.protocol.specs.declared.call.Call.{Call}
use Rattle.protocol.specs.declared.call.Call.TheVariants as call
use Rattle.serial.specs.Ledger.{History, stamp_in}
use Rattle.serial.proofs.Ledger.Fates.{Past, Gone, settled_fate, stamp_or, fate, stamp_of}
use Rattle.serial.proofs.Ledger.Linked.{Linked, row_fate}
use Rattle.serial.proofs.Ledger.LinkedLines.{open_stamp, begun_stamps, decided_stamps}
use Rattle.serial.proofs.Ledger.Silent.{either}
use Rattle.serial.proofs.Lines.ByKey.{and_true}
use Rattle.serial.proofs.Ledger.LinkedRows.{moved_fates}
use Rattle.serial.proofs.Ledger.PushedRows.{pushed_fates}
use Rattle.serial.proofs.Outcomes.AtGrounds.{chosen_range, validate_cases, settle_cases}
use Rattle.serial.proofs.Outcomes.Transactions.{begin_cases, decide_cases, withdraw_cases}
use Rattle.serial.proofs.Outcomes.Checks.{running_is}
use Rattle.serial.proofs.Lines.RowKeys.{found_key, pushed_rows}
use Rattle.serial.proofs.Ledger.LinkedDecisions.{settled_shows, replied_stamp}
use Rattle.serial.proofs.Ledger.LinkedAccess.{LinkedAfter, refused, linked_read, linked_prewrite}

-- At a new register nothing was said and no line is there.
pub linked_new : (cells : Cells) (rooms : Rooms) → Linked [] (new cells rooms)
linked_new cells rooms = record { rows = λ t g. refl; reads = λ t k. refl; writes = λ t k. refl; stamps = λ t. refl }

module _ (P : Chooses) (m : Model) (h : History) (linked : Linked h m) where
  -- The ledger and the books say the same after every call.
  pub linked_step : (c : Call) → Linked ((c, (step P m c).1) ∷ h) (step P m c).0
  linked_step (call.Begin t) =
      begin_cases m t (LinkedAfter h (call.Begin t) done_response) (refused m h linked (call.Begin t))
      (λ _. record {
        rows = linked.rows;
        reads = linked.reads;
        writes = linked.writes;
        stamps = begun_stamps (stamp_of h) m.transactions t linked.stamps;
      })
  linked_step (call.Read t k) = linked_read m h linked t k
  linked_step (call.Prewrite t k v) = linked_prewrite m h linked t k v
  linked_step (call.Validate t g) =
      validate_cases m t g P (LinkedAfter h (call.Validate t g) verdict_response) (refused m h linked (call.Validate t g))
      (λ r _ at run _. record {
        rows = moved_fates (fate h) m.rows t g linked.rows (λ _ _. Gone) r r Fail at (found_key m.rows t g r at)
            (sym (ap (λ s. row_fate (Some (moved_row_in r s Fail).0)) (running_is r run)));
        reads = linked.reads;
        writes = linked.writes;
        stamps = linked.stamps;
      })
      (λ r _ at run _.
      let range : ℤ × ℤ = chosen_range m t g P r in
      let event : Event = Pass range.0 range.1 in
      record {
        rows = moved_fates (fate h) (map (pushed m t g range) m.rows) t g (pushed_fates m t g (fate h) range linked.rows)
            (λ _ _. Past false range.0 range.1) (pushed m t g range r) r event
            (pushed_rows m t g range m.rows t g ∙ ap (option_map (pushed m t g range)) at) (found_key m.rows t g r at)
            (sym (ap (λ s. row_fate (Some (moved_row_in r s event).0)) (running_is r run)));
        reads = linked.reads;
        writes = linked.writes;
        stamps = linked.stamps;
      })
  linked_step (call.Decide t) =
      decide_cases m t (LinkedAfter h (call.Decide t) decide_response) (refused m h linked (call.Decide t))
      (λ now _.
      let none : stamp_of h t ≡ None = linked.stamps t ∙ open_stamp (transaction_of m t) now in
      let d : Decision = decision_by m t in
      record {
        rows = linked.rows;
        reads = linked.reads;
        writes = linked.writes;
        stamps = decided_stamps (stamp_of h) m.transactions t linked.stamps
            (λ u. stamp_or (stamp_in (Ok (decision_reply d))) (stamp_of h u)) d now
            (ap (stamp_or (stamp_in (Ok (decision_reply d)))) none ∙ replied_stamp d);
      })
  linked_step (call.Withdraw t) =
      withdraw_cases m t (LinkedAfter h (call.Withdraw t) withdraw_response) (refused m h linked (call.Withdraw t))
      (λ now. record {
        rows = linked.rows;
        reads = linked.reads;
        writes = linked.writes;
        stamps = λ u. sym (either (eqb t u) (stamp_of h u) (stamp_of h u) refl)
            ∙ decided_stamps (stamp_of h) m.transactions t linked.stamps (stamp_of h) decision.Aborted now
            (linked.stamps t ∙ open_stamp (transaction_of m t) now) u;
      })
  linked_step (call.Settle t g) =
      settle_cases m t g (LinkedAfter h (call.Settle t g) done_response) (refused m h linked (call.Settle t g))
      (λ e r dec at ok. record {
        rows = λ u j. rw (and_true (eqb t u) (eqb g j))
            (moved_fates (fate h) m.rows t g linked.rows (λ v _. settled_fate (stamp_of h v)) r r e at (found_key m.rows t g r at)
            (ap settled_fate (linked.stamps t) ∙ settled_shows (transaction_of m t) e r dec ok) u j);
        reads = linked.reads;
        writes = linked.writes;
        stamps = linked.stamps;
      })
