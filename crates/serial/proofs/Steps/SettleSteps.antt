-- A settlement keeps the invariant, by what was decided; and what was decided suits every ground.
--   suiting         what was decided suits every ground
--   sound_settled   the invariant is kept
use Rattle.std.proofs.Common.{◌≡◌, ℕ, false, ◌∷◌, pos, ◌≤ℤ◌, Some, None, Ok, Option, sym, refl, ap, ◌∙◌, subst}
use Rattle.std.proofs.lemmas.Bool.{true≢false}
use Rattle.store.specs.Stores.{Cells}
use Rattle.base.specs.declared.stamp.Stamp.{Stamp}
use Rattle.lines.specs.Locks.{row_of}
use Rattle.lines.specs.Rows.{moved_row_in, moved_row}
use Rattle.lines.specs.declared.row.Event.{Event}
use Rattle.lines.specs.declared.row.Event.TheVariants.{Abort, Commit}
use Rattle.lines.specs.declared.row.Row.{Row}
use Rattle.lines.specs.declared.row.State.{State}
use Rattle.lines.specs.declared.row.State.TheVariants as state
use Rattle.lines.specs.declared.transaction.Decision.{Decision}
use Rattle.lines.specs.declared.transaction.Decision.TheVariants as decision
use Rattle.lines.specs.declared.transaction.Transaction.{Transaction}
use Rattle.protocol.specs.Checks.{event_of, is_running, is_aborted, event_decided, event_of_line, check_none_running}
use Rattle.protocol.specs.Decisions.{decision_by, with_settlement}
use Rattle.protocol.specs.Model.{Model, transaction_of}
use Rattle.protocol.specs.declared.call.Call.TheVariants as call
use Rattle.protocol.specs.declared.call.Reply.TheVariants as reply
use Rattle.serial.specs.Ledger.{History}
use Rattle.serial.proofs.Steps.Deciding.{committed_within, not_running}
use Rattle.serial.proofs.Ledger.Fates.{fate, stamp_of, Unsettled}
use Rattle.serial.proofs.Ledger.Linked.{Linked, fate_by, row_fate, decided_stamp, line_stamp}
use Rattle.serial.proofs.Steps.AbortOrCommit.{settles_gone, settles_at}
use Rattle.serial.proofs.Invariant.{Sound, view, Suits, Stamped}

module _ (m : Model) (h : History) (L : Linked h m) where
  -- The stamp of a decision suits every ground.
  pub suiting : (t : ℕ) (c : Stamp) → check_none_running m t ≡ Ok tt → decision_by m t ≡ decision.Committed c → (g : ℕ) → Suits c.number (fate h t g)
  suiting t c none is g = subst (Suits c.number) (sym (L.rows t g)) (go (row_of m.rows t g) refl)
    where
      by_state : (r : Row) (s : State) → is_running s ≡ false
          → (is_aborted s ≡ false) × (r.lower ≤ℤ pos c.number) × (pos c.number ≤ℤ r.upper)
          → Suits c.number (fate_by s r.lower r.upper)
      by_state r state.Running n p = absurd (true≢false n)
      by_state r state.Validated n p = (p.1, p.2)
      by_state r state.Committed n p = (p.1, p.2)
      by_state r state.Aborted n p = absurd (true≢false p.0)

      go : (o : Option Row) → row_of m.rows t g ≡ o → Suits c.number (row_fate o)
      go None e = tt
      go (Some r) e = by_state r r.state (not_running m t g r none e) (committed_within m t g c r is e)

module _ (first : Cells) (m : Model) (h : History) (L : Linked h m) (S : Sound first (view h m)) (stamped : Stamped h) where
  -- What a settlement does by the decision.
  pub sound_settled : (t g : ℕ) (r : Row) (e : Event) → event_decided m t ≡ Ok e → row_of m.rows t g ≡ Some r → (moved_row r e).1 ≡ Ok tt
      → Sound first (view ((call.Settle t g, (Ok reply.Done)) ∷ h) (with_settlement m t g r e))
  sound_settled t g r e dec at ok = by_line (transaction_of m t) refl dec
    where
      shown : (s : State) → r.state ≡ s → fate h t g ≡ fate_by s r.lower r.upper
      shown s i = L.rows t g ∙ ap row_fate at ∙ ap (λ x. fate_by x r.lower r.upper) i

      aborting : (s : State) → r.state ≡ s → (moved_row_in r s Abort).1 ≡ Ok tt → Unsettled (fate h t g)
      aborting state.Running i q = subst Unsettled (sym (shown state.Running i)) tt
      aborting state.Validated i q = subst Unsettled (sym (shown state.Validated i)) tt
      aborting state.Committed i q = absurd cc
      aborting state.Aborted i q = absurd cc

      committing : (c : Stamp) → stamp_of h t ≡ Some c.number → (s : State) → r.state ≡ s → (moved_row_in r s (Commit c)).1 ≡ Ok tt
          → Sound first (view ((call.Settle t g, (Ok reply.Done)) ∷ h) (with_settlement m t g r (Commit c)))
      committing c i state.Running j q = absurd cc
      committing c i state.Validated j q =
          let p = subst (Suits c.number) (shown state.Validated j) (stamped.suits t c.number g i) in
          settles_at first m h L S t g r c r.lower r.upper i (shown state.Validated j) p.0 p.1
      committing c i state.Committed j q = absurd cc
      committing c i state.Aborted j q = absurd cc

      by_decision : (x : Transaction) → transaction_of m t ≡ Some x → (d : Option Decision) → x.decision ≡ d → event_of d ≡ Ok e
          → Sound first (view ((call.Settle t g, (Ok reply.Done)) ∷ h) (with_settlement m t g r e))
      by_decision x i None j q = absurd cc
      by_decision x i (Some (decision.Committed c)) j q =
          let s : stamp_of h t ≡ Some c.number = L.stamps t ∙ ap line_stamp i ∙ ap decided_stamp j in
          let is : Commit c ≡ e = cc in
          subst (λ v. Sound first (view ((call.Settle t g, (Ok reply.Done)) ∷ h) (with_settlement m t g r v))) is
          (committing c s r.state refl (subst (λ v. (moved_row r v).1 ≡ Ok tt) (sym is) ok))
      by_decision x i (Some decision.Aborted) j q =
          let s : stamp_of h t ≡ None = L.stamps t ∙ ap line_stamp i ∙ ap decided_stamp j in
          let is : Abort ≡ e = cc in
          subst (λ v. Sound first (view ((call.Settle t g, (Ok reply.Done)) ∷ h) (with_settlement m t g r v))) is
          (settles_gone first m h L S t g r s (aborting r.state refl (subst (λ v. (moved_row r v).1 ≡ Ok tt) (sym is) ok)))

      by_line : (o : Option Transaction) → transaction_of m t ≡ o → event_of_line o ≡ Ok e
          → Sound first (view ((call.Settle t g, (Ok reply.Done)) ∷ h) (with_settlement m t g r e))
      by_line None i q = absurd cc
      by_line (Some x) i q = by_decision x i x.decision refl q
