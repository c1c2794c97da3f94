-- A row that is Running or Validated belongs to a transaction that is pending there.
--   live_step   if each live row is pending before a call, each is after it
use Rattle.protocol.specs.Replies.{Response}
use Rattle.std.proofs.Common.{◌≡◌, ℕ, true, false, ◌&&◌, eqb, ◌∷◌, map, ℤ, Some, None, Ok, Result, sym, refl, ap, ◌∙◌, Err}
use Rattle.std.proofs.lemmas.Bool.{and_right, and_from, eq-eqb, true≢false}
use Rattle.std.specs.Option.{option_map}
use Rattle.base.specs.Keys.{ground_of}
use Rattle.base.specs.declared.refusal.Refusal.{Refusal}
use Rattle.lines.specs.Locks.{is_live}
use Rattle.lines.specs.declared.row.Event.TheVariants.{Pass, Fail}
use Rattle.protocol.specs.Calls.{step, done_response, value_response, verdict_response, decide_response, withdraw_response}
use Rattle.protocol.specs.Decisions.{decision_by}
use Rattle.protocol.specs.Model.{Model, Chooses, transaction_of}
use Rattle.protocol.specs.Validation.{pushed}
use Rattle.protocol.specs.declared.call.Call.{Call}
use Rattle.protocol.specs.declared.call.Call.TheVariants as call
use Rattle.protocol.specs.declared.call.Reply.TheVariants as reply
use Rattle.serial.specs.Ledger.{History}
use Rattle.serial.proofs.Ledger.Linked.{Linked}
use Rattle.serial.proofs.Ledger.Untouched.{rowless_untouched}
use Rattle.serial.proofs.Outcomes.Checks.{Outcome, running_is}
use Rattle.serial.proofs.Outcomes.AtGrounds.{chosen_range, validate_cases, settle_cases}
use Rattle.serial.proofs.Outcomes.Transactions.{begin_cases, decide_cases, withdraw_cases}
use Rattle.serial.proofs.Outcomes.Accesses.{read_cases, prewrite_cases}
use Rattle.serial.proofs.Lines.RowKeys.{found_key, pushed_rows}
use Rattle.serial.proofs.Pending.DeadRows.{settling, settled_dead, failed_dead}
use Rattle.serial.proofs.Pending.StillPending.{still, refused_not, same_rows, new_row_pending, moved_pending, elsewhere_not, pushed_live}
use Rattle.serial.proofs.Invariant.{LivePending}

module _ (P : Chooses) (m : Model) (h : History) (L : Linked h m) (p : LivePending m.rows h) where
  -- What holds of the rows and the reply after a call.
  abbrev PendingAfter : {B : Type 0} → Call → (Result B Refusal → Response) → Outcome B → Type 0
  PendingAfter c f o = LivePending o.0.rows ((c, f o.1) ∷ h)

  -- An accepted access of t at g touches t there.
  here_touched : (t g : ℕ) → (eqb t t && (eqb g g && true)) ≡ true
  here_touched t g = and_from (eqb t t) _ (eq-eqb t t refl) (and_from (eqb g g) true (eq-eqb g g refl) refl)

  -- A refused call leaves all as it was.
  refused_live : (c : Call) (e : Refusal) → LivePending m.rows ((c, Err e) ∷ h)
  refused_live c e = same_rows c (Err e) m.rows h (refused_not c e) p

  -- Each live row is pending after every call.
  pub live_step : (c : Call) → LivePending (step P m c).0.rows ((c, (step P m c).1) ∷ h)
  live_step (call.Begin t) =
      begin_cases m t (PendingAfter (call.Begin t) done_response) (refused_live (call.Begin t))
      (λ _. same_rows (call.Begin t) (Ok reply.Done) m.rows h (λ _ _. refl) p)
  live_step (call.Read t k) =
      read_cases m t k (PendingAfter (call.Read t k) value_response) (refused_live (call.Read t k))
      (λ r _ _. same_rows (call.Read t k) (value_response (Ok (r.value, r.seen))) m.rows h (λ _ _. refl) p)
      (λ c _ _ _ _ _.
      new_row_pending (call.Read t k) (value_response (Ok (c.value, c.write))) m.rows h t (ground_of k) (λ _ _. refl)
      (here_touched t (ground_of k)) (rowless_untouched h m L t (ground_of k)) p)
  live_step (call.Prewrite t k v) =
      prewrite_cases m t k v (PendingAfter (call.Prewrite t k v) done_response) (refused_live (call.Prewrite t k v))
      (λ w _ _ _. same_rows (call.Prewrite t k v) (Ok reply.Done) m.rows h (λ _ _. refl) p)
      (λ c _ _ _ _.
      new_row_pending (call.Prewrite t k v) (Ok reply.Done) m.rows h t (ground_of k) (λ _ _. refl) (here_touched t (ground_of k)) (rowless_untouched h m L t (ground_of k)) p)
  live_step (call.Validate t g) =
      validate_cases m t g P (PendingAfter (call.Validate t g) verdict_response) (refused_live (call.Validate t g))
      (λ r _ at run _.
      moved_pending (call.Validate t g) (verdict_response (Ok None)) m.rows h t g r r Fail at (found_key m.rows t g r at)
      (λ u j n. elsewhere_not t g u j true n)
      (λ l. absurd (true≢false (sym l ∙ failed_dead r (running_is r run)))) p)
      (λ r _ at run _.
      let range : ℤ × ℤ = chosen_range m t g P r in
      let a : Response = verdict_response (Ok (Some range)) in
      moved_pending (call.Validate t g) a (map (pushed m t g range) m.rows) h t g (pushed m t g range r) r
      (Pass range.0 range.1)
      (pushed_rows m t g range m.rows t g ∙ ap (option_map (pushed m t g range)) at) (found_key m.rows t g r at)
      (λ u j n. elsewhere_not t g u j false n)
      (λ _. still (call.Validate t g) a h t g (and_right (eqb t t) _ (and_right (eqb g g) _ refl)) (p t g r at (ap is_live (running_is r run))))
      (pushed_live m t g range h p))
  live_step (call.Decide t) =
      decide_cases m t (PendingAfter (call.Decide t) decide_response) (refused_live (call.Decide t))
      (λ _ _. same_rows (call.Decide t) (decide_response (Ok (decision_by m t))) m.rows h (λ _ _. refl) p)
  live_step (call.Withdraw t) =
      withdraw_cases m t (PendingAfter (call.Withdraw t) withdraw_response) (refused_live (call.Withdraw t))
      (λ _. same_rows (call.Withdraw t) (withdraw_response (Ok tt)) m.rows h (λ _ _. refl) p)
  live_step (call.Settle t g) =
      settle_cases m t g (PendingAfter (call.Settle t g) done_response) (refused_live (call.Settle t g))
      (λ e r dec at ok.
      moved_pending (call.Settle t g) (Ok reply.Done) m.rows h t g r r e at (found_key m.rows t g r at)
      (λ u j n. elsewhere_not t g u j true n)
      (λ l. absurd (true≢false (sym l ∙ settled_dead r r.state e (settling (transaction_of m t) e dec) ok))) p)
