-- What can come of a call that begins or decides a transaction: it is refused, or it leaves the register that the rules say.
--   begin_cases Q ..      Q holds of the outcome of a begin if it holds of each way in which it can end
--   decide_cases Q ..     so of a decide
--   withdraw_cases Q ..   and of a withdraw
use Rattle.std.proofs.Common.{◌≡◌, ℕ, [], ◌∷◌, ◌++◌, None, Ok, Err}
use Rattle.base.specs.declared.refusal.Refusal.{Refusal}
use Rattle.lines.specs.declared.transaction.Decision.{Decision}
use Rattle.lines.specs.declared.transaction.Decision.TheVariants.{Aborted}
use Rattle.protocol.specs.Calls.{begin, decide, withdraw}
use Rattle.protocol.specs.Checks.{has_room, check_that, check_open, check_none_running, check_number}
use Rattle.protocol.specs.Decisions.{decision_by, with_decision}
use Rattle.protocol.specs.Model.{Model, with_transactions}
use Rattle.serial.proofs.Outcomes.Checks.{Outcome, after_cases}

module _ (m : Model) (t : ℕ) where
  -- The ways in which a begin can end.
  pub begin_cases : (Q : Outcome Unit → Type 0) → ((e : Refusal) → Q (m, Err e))
      → (check_number m t ≡ Ok tt → Q (with_transactions m (m.transactions ++ record { number = t; decision = None } ∷ []), Ok tt))
      → Q (begin m t)
  begin_cases Q refused done =
      after_cases Q m (check_number m t) _ refused (λ _ a.
      after_cases Q m (check_that (has_room m.transactions m.rooms.transactions 1) 2) _ refused (λ _ _. done a))

  -- Those of a decide.
  pub decide_cases : (Q : Outcome Decision → Type 0) → ((e : Refusal) → Q (m, Err e))
      → (check_open m t ≡ Ok tt → check_none_running m t ≡ Ok tt → Q (with_decision m t (decision_by m t), Ok (decision_by m t)))
      → Q (decide m t)
  decide_cases Q refused done =
      after_cases Q m (check_open m t) _ refused (λ _ a. after_cases Q m (check_none_running m t) _ refused (λ _ b. done a b))

  -- Those of a withdraw.
  pub withdraw_cases : (Q : Outcome Unit → Type 0) → ((e : Refusal) → Q (m, Err e))
      → (check_open m t ≡ Ok tt → Q (with_decision m t Aborted, Ok tt)) → Q (withdraw m t)
  withdraw_cases Q refused done = after_cases Q m (check_open m t) _ refused (λ _ a. done a)
