-- A transaction that is decided.
--   IsDecided t m     t is decided
--   not_open          it does not pass the check that it is open
--   now_decided       it is, once a decision is taken
--   settled_decided   whoever is settled was decided
--   same_decided      it stays so while the transaction lines stay
--   decided_step      so it stays through each call of t
use Rattle.std.proofs.Common.{◌≡◌, ℕ, eqb, List, ◌++◌, Some, None, Ok, Option, sym, refl, ap, ◌∙◌, subst}
use Rattle.std.proofs.lemmas.Bool.{eq-eqb}
use Rattle.lines.specs.declared.row.Event.{Event}
use Rattle.lines.specs.declared.transaction.Decision.{Decision}
use Rattle.lines.specs.declared.transaction.Transaction.{Transaction}
use Rattle.book.specs.Books.{line_with}
use Rattle.protocol.specs.Calls.{step, prewrite_by}
use Rattle.protocol.specs.Checks.{event_of, check_open, check_open_line, check_open_decision, event_decided, event_of_line}
use Rattle.protocol.specs.Decisions.{with_settlement, with_decision}
use Rattle.protocol.specs.Model.{Model, Chooses, transaction_of, with_transactions}
use Rattle.protocol.specs.Noting.{with_read, with_prewrite}
use Rattle.protocol.specs.Validation.{failed, passed}
use Rattle.protocol.specs.declared.call.Call.{Call}
use Rattle.protocol.specs.declared.call.Call.TheVariants as call
use Rattle.serial.specs.Alone.{caller}
use Rattle.std.specs.Option.{option_or}
use Rattle.serial.proofs.Lines.Found.{find_append, find_replaced}
use Rattle.serial.proofs.Outcomes.AtGrounds.{chosen_range, validate_cases, settle_cases}
use Rattle.serial.proofs.Outcomes.Transactions.{begin_cases, decide_cases, withdraw_cases}
use Rattle.serial.proofs.Outcomes.Accesses.{read_cases, prewrite_cases}

-- t is decided.
pub record IsDecided (t : ℕ) (m : Model) : Type 0 where
  pub line : Transaction
  pub at : transaction_of m t ≡ Some line
  pub decided : check_open_decision line.decision ≡ Ok tt → ⊥

module _ (t : ℕ) where
  -- What a decision that is taken leaves: t is closed.
  pub now_decided : (m : Model) (d : Decision) → check_open m t ≡ Ok tt → IsDecided t (with_decision m t d)
  now_decided m d e = go (transaction_of m t) refl e
    where
      go : (o : Option Transaction) → transaction_of m t ≡ o → check_open_line o ≡ Ok tt → IsDecided t (with_decision m t d)
      go None s q = absurd cc
      go (Some x) s q = record {
        line = record { number = t; decision = Some d };
        at = find_replaced eqb (λ y. y.number) t (record { number = t; decision = Some d }) x (eq-eqb t t refl) m.transactions s;
        decided = λ n. absurd cc;
      }

  -- Whoever is settled was decided.
  pub settled_decided : (m : Model) (e : Event) → event_decided m t ≡ Ok e → IsDecided t m
  settled_decided m e q = go (transaction_of m t) refl q
    where
      not_open : (d : Option Decision) → event_of d ≡ Ok e → check_open_decision d ≡ Ok tt → ⊥
      not_open None a b = absurd cc
      not_open (Some d) a b = absurd cc

      go : (o : Option Transaction) → transaction_of m t ≡ o → event_of_line o ≡ Ok e → IsDecided t m
      go None s a = absurd cc
      go (Some x) s a = record { line = x; at = s; decided = not_open x.decision a }

  -- A transaction that is closed is not open.
  pub not_open : (m : Model) → IsDecided t m → check_open m t ≡ Ok tt → ⊥
  not_open m c e = c.decided (sym (ap check_open_line c.at) ∙ e)

  -- Whoever is closed stays so.
  pub same_decided : (m n : Model) → IsDecided t m → n.transactions ≡ m.transactions → IsDecided t n
  same_decided m n c e =
      record { line = c.line; at = ap (line_with eqb (λ x. x.number) t) e ∙ c.at; decided = c.decided }

  pub more_decided : (m : Model) (xs : List Transaction) → IsDecided t m → IsDecided t (with_transactions m (m.transactions ++ xs))
  more_decided m xs c = record {
    line = c.line;
    at =
        find_append eqb (λ x. x.number) t m.transactions xs
        ∙ ap (λ o. option_or o (line_with eqb (λ x. x.number) t xs)) c.at;
    decided = c.decided;
  }

  module _ (P : Chooses) (m : Model) where
    -- So each call of t leaves it closed.
    pub decided_step : (c : Call) → caller c ≡ t → IsDecided t m → IsDecided t (step P m c).0
    decided_step (call.Begin u) e c = begin_cases m u (λ o. IsDecided t o.0) (λ _. c) (λ _. more_decided m _ c)
    decided_step (call.Read u k) e c =
        read_cases m u k (λ o. IsDecided t o.0) (λ _. c) (λ _ _ _. c) (λ x _ _ _ _ _. same_decided m (with_read m u k x) c refl)
    decided_step (call.Prewrite u k v) e c =
        prewrite_cases m u k v (λ o. IsDecided t o.0) (λ _. c) (λ w _ _ _. same_decided m (prewrite_by (Some w) m u k v).0 c refl)
        (λ x _ _ _ _. same_decided m (with_prewrite m u k v) c refl)
    decided_step (call.Validate u g) e c =
        validate_cases m u g P (λ o. IsDecided t o.0) (λ _. c) (λ r _ _ _ _. same_decided m (failed m u g r) c refl)
        (λ r _ _ _ _. same_decided m (passed m u g r (chosen_range m u g P r)) c refl)
    decided_step (call.Decide u) e c =
        decide_cases m u (λ o. IsDecided t o.0) (λ _. c) (λ now _. absurd (not_open m c (subst (λ v. check_open m v ≡ Ok tt) e now)))
    decided_step (call.Withdraw u) e c =
        withdraw_cases m u (λ o. IsDecided t o.0) (λ _. c) (λ now. absurd (not_open m c (subst (λ v. check_open m v ≡ Ok tt) e now)))
    decided_step (call.Settle u g) e c =
        settle_cases m u g (λ o. IsDecided t o.0) (λ _. c) (λ d r _ _ _. same_decided m (with_settlement m u g r d) c refl)
