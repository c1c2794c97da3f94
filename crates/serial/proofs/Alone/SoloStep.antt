-- Each call of a transaction that makes the only ones leaves it decided, or still alone.
--   SoloOrDecided t found m   t is decided, or still alone
--   solo_step                 what each call of t leaves
use Rattle.protocol.specs.Replies.{Response}
use Rattle.std.proofs.Common.{◌≡◌, ℕ, true, cond, ◌&&◌, eqb, ◌⊎◌, [], ◌∷◌, refl, subst, inl, inr, ⊎_elim}
use Rattle.std.proofs.lemmas.Bool.{and_from, eq-eqb}
use Rattle.std.specs.List.{AllByRecursion}
use Rattle.store.specs.Stores.{Cells}
use Rattle.lines.specs.declared.transaction.Decision.TheVariants as decision
use Rattle.protocol.specs.Calls.{step, done_response, value_response, verdict_response, decide_response, withdraw_response}
use Rattle.protocol.specs.Decisions.{decision_by, with_settlement}
use Rattle.protocol.specs.Model.{Model, Chooses}
use Rattle.protocol.specs.declared.call.Call.{Call}
use Rattle.protocol.specs.declared.call.Call.TheVariants as call
use Rattle.serial.specs.Alone.{caller, key_in, IsFresh}
use Rattle.policy.specs.Ranges.{Meaning}
use Rattle.serial.proofs.Outcomes.Transactions.{begin_cases, decide_cases, withdraw_cases}
use Rattle.serial.proofs.Outcomes.Accesses.{read_cases, prewrite_cases}
use Rattle.serial.proofs.Outcomes.AtGrounds.{validate_cases, settle_cases}
use Rattle.serial.proofs.Outcomes.Checks.{running_is}
use Rattle.serial.proofs.Alone.Decided.{IsDecided, now_decided, settled_decided, same_decided, decided_step}
use Rattle.serial.proofs.Alone.Solo.{Solo, same_books, read_solo, prewrite_solo, again_solo}
use Rattle.serial.proofs.Alone.SoloPass.{never_fails, pass_solo}

module _ (t : ℕ) (found : Cells) where
  -- t is decided, or still alone.
  abbrev pub SoloOrDecided : Model → Type 0
  SoloOrDecided m = IsDecided t m ⊎ Solo t found m

  -- The key that an accepted read or prewrite of t names.
  own_key : (k : ℕ) → AllByRecursion (IsFresh found) (cond (eqb t t && true) (k ∷ []) []) → IsFresh found k
  own_key k f = (subst (λ b. AllByRecursion (IsFresh found) (cond b (k ∷ []) [])) (and_from (eqb t t) true (eq-eqb t t refl) refl) f).0

  module _ (P : Chooses) (means : Meaning P) (m : Model) where
    -- Each call of t, with the keys that its reply says it named.
    abbrev ThenSolo : Call → Response → Model → Type 0
    ThenSolo c a n = AllByRecursion (IsFresh found) (key_in t c a) → SoloOrDecided n

    module _ (s : Solo t found m) where
      -- While it is alone.
      own_step : (c : Call) → caller c ≡ t → ThenSolo c (step P m c).1 (step P m c).0
      own_step (call.Begin u) e = begin_cases m u (λ o. ThenSolo (call.Begin u) (done_response o.1) o.0) (λ _ _. inr s) (λ _ _. inr (same_books t found m s _))
      own_step (call.Read u k) e =
          rw e (read_cases m t k (λ o. ThenSolo (call.Read t k) (value_response o.1) o.0) (λ _ _. inr s) (λ _ _ _ _. inr s)
          (λ c _ at _ none _ f. inr (read_solo t found m s k c at none (own_key k f))))
      own_step (call.Prewrite u k v) e =
          rw e (prewrite_cases m t k v (λ o. ThenSolo (call.Prewrite t k v) (done_response o.1) o.0) (λ _ _. inr s)
          (λ w _ _ _ f. inr (again_solo t found m s k v w (own_key k f))) (λ c _ _ _ _ f. inr (prewrite_solo t found m s k v (own_key k f))))
      own_step (call.Validate u g) e =
          rw e (validate_cases m t g P (λ o. ThenSolo (call.Validate t g) (verdict_response o.1) o.0) (λ _ _. inr s)
          (λ r _ at _ q _. absurd (never_fails t found m s P g r at q))
          (λ r _ at run _ _. inr (pass_solo t found m s P g r at means (running_is r run))))
      own_step (call.Decide u) e =
          rw e (decide_cases m t (λ o. ThenSolo (call.Decide t) (decide_response o.1) o.0) (λ _ _. inr s)
          (λ now _ _. inl (now_decided t m (decision_by m t) now)))
      own_step (call.Withdraw u) e =
          rw e (withdraw_cases m t (λ o. ThenSolo (call.Withdraw t) (withdraw_response o.1) o.0) (λ _ _. inr s)
          (λ now _. inl (now_decided t m decision.Aborted now)))
      own_step (call.Settle u g) e =
          rw e (settle_cases m t g (λ o. ThenSolo (call.Settle t g) (done_response o.1) o.0) (λ _ _. inr s)
          (λ d r now _ _ _. inl (same_decided t m (with_settlement m t g r d) (settled_decided t m d now) refl)))

    pub solo_step : (c : Call) → caller c ≡ t → SoloOrDecided m → ThenSolo c (step P m c).1 (step P m c).0
    solo_step c e n f = ⊎_elim (λ (x : IsDecided t m). inl (decided_step t P m c e x)) (λ (s : Solo t found m). own_step s c e f) n
