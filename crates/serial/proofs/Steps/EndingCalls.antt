-- Whatever comes of a validation, a decision, a withdrawal or a settlement, the invariant lasts, and so does what holds of stamps.
--   sound_validate                 whatever comes of a validation
--   sound_decide, sound_withdraw   of a decision, and of a withdrawal
--   sound_settle                   and of a settlement
use Rattle.protocol.specs.Replies.{Response}
use Rattle.std.proofs.Common.{◌≡◌, ℕ, true, false, cond, eqb, [], ◌∷◌, ◌++◌, map, ℤ, Ok, sym, refl, ap, ◌∙◌, subst}
use Rattle.store.specs.Stores.{Cells}
use Rattle.lines.specs.declared.transaction.Decision.{Decision}
use Rattle.lines.specs.declared.transaction.Decision.TheVariants as decision
use Rattle.protocol.specs.Calls.{validate, decide, withdraw, settle, decision_reply, done_response, verdict_response, decide_response, withdraw_response}
use Rattle.protocol.specs.Checks.{check_open, check_none_running}
use Rattle.protocol.specs.Decisions.{decision_by}
use Rattle.protocol.specs.Model.{Model, Chooses}
use Rattle.protocol.specs.declared.call.Call.TheVariants as call
use Rattle.protocol.specs.declared.call.Reply.TheVariants as reply
use Rattle.policy.specs.Ranges.{Meaning}
use Rattle.serial.specs.Ledger.{History, stamp_in, commits}
use Rattle.serial.proofs.Lines.ByKey.{at_key, off_key}
use Rattle.serial.proofs.Ledger.Fates.{Past, Gone, stamp_or, fate, stamp_of, Unsettled}
use Rattle.serial.proofs.Outcomes.AtGrounds.{chosen_range, validate_cases, settle_cases}
use Rattle.serial.proofs.Outcomes.Transactions.{decide_cases, withdraw_cases}
use Rattle.serial.proofs.Ledger.Silent.{either}
use Rattle.serial.proofs.Steps.SettleSteps.{suiting, sound_settled}
use Rattle.serial.proofs.Steps.StampedSteps.{silent_stamped, turned_stamped, settled_stamped, committed_stamped}
use Rattle.serial.proofs.Steps.ValidateSteps.{fails, passes_with}
use Rattle.serial.proofs.Steps.AbortOrCommit.{settled_own, settled_others}
use Rattle.serial.proofs.Steps.Lasting.{no_stamp, no_suits, SoundAfter, refused}
use Rattle.serial.proofs.Invariant.{Stamped, Invariant}

module _ (first : Cells) (P : Chooses) (means : Meaning P) (m : Model) (h : History) (H : Invariant first h m) where
  -- Whatever comes of a validation, all of it lasts.
  pub sound_validate : (t g : ℕ) → SoundAfter first h (call.Validate t g) verdict_response (validate P m t g)
  sound_validate t g =
      validate_cases m t g P (SoundAfter first h (call.Validate t g) verdict_response) (refused first m h H (call.Validate t g) (λ _. refl))
      (λ r now at run _. (
        fails first m h H.linked H.sound t g r at run,
        turned_stamped h H.stamped (call.Validate t g, (Ok reply.Aborted)) t g (λ _. refl) refl (λ u j n. off_key t g u j Gone (fate h u j) n)
            (no_suits first m h H t _ now)
            (λ l u i. let o = at_key t g Gone (fate h t g) in absurd cc),
      ))
      (λ r now at run room.
      let l₁ : ℤ = (chosen_range m t g P r).0 in
      let u₁ : ℤ = (chosen_range m t g P r).1 in (
        passes_with first m h H.linked H.sound t g P means r at run room,
        turned_stamped h H.stamped (call.Validate t g, Ok (reply.Range l₁ u₁)) t g (λ _. refl) refl
            (λ u j n. off_key t g u j (Past false l₁ u₁) (fate h u j) n) (no_suits first m h H t _ now)
            (λ l u i. absurd (not_settled l₁ u₁ l u (sym (at_key t g (Past false l₁ u₁) (fate h t g)) ∙ i))),
      ))
    where
      not_settled : (l u l₁ u₁ : ℤ) → Past false l u ≡ Past true l₁ u₁ → ⊥
      not_settled l u l₁ u₁ e = subst Unsettled e tt

module _ (first : Cells) (m : Model) (h : History) (H : Invariant first h m) where
  -- Whatever comes of a decision, all of it lasts.
  pub sound_decide : (t : ℕ) → SoundAfter first h (call.Decide t) decide_response (decide m t)
  sound_decide t =
      decide_cases m t (SoundAfter first h (call.Decide t) decide_response) (refused first m h H (call.Decide t) (λ _. refl))
      (λ now none. (H.sound, stamped now none (decision_by m t) refl))
    where
      unchanged : (r : Response) → stamp_in r ≡ [] → Stamped ((call.Decide t, r) ∷ h)
      unchanged r e =
          silent_stamped h H.stamped (call.Decide t, r) (record {
            fates = λ _ _. refl;
            sights = λ _ _. refl;
            puts = λ _ _. refl;
            stamps = λ u. ap (λ cs. cond (eqb t u) (stamp_or cs (stamp_of h u)) (stamp_of h u)) e ∙ either (eqb t u) (stamp_of h u) (stamp_of h u) refl;
          }) (ap (λ cs. map (λ c. record { stamp = c; number = t }) cs ++ commits h) e)

      stamped : check_open m t ≡ Ok tt → check_none_running m t ≡ Ok tt → (d : Decision) → decision_by m t ≡ d
          → Stamped ((call.Decide t, Ok (decision_reply d)) ∷ h)
      stamped now none (decision.Committed c) e = committed_stamped h H.stamped t c (no_stamp first m h H t now) (suiting m h H.linked t c none e)
      stamped now none decision.Aborted e = unchanged (Ok reply.Aborted) refl

  -- Whatever comes of a withdrawal, all of it lasts.
  pub sound_withdraw : (t : ℕ) → SoundAfter first h (call.Withdraw t) withdraw_response (withdraw m t)
  sound_withdraw t =
      withdraw_cases m t (SoundAfter first h (call.Withdraw t) withdraw_response) (refused first m h H (call.Withdraw t) (λ _. refl))
      (λ now. (
        H.sound,
        silent_stamped h H.stamped (call.Withdraw t, (Ok reply.Aborted))
            (record { fates = λ _ _. refl; sights = λ _ _. refl; puts = λ _ _. refl; stamps = λ _. refl }) refl,
      ))

  -- Whatever comes of a settlement, all of it lasts.
  pub sound_settle : (t g : ℕ) → SoundAfter first h (call.Settle t g) done_response (settle m t g)
  sound_settle t g =
      settle_cases m t g (SoundAfter first h (call.Settle t g) done_response) (refused first m h H (call.Settle t g) (λ _. refl))
      (λ e r dec at ok. (
        sound_settled first m h H.linked H.sound H.stamped t g r e dec at ok,
        settled_stamped h H.stamped t g (settled_own h t g) (settled_others h t g),
      ))
