-- A transaction that has the register to itself commits.
--   alone   wherever in the history of a day
use Rattle.std.proofs.Common.{◌≡◌, ℕ, true, [], ◌∷◌, ◌++◌, append_assoc, sym, ap, ◌∙◌, subst}
use Rattle.std.specs.List.{AllByRecursion}
use Rattle.store.specs.Stores.{Cells}
use Rattle.policy.specs.Ranges.{Meaning}
use Rattle.protocol.specs.Calls.{step}
use Rattle.protocol.specs.Model.{Model, Chooses, Rooms}
use Rattle.protocol.specs.Replies.{Response}
use Rattle.protocol.specs.declared.call.Call.TheVariants.{Begin, Decide}
use Rattle.serial.specs.Alone.{NonePending, IsFresh, Commits, Alone, caller, key_in, keys_of}
use Rattle.serial.specs.Days.{IsDay}
use Rattle.serial.specs.Ledger.{History, is_accepted}
use Rattle.serial.proofs.Days.{same_day, earlier_day}
use Rattle.serial.proofs.Steps.DayHolds.{invariant_day}
use Rattle.serial.proofs.Alone.SoloStep.{SoloOrDecided, solo_step}
use Rattle.serial.proofs.Alone.DecideCommits.{decide_commits}
use Rattle.serial.proofs.Alone.BeginSolo.{begun_solo}
use Rattle.serial.proofs.Lines.All.{all_first, all_later}

module _ (P : Chooses) (means : Meaning P) (first : Cells) (rooms : Rooms) (t : ℕ) (earlier : History) (begun : Response)
    (found : Model) (day : IsDay P first rooms earlier found) (none : NonePending earlier) (begins : is_accepted begun ≡ true) where
  -- After its begin it is alone.
  after_begin : (m : Model) → IsDay P first rooms ((Begin t, begun) ∷ earlier) m → SoloOrDecided t found.cells m
  after_begin m (w, i, p) =
      let now = invariant_day P means first rooms earlier found day in
      subst (λ (x : Model × Response). is_accepted x.1 ≡ true → SoloOrDecided t found.cells x.0)
      (ap (λ b. step P b (Begin t)) (same_day P first rooms earlier found w day i) ∙ sym p)
      (begun_solo P found earlier t now.known now.live none)
      begins

  -- After each of its calls it is still alone, or decided.
  after_calls : (own : History) (m : Model) → IsDay P first rooms (own ++ (Begin t, begun) ∷ earlier) m
      → AllByRecursion (λ e. caller e.0 ≡ t) own → AllByRecursion (IsFresh found.cells) (keys_of own t) → SoloOrDecided t found.cells m
  after_calls [] m i only fresh = after_begin m i
  after_calls (e ∷ own) m (w, i, p) only fresh =
      let new = key_in t e.0 e.1 in
      subst (λ (x : Model × Response). AllByRecursion (IsFresh found.cells) (key_in t e.0 x.1) → SoloOrDecided t found.cells x.0) (sym p)
      (solo_step t found.cells P means w e.0 only.0
      (after_calls own w i only.1 (all_later (IsFresh found.cells) new (keys_of own t) fresh)))
      (all_first (IsFresh found.cells) new (keys_of own t) fresh)

  -- So its decide commits.
  after_decide : (decided : Response) (own : History) (m : Model)
      → IsDay P first rooms ((Decide t, decided) ∷ own ++ (Begin t, begun) ∷ earlier) m
      → AllByRecursion (λ e. caller e.0 ≡ t) own → AllByRecursion (IsFresh found.cells) (keys_of own t)
      → is_accepted decided ≡ true → Commits decided
  after_decide decided own m (w, i, p) only fresh =
      subst (λ (x : Model × Response). is_accepted x.1 ≡ true → Commits x.1) (sym p)
      (decide_commits P t found.cells w (after_calls own w i only fresh))

pub alone : (P : Chooses) → Meaning P → (first : Cells) (rooms : Rooms) (h : History) (m : Model) → IsDay P first rooms h m
    → Alone P first rooms h
alone P means first rooms h m day t later decided own begun earlier split a found at fresh =
    let whole = split ∙ append_assoc later ((Decide t, decided) ∷ own) ((Begin t, begun) ∷ earlier) in
    let front = earlier_day P first rooms later ((Decide t, decided) ∷ own ++ (Begin t, begun) ∷ earlier) m
    (subst (λ x. IsDay P first rooms x m) whole day) in
    after_decide P means first rooms t earlier begun found at a.quiet a.begins decided own front.0 front.1 a.only fresh a.decides
