-- Every number in the books was begun, so the next number to be begun is in none of them.
--   known_step   what bounds the numbers begun bounds all others after a call, if it did before it
use Rattle.std.proofs.Common.{◌≡◌, eqb, not, ℕ, ◌≤◌, map, ℤ, Some}
use Rattle.std.proofs.ByRecursion.{All-append, All-push, All-map, All-weaker}
use Rattle.std.specs.List.{AllByRecursion}
use Rattle.base.specs.Keys.{ground_of}
use Rattle.lines.specs.LineKeys.{row_key, read_key, write_key, same_row, same_access, row_key_at}
use Rattle.lines.specs.Locks.{row_of}
use Rattle.lines.specs.declared.row.Event.TheVariants.{Pass, Fail}
use Rattle.lines.specs.declared.row.Row.{Row}
use Rattle.lines.specs.declared.transaction.Decision.{Decision}
use Rattle.lines.specs.declared.transaction.Decision.TheVariants as decision
use Rattle.protocol.specs.Calls.{step}
use Rattle.protocol.specs.Decisions.{decision_by, with_decision}
use Rattle.protocol.specs.Model.{Model, Chooses}
use Rattle.protocol.specs.Noting.{others, before_note, apart_note, read_locks, write_locks}
use Rattle.protocol.specs.Validation.{pushed}
use Rattle.protocol.specs.declared.call.Call.{Call}
use Rattle.protocol.specs.declared.call.Call.TheVariants as call
use Rattle.serial.proofs.Lines.Found.{find_all, all_replaced}
use Rattle.serial.proofs.Outcomes.Checks.{Outcome}
use Rattle.serial.proofs.Outcomes.AtGrounds.{chosen_range, validate_cases, settle_cases}
use Rattle.serial.proofs.Outcomes.Transactions.{begin_cases, decide_cases, withdraw_cases}
use Rattle.serial.proofs.Outcomes.Accesses.{read_cases, prewrite_cases}
use Rattle.serial.proofs.Numbers.StillKnown.{open_known, locks_known, needed_known, numbers_kept, moved_known}
use Rattle.serial.proofs.Invariant.{Known}
use Rattle.serial.proofs.Lines.All.{all_first, all_kept}

module _ (P : Chooses) (m : Model) (known : Known m) where
  -- What is to hold of the register after a call.
  abbrev KnownAfter : {B : Type 0} → Outcome B → Type 0
  KnownAfter o = Known o.0

  -- A row that was found is known.
  found_known : (n t g : ℕ) (r : Row) → row_of m.rows t g ≡ Some r → AllByRecursion (λ x. x.number ≤ n) m.transactions → r.transaction ≤ n
  found_known n t g r at a = find_all same_row row_key (row_key_at t g) (λ x. x.transaction ≤ n) m.rows r (known n a).0 at

  -- A decision keeps it.
  decided_known : (t : ℕ) (d : Decision) → Known (with_decision m t d)
  decided_known t d n a = known n (numbers_kept n t d m.transactions a)

  -- So does every call.
  pub known_step : (c : Call) → Known (step P m c).0
  known_step (call.Begin t) = begin_cases m t KnownAfter (λ _. known) (λ _ n a. known n (all_first _ m.transactions _ a))
  known_step (call.Read t k) =
      read_cases m t k KnownAfter (λ _. known) (λ _ _ _. known)
      (λ c begun _ _ _ _ n a.
      let b = known n a in
      let own = open_known n m t begun a in (
        All-append _ m.rows _ b.0 (needed_known n (row_of m.rows t (ground_of k)) t (ground_of k) own),
        All-push _ m.reads _ b.1 own,
        b.2,
        All-append _ m.notes _ b.3
            (All-map _ (before_note k t) (write_locks m k)
            (All-weaker (λ u. u ≤ n) _ (λ u q. (own, q)) (write_locks m k)
            (locks_known (λ u. u ≤ n) m.rows k (map write_key m.writes) (All-map _ write_key m.writes b.2)))),
      ))
  known_step (call.Prewrite t k v) =
      prewrite_cases m t k v KnownAfter (λ _. known)
      (λ w begun _ _ n a.
      let b = known n a in (
        b.0,
        b.1,
        all_replaced same_access write_key (record { transaction = t; key = k }) (λ x. x.transaction ≤ n)
            (record { transaction = t; key = k; value = v }) (open_known n m t begun a) m.writes b.2,
        b.3,
      ))
      (λ c begun _ _ _ n a.
      let b = known n a in
      let own = open_known n m t begun a in
      let readers = locks_known (λ u. u ≤ n) m.rows k (map read_key m.reads) (All-map _ read_key m.reads b.1) in
      let writers = locks_known (λ u. u ≤ n) m.rows k (map write_key m.writes) (All-map _ write_key m.writes b.2) in (
        All-append _ m.rows _ b.0 (needed_known n (row_of m.rows t (ground_of k)) t (ground_of k) own),
        b.1,
        All-push _ m.writes _ b.2 own,
        All-append _ m.notes _ b.3
            (All-append _ (map (λ r. before_note k r t) (others t (read_locks m k))) _
            (All-map _ (λ r. before_note k r t) (others t (read_locks m k))
            (All-weaker (λ u. u ≤ n) _ (λ u q. (q, own)) (others t (read_locks m k)) (all_kept (λ u. u ≤ n) (λ u. not (eqb u t)) (read_locks m k) readers)))
            (All-map _ (apart_note k t) (others t (write_locks m k))
            (All-weaker (λ u. u ≤ n) _ (λ u q. (own, q)) (others t (write_locks m k)) (all_kept (λ u. u ≤ n) (λ u. not (eqb u t)) (write_locks m k) writers)))),
      ))
  known_step (call.Validate t g) =
      validate_cases m t g P KnownAfter (λ _. known)
      (λ r _ at _ _ n a. (moved_known n m.rows t g r Fail (found_known n t g r at a) (known n a).0, (known n a).1, (known n a).2, (known n a).3))
      (λ r _ at _ _ n a.
      let range : ℤ × ℤ = chosen_range m t g P r in (
        moved_known n (map (pushed m t g range) m.rows) t g r (Pass range.0 range.1) (found_known n t g r at a)
            (All-map _ (pushed m t g range) m.rows (known n a).0),
        (known n a).1,
        (known n a).2,
        (known n a).3,
      ))
  known_step (call.Decide t) = decide_cases m t KnownAfter (λ _. known) (λ _ _. decided_known t (decision_by m t))
  known_step (call.Withdraw t) = withdraw_cases m t KnownAfter (λ _. known) (λ _. decided_known t decision.Aborted)
  known_step (call.Settle t g) =
      settle_cases m t g KnownAfter (λ _. known)
      (λ e r _ at _ n a. (moved_known n m.rows t g r e (found_known n t g r at a) (known n a).0, (known n a).1, (known n a).2, (known n a).3))
