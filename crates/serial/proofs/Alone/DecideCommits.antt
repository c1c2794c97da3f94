-- A decision of a transaction that makes the only calls commits, if it is accepted.
--   decide_commits   a decide that is accepted commits
use Rattle.std.proofs.Common.{◌≡◌, ℕ, ◌≤◌, Bool, true, false, cond, List, [], ◌∷◌, map, ℤ, pos, negsuc, ◌≤ℤ◌, Some, None, Ok, fold, sym, refl}
use Rattle.std.proofs.Common.{ap, subst, ⊎_elim, arith}
use lib.Signed.{lt_z}
use Rattle.std.proofs.lemmas.Int.{ints, clamps}
use Rattle.std.proofs.lemmas.Bool.{eqb-true, le-leb, false≢true}
use Rattle.std.specs.Int.{int_max, int_min}
use Rattle.std.specs.List.{AllByRecursion}
use Rattle.store.specs.Stores.{Cells}
use Rattle.base.specs.Stamps.{stamp, stamp_of_bound}
use Rattle.base.specs.declared.stamp.Stamp.{Stamp}
use Rattle.lines.specs.Locks.{is_live}
use Rattle.lines.specs.declared.row.Row.{Row}
use Rattle.lines.specs.declared.row.State.{State}
use Rattle.lines.specs.declared.row.State.TheVariants.{Running, Validated, Committed, Aborted}
use Rattle.lines.specs.declared.transaction.Decision.{Decision}
use Rattle.lines.specs.declared.transaction.Decision.TheVariants as decision
use Rattle.protocol.specs.Calls.{step, decision_reply, decide_response}
use Rattle.protocol.specs.Checks.{is_aborted, is_own}
use Rattle.protocol.specs.Decisions.{committed_at, decision_in, decision_of, rows_of, largest_lower, smallest_upper}
use Rattle.protocol.specs.Model.{Model, Chooses}
use Rattle.protocol.specs.declared.call.Call.TheVariants as call
use Rattle.serial.specs.Alone.{Commits}
use Rattle.serial.specs.Ledger.{is_accepted}
use Rattle.serial.proofs.Outcomes.Transactions.{decide_cases}
use Rattle.serial.proofs.Alone.Decided.{IsDecided, not_open}
use Rattle.serial.proofs.Alone.Solo.{LeavesTop, Solo}
use Rattle.serial.proofs.Alone.SoloStep.{SoloOrDecided}
use Rattle.serial.proofs.Lines.All.{any_none, kept_all}

-- A live row is not aborted.
live_not : (s : State) → is_live s ≡ true → is_aborted s ≡ false
live_not Running e = refl
live_not Validated e = refl
live_not Committed e = refl
live_not Aborted e = absurd (false≢true e)

-- The largest lower bound is a stamp: it is at least 0, and at most TOP.
lower_least : (rs : List Row) (a : ℤ) → pos 0 ≤ℤ a → pos 0 ≤ℤ fold int_max a (map (λ r. r.lower) rs)
lower_least [] a e = e
lower_least (r ∷ rs) a e = lower_least rs (int_max a r.lower) (omega (arith, ints, clamps))

lower_most : (rs : List Row) (a : ℤ) → a ≤ℤ pos 268435455 → AllByRecursion LeavesTop rs → fold int_max a (map (λ r. r.lower) rs) ≤ℤ pos 268435455
lower_most [] a e f = e
lower_most (r ∷ rs) a e f = let h = f.0.2 in lower_most rs (int_max a r.lower) (omega (arith, ints, clamps)) f.1

-- The smallest upper bound is at least TOP.
upper_least : (rs : List Row) (a : ℤ) → pos 268435455 ≤ℤ a → AllByRecursion LeavesTop rs → pos 268435455 ≤ℤ fold int_min a (map (λ r. r.upper) rs)
upper_least [] a e f = e
upper_least (r ∷ rs) a e f = let h = f.0.0 in upper_least rs (int_min a r.upper) (omega (arith, ints, clamps)) f.1

-- A decision for a stamp.
abbrev CommitDecision : Decision → Type 0
CommitDecision d = (c : Stamp) × (d ≡ decision.Committed c)

-- A bound from 0 to TOP is a stamp.
bound_commits : (l : ℤ) → pos 0 ≤ℤ l → l ≤ℤ pos 268435455 → CommitDecision (committed_at (stamp_of_bound l))
bound_commits (pos n) a b =
    let h : n ≤ 268435455 = omega (arith, ints) in
    (stamp n, ap (λ x. committed_at (cond x (Some (stamp n)) None)) (le-leb n 268435455 h))
bound_commits (negsuc n) a b = absurd (omega (arith, ints))

-- A range from such a bound up to TOP or above commits.
range_commits : (l u : ℤ) → pos 0 ≤ℤ l → l ≤ℤ pos 268435455 → pos 268435455 ≤ℤ u → CommitDecision (decision_in l u)
range_commits l u a b c = go (lt_z u l) refl
  where
    go : (x : Bool) → lt_z u l ≡ x → CommitDecision (cond x decision.Aborted (committed_at (stamp_of_bound l)))
    go true s = absurd (omega (arith, ints))
    go false s = bound_commits l a b

-- Rows that are all fine commit.
fine_commits : (rs : List Row) → AllByRecursion LeavesTop rs → CommitDecision (decision_of rs)
fine_commits rs f =
    subst (λ x. CommitDecision (cond x decision.Aborted (decision_in (largest_lower rs) (smallest_upper rs))))
    (sym (any_none LeavesTop (λ r. is_aborted r.state) (λ r q. live_not r.state q.3) rs f))
    (range_commits _ _ (lower_least rs (pos 0) (omega (arith, ints))) (lower_most rs (pos 0) (omega (arith, ints)) f)
    (upper_least rs (pos 268435455) (omega (arith, ints)) f))

-- A decide of t that is accepted while it is alone commits.
pub decide_commits : (P : Chooses) (t : ℕ) (found : Cells) (m : Model) → SoloOrDecided t found m → is_accepted (step P m (call.Decide t)).1 ≡ true
    → Commits (step P m (call.Decide t)).1
decide_commits P t found m n =
    decide_cases m t (λ o. is_accepted (decide_response o.1) ≡ true → Commits (decide_response o.1))
    (λ e q. absurd (false≢true q))
    (λ now _ _.
    ⊎_elim
    (λ (x : IsDecided t m). absurd (not_open t m x now))
    (λ (s : Solo t found m).
    let d = fine_commits (rows_of m t) (kept_all (is_own t) _ LeavesTop (λ r e q. q (eqb-true r.transaction t e)) m.rows s.rows) in
    (d.0, ap (λ d. Ok (decision_reply d)) d.1))
    n)
