-- What a call puts into the books has numbers that were begun: its own, those of the holders of locks, and those of rows that are there.
--   open_known                  a transaction that is open was begun
--   locks_known                 what holds of all who have lines holds of the holders of locks
--   needed_known, moved_known   the row that a call adds, and a row that was moved, have a number that was begun
--   numbers_kept                a decision leaves the numbers of the transaction lines
use Rattle.std.proofs.Common.{◌≡◌, ℕ, ◌≤◌, Bool, true, false, cond, ◌&&◌, eqb, List, [], ◌∷◌, Some, None, Ok, Option, sym, refl, subst}
use Rattle.std.proofs.lemmas.Bool.{eqb-true}
use Rattle.std.specs.List.{AllByRecursion}
use Rattle.lines.proofs.Rows.{moves_owner}
use Rattle.lines.specs.LineKeys.{row_key, same_row, row_key_at}
use Rattle.lines.specs.Locks.{lock_stands}
use Rattle.lines.specs.Rows.{moved_row}
use Rattle.lines.specs.declared.access.AccessKey.{AccessKey}
use Rattle.lines.specs.declared.row.Event.{Event}
use Rattle.lines.specs.declared.row.Row.{Row}
use Rattle.lines.specs.declared.transaction.Decision.{Decision}
use Rattle.lines.specs.declared.transaction.Transaction.{Transaction}
use Rattle.protocol.specs.Checks.{check_open, check_open_line}
use Rattle.protocol.specs.Model.{Model, transaction_of, with_line}
use Rattle.protocol.specs.Noting.{locks_on, row_needed}
use Rattle.protocol.specs.Validation.{row_moved}
use Rattle.serial.proofs.Lines.Found.{find_all, all_replaced}
use Rattle.serial.proofs.Lines.Kept.{line_passes}

-- An open transaction was begun.
pub open_known : (n : ℕ) (m : Model) (t : ℕ) → check_open m t ≡ Ok tt → AllByRecursion (λ x. x.number ≤ n) m.transactions → t ≤ n
open_known n m t e a = go (transaction_of m t) refl e
  where
    go : (o : Option Transaction) → transaction_of m t ≡ o → check_open_line o ≡ Ok tt → t ≤ n
    go None s q = absurd cc
    go (Some x) s q =
        let i = eqb-true _ _ (line_passes eqb (λ y. y.number) t m.transactions x s) in
        let b = find_all eqb (λ y. y.number) t (λ y. y.number ≤ n) m.transactions x a s in
        subst (λ u. u ≤ n) i b

-- The holders of locks have lines.
pub locks_known : (Q : ℕ → Type 0) (rows : List Row) (k : ℕ) (xs : List AccessKey) → AllByRecursion (λ x. Q x.transaction) xs
    → AllByRecursion Q (locks_on rows k xs)
locks_known Q rows k [] a = tt
locks_known Q rows k (x ∷ xs) a = go (eqb x.key k && lock_stands rows x.transaction k) (locks_known Q rows k xs a.1)
  where
    go : (b : Bool) → AllByRecursion Q (locks_on rows k xs) → AllByRecursion Q (cond b (x.transaction ∷ locks_on rows k xs) (locks_on rows k xs))
    go true later = (a.0, later)
    go false later = later

-- The row that a transaction needs is its own.
pub needed_known : (n : ℕ) (o : Option Row) (t g : ℕ) → t ≤ n → AllByRecursion (λ r. r.transaction ≤ n) (row_needed o t g)
needed_known n None t g e = (e, tt)
needed_known n (Some r) t g e = tt

-- A decision leaves the numbers of the transaction lines.
pub numbers_kept : (n t : ℕ) (d : Decision) (xs : List Transaction)
    → AllByRecursion (λ x. x.number ≤ n) (with_line eqb (λ x. x.number) t (record { number = t; decision = Some d }) xs) → AllByRecursion (λ x. x.number ≤ n) xs
numbers_kept n t d [] a = tt
numbers_kept n t d (x ∷ xs) a = go (eqb x.number t) refl a (λ b. numbers_kept n t d xs b)
  where
    go : (b : Bool) → eqb x.number t ≡ b
        → AllByRecursion (λ y. y.number ≤ n)
        (cond b (record { number = t; decision = Some d } ∷ xs) (x ∷ with_line eqb (λ y. y.number) t (record { number = t; decision = Some d }) xs))
        → (AllByRecursion (λ y. y.number ≤ n) (with_line eqb (λ y. y.number) t (record { number = t; decision = Some d }) xs)
        → AllByRecursion (λ y. y.number ≤ n) xs)
        → AllByRecursion (λ y. y.number ≤ n) (x ∷ xs)
    go true s h later = (subst (λ u. u ≤ n) (sym (eqb-true _ _ s)) h.0, h.1)
    go false s h later = (h.0, later h.1)

-- A row that was moved is the same transaction's.
pub moved_known : (n : ℕ) (rows : List Row) (t g : ℕ) (r : Row) (e : Event) → r.transaction ≤ n → AllByRecursion (λ x. x.transaction ≤ n) rows
    → AllByRecursion (λ x. x.transaction ≤ n) (row_moved t g r e rows)
moved_known n rows t g r e b a =
    all_replaced same_row row_key (row_key_at t g) (λ x. x.transaction ≤ n) (moved_row r e).0
    (subst (λ k. k.transaction ≤ n) (sym (moves_owner r r.state e)) b) rows a
