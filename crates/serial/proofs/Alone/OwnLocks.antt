-- Where only one transaction has a live row, the locks that stand are its own.
--   OnlyLive t rows   no other transaction has a row that is live
--   lock_own          a lock that stands is t's
--   own_locks         so nobody else holds one
--   no_locks          and where t has no line, nobody does
--   needed_only       a row that t adds keeps it so
use Rattle.std.proofs.Common.{◌≡◌, ℕ, Bool, true, false, cond, ◌&&◌, eqb, List, [], ◌∷◌, ◌++◌, Some, None, Ok, Err, Option, Result, sym, refl, ◌∙◌, ⊎_elim}
use Rattle.std.proofs.lemmas.Bool.{and_parts, or_parts, eq-eqb, true≢false, false≢true}
use Rattle.std.specs.List.{AllByRecursion, list_any}
use Rattle.base.specs.Keys.{ground_of}
use Rattle.base.specs.declared.refusal.Refusal.{Refusal}
use Rattle.base.specs.declared.refusal.Refusal.TheVariants.{ReadAfterPrewrite}
use Rattle.lines.specs.Locks.{lock_stands, row_of, is_live, is_locked}
use Rattle.lines.specs.Rows.{new_row}
use Rattle.lines.specs.declared.access.AccessKey.{AccessKey}
use Rattle.lines.specs.declared.access.WriteLine.{WriteLine}
use Rattle.lines.specs.declared.row.Row.{Row}
use Rattle.protocol.specs.Checks.{check_unwritten}
use Rattle.protocol.specs.Model.{Model}
use Rattle.protocol.specs.Noting.{locks_on, others, row_needed}
use Rattle.serial.proofs.Lines.RowKeys.{added_row}

-- Only t has a row that is live.
abbrev pub OnlyLive : ℕ → List Row → Type 0
OnlyLive t rows = (u j : ℕ) (r : Row) → row_of rows u j ≡ Some r → is_live r.state ≡ true → u ≡ t

-- A lock that stands is t's.
lock_own : (t : ℕ) (rows : List Row) → OnlyLive t rows → (u k : ℕ) → lock_stands rows u k ≡ true → u ≡ t
lock_own t rows only u k e = go (row_of rows u (ground_of k)) refl e
  where
    go : (o : Option Row) → row_of rows u (ground_of k) ≡ o → is_locked o ≡ true → u ≡ t
    go None s q = absurd (false≢true q)
    go (Some r) s q = only u (ground_of k) r s q

-- So nobody else holds one.
pub own_locks : (t : ℕ) (rows : List Row) → OnlyLive t rows → (k : ℕ) (xs : List AccessKey) → others t (locks_on rows k xs) ≡ []
own_locks t rows only k [] = refl
own_locks t rows only k (x ∷ xs) = go (eqb x.key k && lock_stands rows x.transaction k) refl (own_locks t rows only k xs)
  where
    go : (b : Bool) → (eqb x.key k && lock_stands rows x.transaction k) ≡ b → others t (locks_on rows k xs) ≡ []
        → others t (cond b (x.transaction ∷ locks_on rows k xs) (locks_on rows k xs)) ≡ []
    go true s later =
        rw (eq-eqb x.transaction t (lock_own t rows only x.transaction k (and_parts (eqb x.key k) _ s).1)) later
    go false s later = later

-- And where t has no line, there is none.
pub no_locks : (t : ℕ) (rows : List Row) → OnlyLive t rows → (k : ℕ) (xs : List AccessKey) → AllByRecursion (λ x. eqb x.transaction t ≡ false) xs
    → locks_on rows k xs ≡ []
no_locks t rows only k [] a = refl
no_locks t rows only k (x ∷ xs) a = go (eqb x.key k && lock_stands rows x.transaction k) refl (no_locks t rows only k xs a.1)
  where
    go : (b : Bool) → (eqb x.key k && lock_stands rows x.transaction k) ≡ b → locks_on rows k xs ≡ []
        → cond b (x.transaction ∷ locks_on rows k xs) (locks_on rows k xs) ≡ []
    go true s later =
        absurd (true≢false (sym (eq-eqb x.transaction t (lock_own t rows only x.transaction k (and_parts (eqb x.key k) _ s).1)) ∙ a.0))
    go false s later = later

-- A transaction that passed the check has no write line.
unwritten_all : (t : ℕ) (ws : List WriteLine) → list_any (λ w. eqb w.transaction t) ws ≡ false → AllByRecursion (λ w. eqb w.transaction t ≡ false) ws
unwritten_all t [] e = tt
unwritten_all t (w ∷ ws) e = let p = or_parts (eqb w.transaction t) _ e in (p.0, unwritten_all t ws p.1)

-- So it has none in the book.
pub unwritten_is : (m : Model) (t : ℕ) → check_unwritten m t ≡ Ok tt → AllByRecursion (λ w. eqb w.transaction t ≡ false) m.writes
unwritten_is m t e = go (list_any (λ w. eqb w.transaction t) m.writes) refl e
  where
    go : (b : Bool) → list_any (λ w. eqb w.transaction t) m.writes ≡ b → ◌≡◌ {A = Result Unit Refusal} (cond b (Err ReadAfterPrewrite) (Ok tt)) (Ok tt)
        → AllByRecursion (λ w. eqb w.transaction t ≡ false) m.writes
    go true s q = absurd cc
    go false s q = unwritten_all t m.writes s

-- Rows that t adds are its own.
pub needed_only : (t g : ℕ) (rows : List Row) → OnlyLive t rows → OnlyLive t (rows ++ row_needed (row_of rows t g) t g)
needed_only t g rows only u j r e l =
    ⊎_elim (λ (q : row_of rows u j ≡ Some r). only u j r q l) (λ (q : (u ≡ t) × (j ≡ g) × (r ≡ new_row t g) × (row_of rows t g ≡ None)). q.0) (added_row rows t g u j r e)
