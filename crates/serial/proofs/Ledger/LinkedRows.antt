-- Fates by rows: how the rows and what the ledger says of them change together.
--   Shown f rows   the fates f go by the rows
--   again_fates    a call of a transaction that has a row
--   added_fates    a call that adds the row it needs
--   moved_fates    a row that was moved by an event
use Rattle.std.proofs.Common.{◌≡◌, ℕ, true, cond, ◌&&◌, eqb, List, [], ◌++◌, ℤ, Some, None, Option, sym, refl, ap, ◌∙◌}
use Rattle.lines.specs.LineKeys.{row_key, same_row, row_key_at}
use Rattle.lines.specs.Locks.{row_of}
use Rattle.lines.specs.Rows.{moved_row}
use Rattle.lines.specs.declared.row.Event.{Event}
use Rattle.lines.specs.declared.row.Row.{Row}
use Rattle.lines.specs.declared.row.State.{State}
use Rattle.lines.specs.declared.row.State.TheVariants as state
use Rattle.protocol.specs.Noting.{row_needed}
use Rattle.protocol.specs.Validation.{row_moved}
use Rattle.serial.proofs.Ledger.Fates.{Fate, fate_begun}
use Rattle.std.specs.Option.{option_or}
use Rattle.serial.proofs.Lines.Found.{or_none, find_append}
use Rattle.serial.proofs.Ledger.Linked.{fate_by, row_fate}
use Rattle.serial.proofs.Lines.RowKeys.{own_moved, other_moved}
use Rattle.serial.proofs.Lines.ByKey.{by_key, and_true, own_key}

-- A row shows that its transaction has begun here.
begun_shown : (s : State) (l u : ℤ) → fate_begun (fate_by s l u) ≡ fate_by s l u
begun_shown state.Running l u = refl
begun_shown state.Validated l u = refl
begun_shown state.Committed l u = refl
begun_shown state.Aborted l u = refl

-- Fates that go by the rows.
abbrev pub Shown : (ℕ → ℕ → Fate) → List Row → Type 0
Shown f rows = (u j : ℕ) → f u j ≡ row_fate (row_of rows u j)

module _ (f : ℕ → ℕ → Fate) (rows : List Row) (t g : ℕ) (shown : Shown f rows) where
  -- A transaction that has a row begins nothing new.
  pub again_fates : (x : Row) → row_of rows t g ≡ Some x → Shown (λ u j. cond (eqb t u && (eqb g j && true)) (fate_begun (f u j)) (f u j)) rows
  again_fates x at u j =
      rw (and_true (eqb t u) (eqb g j))
      (by_key (λ v i b. cond b (fate_begun (f v i)) (f v i) ≡ row_fate (row_of rows v i)) t g u j
      (rw (shown t g, at) (begun_shown x.state x.lower x.upper)) (λ _. shown u j))

  -- A transaction that needs a row here has it from now on.
  pub added_fates : Shown (λ u j. cond (eqb t u && (eqb g j && true)) (fate_begun (f u j)) (f u j)) (rows ++ row_needed (row_of rows t g) t g)
  added_fates u j = go (row_of rows t g) refl
    where
      go : (o : Option Row) → row_of rows t g ≡ o
          → cond (eqb t u && (eqb g j && true)) (fate_begun (f u j)) (f u j) ≡ row_fate (row_of (rows ++ row_needed o t g) u j)
      go (Some x) at =
          again_fates x at u j ∙ ap row_fate (sym (or_none (row_of rows u j)) ∙ sym (find_append same_row row_key (row_key_at u j) rows []))
      go None at =
          rw (and_true (eqb t u) (eqb g j), find_append same_row row_key (row_key_at u j) rows (row_needed None t g))
          (by_key (λ v i b. cond b (fate_begun (f v i)) (f v i)
          ≡ row_fate (option_or (row_of rows v i) (row_of (row_needed None t g) v i))) t g u j
          (rw (shown t g, at, own_key t g) refl) (λ n. rw (n, or_none (row_of rows u j)) (shown u j)))

  -- A row that was moved shows the fate that is said of it, and the others those they showed.
  pub moved_fates : (a : ℕ → ℕ → Fate) (x r : Row) (e : Event) → row_of rows t g ≡ Some x → same_row (row_key r) (row_key_at t g) ≡ true
      → a t g ≡ row_fate (Some (moved_row r e).0) → Shown (λ u j. cond (eqb t u && eqb g j) (a u j) (f u j)) (row_moved t g r e rows)
  moved_fates a x r e at k own u j =
      by_key (λ v i b. cond b (a v i) (f v i) ≡ row_fate (row_of (row_moved t g r e rows) v i)) t g u j
      (own ∙ ap row_fate (sym (own_moved rows t g r e x at k)))
      (λ n. shown u j ∙ ap row_fate (sym (other_moved rows t g r e u j n k)))
