-- What can come of a read and of a prewrite: it is refused, it was made before, or it is the first of its key.
--   read_cases Q ..       Q holds of the outcome of a read if it holds of each way in which it can end
--   prewrite_cases Q ..   so of a prewrite
use Rattle.std.proofs.Common.{◌≡◌, ℕ, length, ℤ, Some, None, Ok, Err, Option, refl}
use Rattle.std.specs.Option.{ok_or}
use Rattle.base.specs.Refusals.{refusal}
use Rattle.store.specs.declared.cell.Cell.{Cell}
use Rattle.base.specs.Keys.{ground_of}
use Rattle.base.specs.declared.refusal.Refusal.{Refusal}
use Rattle.base.specs.declared.stamp.Stamp.{Stamp}
use Rattle.lines.specs.Locks.{row_of}
use Rattle.lines.specs.declared.access.ReadLine.{ReadLine}
use Rattle.lines.specs.declared.access.WriteLine.{WriteLine}
use Rattle.protocol.specs.Calls.{read, read_by, prewrite, prewrite_by}
use Rattle.protocol.specs.Checks.{check_open, check_not_stopped, check_unwritten, check_room}
use Rattle.protocol.specs.Model.{Model, read_of, write_of}
use Rattle.protocol.specs.Noting.{new_rows, notes_of_read, notes_of_prewrite, with_read, with_prewrite}
use Rattle.serial.proofs.Outcomes.Checks.{Outcome, after_cases, cell_some}

module _ (m : Model) (t k : ℕ) where
  -- The ways in which a read can end that has passed its checks.
  read_end : (Q : Outcome (ℤ × Stamp) → Type 0) (c : Cell) → ((e : Refusal) → Q (m, Err e))
      → ((r : ReadLine) → read_of m t k ≡ Some r → Q (m, Ok (r.value, r.seen)))
      → (read_of m t k ≡ None → Q (with_read m t k c, Ok (c.value, c.write)))
      → (o : Option ReadLine) → read_of m t k ≡ o → Q (read_by o m t k c)
  read_end Q c refused again first (Some r) e = again r e
  read_end Q c refused again first None e =
      after_cases Q m (check_room m (length (new_rows m t k)) 1 0 (length (notes_of_read m t k))) _ refused (λ _ _. first e)

  -- The ways in which a read can end.
  pub read_cases : (Q : Outcome (ℤ × Stamp) → Type 0) → ((e : Refusal) → Q (m, Err e))
      → ((r : ReadLine) → check_open m t ≡ Ok tt → read_of m t k ≡ Some r → Q (m, Ok (r.value, r.seen)))
      → ((c : Cell) → check_open m t ≡ Ok tt → m.cells k ≡ Some c → check_not_stopped (row_of m.rows t (ground_of k)) ≡ Ok tt
      → check_unwritten m t ≡ Ok tt → read_of m t k ≡ None → Q (with_read m t k c, Ok (c.value, c.write)))
      → Q (read m t k)
  read_cases Q refused again first =
      after_cases Q m (check_open m t) _ refused (λ _ a.
      after_cases Q m (ok_or (m.cells k) (refusal 11)) _ refused (λ c b.
      after_cases Q m (check_not_stopped (row_of m.rows t (ground_of k))) _ refused (λ _ d.
      after_cases Q m (check_unwritten m t) _ refused (λ _ e.
      read_end Q c refused (λ r f. again r a f) (λ f. first c a (cell_some (m.cells k) c b) d e f) (read_of m t k) refl))))

  module _ (v : ℤ) where
    -- The ways in which a prewrite can end that has passed its checks.
    prewrite_end : (Q : Outcome Unit → Type 0) → ((e : Refusal) → Q (m, Err e))
        → ((w : WriteLine) → write_of m t k ≡ Some w → Q (prewrite_by (Some w) m t k v))
        → (write_of m t k ≡ None → Q (with_prewrite m t k v, Ok tt))
        → (o : Option WriteLine) → write_of m t k ≡ o → Q (prewrite_by o m t k v)
    prewrite_end Q refused again first (Some w) e = again w e
    prewrite_end Q refused again first None e =
        after_cases Q m (check_room m (length (new_rows m t k)) 0 1 (length (notes_of_prewrite m t k))) _ refused (λ _ _. first e)

    -- The ways in which a prewrite can end.
    pub prewrite_cases : (Q : Outcome Unit → Type 0) → ((e : Refusal) → Q (m, Err e))
        → ((w : WriteLine) → check_open m t ≡ Ok tt → check_not_stopped (row_of m.rows t (ground_of k)) ≡ Ok tt → write_of m t k ≡ Some w
        → Q (prewrite_by (Some w) m t k v))
        → ((c : Cell) → check_open m t ≡ Ok tt → m.cells k ≡ Some c → check_not_stopped (row_of m.rows t (ground_of k)) ≡ Ok tt
        → write_of m t k ≡ None → Q (with_prewrite m t k v, Ok tt))
        → Q (prewrite m t k v)
    prewrite_cases Q refused again first =
        after_cases Q m (check_open m t) _ refused (λ _ a.
        after_cases Q m (ok_or (m.cells k) (refusal 11)) _ refused (λ c b.
        after_cases Q m (check_not_stopped (row_of m.rows t (ground_of k))) _ refused (λ _ d.
        prewrite_end Q refused (λ w f. again w a d f) (λ f. first c a (cell_some (m.cells k) c b) d f) (write_of m t k) refl)))
