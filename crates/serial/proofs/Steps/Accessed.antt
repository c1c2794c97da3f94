-- What an accepted read or prewrite of a key makes of the fates, and that the invariant holds of them.
--   fates_after      the fates after it: the transaction has begun at the ground of the key
--   accessed_view    the view after it, without the new line
--   now_running      the transaction is Running there
--   accessed_sound   that view keeps the invariant
--   live_other       another transaction whose locks stand has a live row
--   write_there      another that put a value into the key has a write line
use Rattle.std.proofs.Common.{◌≡◌, ℕ, true, false, cond, ◌&&◌, eqb, ◌⊎◌, List, ℤ, Some, Ok, sym, refl, ◌∙◌, subst, inl, inr, ⊎_elim}
use Rattle.std.proofs.lemmas.Bool.{and_left}
use Rattle.store.specs.Stores.{Cells}
use Rattle.base.specs.Keys.{ground_of}
use Rattle.lines.specs.Locks.{row_of, is_live}
use Rattle.lines.specs.declared.access.WriteLine.{WriteLine}
use Rattle.lines.specs.declared.note.Note.{Note}
use Rattle.lines.specs.declared.row.Row.{Row}
use Rattle.protocol.specs.Checks.{check_not_stopped}
use Rattle.protocol.specs.Model.{Model, write_of}
use Rattle.serial.specs.Ledger.{History, last_prewrite}
use Rattle.serial.proofs.Ledger.Fates.{Fate, Away, Running, fate_begun, fate, sight_of, Unsettled, Live}
use Rattle.serial.proofs.Ledger.Linked.{Linked, row_fate}
use Rattle.serial.proofs.Ledger.Shows.{live_row, free_shown, line_there}
use Rattle.serial.proofs.Changes.Steady.{MoreNotes}
use Rattle.serial.proofs.Changes.Turns.{touched}
use Rattle.serial.proofs.Lines.ByKey.{at_key_too, off_key_too}
use Rattle.serial.proofs.Invariant.{View, Sound, view}

module _ (h : History) (t k : ℕ) where
  -- The fates after the access.
  abbrev pub fates_after : ℕ → ℕ → Fate
  fates_after u j = cond (eqb t u && (eqb (ground_of k) j && true)) (fate_begun (fate h u j)) (fate h u j)

module _ (m : Model) (h : History) (t k : ℕ) where
  -- The view after it, without the new line.
  abbrev pub accessed_view : List Note → View
  accessed_view ns = record { fates = fates_after h t k; seen = sight_of h; put = last_prewrite h; cells = m.cells; notes = ns }

module _ (m : Model) (h : History) (L : Linked h m) (k : ℕ) where
  -- A transaction that put a value into the key has a write line with it.
  pub write_there : (u : ℕ) (y : ℤ) → last_prewrite h u k ≡ Some y → (w : WriteLine) × (write_of m u k ≡ Some w) × (w.value ≡ y)
  write_there u y p = line_there (λ x. x.value) (write_of m u k) y (sym (L.writes u k) ∙ p)

module _ (m : Model) (h : History) (L : Linked h m) (t k : ℕ) where
  -- Another transaction whose locks stand has a live row.
  pub live_other : (u : ℕ) → eqb t u ≡ false → Live (fates_after h t k u (ground_of k))
      → (r : Row) × (row_of m.rows u (ground_of k) ≡ Some r) × (is_live r.state ≡ true)
  live_other u n l =
      live_row (row_of m.rows u (ground_of k))
      (subst Live
      (off_key_too t (ground_of k) u (ground_of k) (fate_begun (fate h u (ground_of k))) (fate h u (ground_of k)) (and_left (eqb t u) _ n)
      ∙ L.rows u (ground_of k)) l)

  module _ (free : check_not_stopped (row_of m.rows t (ground_of k)) ≡ Ok tt) where
    -- Before it the transaction was away from the ground, or Running there.
    was_free : (fate h t (ground_of k) ≡ Away) ⊎ (fate h t (ground_of k) ≡ Running)
    was_free =
        ⊎_elim (λ (e : row_fate (row_of m.rows t (ground_of k)) ≡ Away). inl (L.rows t (ground_of k) ∙ e))
        (λ (e : row_fate (row_of m.rows t (ground_of k)) ≡ Running). inr (L.rows t (ground_of k) ∙ e))
        (free_shown (row_of m.rows t (ground_of k)) free)

    -- So what holds of both of these holds of its fate there.
    by_free : (Q : Fate → Type 0) → Q Away → Q Running → Q (fate h t (ground_of k))
    by_free Q a r =
        ⊎_elim (λ (e : fate h t (ground_of k) ≡ Away). subst Q (sym e) a) (λ (e : fate h t (ground_of k) ≡ Running). subst Q (sym e) r) was_free

    -- From now on it is Running there.
    pub now_running : fates_after h t k t (ground_of k) ≡ Running
    now_running =
        at_key_too t (ground_of k) (fate_begun (fate h t (ground_of k))) (fate h t (ground_of k)) ∙ by_free (λ f. fate_begun f ≡ Running) refl refl

module _ (first : Cells) (m : Model) (h : History) (L : Linked h m) (S : Sound first (view h m)) (t k : ℕ)
    (free : check_not_stopped (row_of m.rows t (ground_of k)) ≡ Ok tt) where
  -- The view after the access, without the new line, keeps the invariant.
  pub accessed_sound : (ns : List Note) → MoreNotes m.notes ns → Sound first (accessed_view m h t k ns)
  accessed_sound ns more =
      touched first (view h m) (accessed_view m h t k ns) t (ground_of k) S
      (record {
        stays = record { others = λ u j n. off_key_too t (ground_of k) u j (fate_begun (fate h u j)) (fate h u j) n; seen = λ u j. refl; put = λ u j. refl; notes = more };
        cells = λ j. refl;
      }) (by_free m h L t k free Unsettled tt tt) (at_key_too t (ground_of k) (fate_begun (fate h t (ground_of k))) (fate h t (ground_of k)))
