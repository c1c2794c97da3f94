-- A prewrite keeps the invariant, whether it is the first of its key or not.
--   prewrite_again   a prewrite of a key that the transaction has prewritten
--   prewrite_first   a first prewrite of a key
use Rattle.std.proofs.Common.{◌≡◌, ℕ, true, false, cond, ◌&&◌, eqb, List, ◌∷◌, ◌++◌, ℤ, Some, Ok, Option, sym, refl, ap, ◌∙◌, inl}
use Rattle.std.specs.Option.{option_map}
use Rattle.store.specs.Stores.{Cells}
use Rattle.store.specs.declared.cell.Cell.{Cell}
use Rattle.base.specs.Keys.{ground_of}
use Rattle.lines.specs.Locks.{row_of}
use Rattle.lines.specs.declared.access.WriteLine.{WriteLine}
use Rattle.lines.specs.declared.note.Note.{Note}
use Rattle.protocol.specs.Calls.{prewrite_by}
use Rattle.protocol.specs.Checks.{check_not_stopped}
use Rattle.protocol.specs.Model.{Model, read_of, write_of}
use Rattle.protocol.specs.Noting.{before_note, apart_note, notes_of_prewrite, with_prewrite}
use Rattle.protocol.specs.declared.call.Call.TheVariants as call
use Rattle.protocol.specs.declared.call.Reply.TheVariants as reply
use Rattle.serial.specs.Ledger.{History, last_prewrite}
use Rattle.serial.proofs.Changes.MetByPrewrite.{met_readers, met_writers}
use Rattle.serial.proofs.Changes.Putting.{wrote}
use Rattle.serial.proofs.Ledger.Fates.{sight_of, Live}
use Rattle.serial.proofs.Ledger.Linked.{Linked}
use Rattle.serial.proofs.Steps.Meeting.{met_reader, met_writer}
use Rattle.serial.proofs.Lines.Member.{in_left, in_right}
use Rattle.serial.proofs.Changes.Passing.{cell_there}
use Rattle.serial.proofs.Ledger.Shows.{line_there}
use Rattle.serial.proofs.Lines.ByKey.{eqb_turned, at_key_too, off_key_too}
use Rattle.serial.proofs.Steps.Accessed.{fates_after, accessed_view, now_running, accessed_sound, live_other, write_there}
use Rattle.serial.proofs.Invariant.{Sound, view}
use Rattle.serial.proofs.Standing.{Noted, Tied}

module _ (first : Cells) (m : Model) (h : History) (L : Linked h m) (S : Sound first (view h m)) (t k : ℕ)
    (free : check_not_stopped (row_of m.rows t (ground_of k)) ≡ Ok tt) where
  -- What was put after a prewrite of v.
  abbrev put_after : ℤ → ℕ → ℕ → Option ℤ
  put_after v u j = cond (eqb t u && (eqb k j && true)) (Some v) (last_prewrite h u j)

  -- A prewrite of a key that the transaction has prewritten keeps the invariant.
  pub prewrite_again : (v : ℤ) (w : WriteLine) → write_of m t k ≡ Some w
      → Sound first (view ((call.Prewrite t k v, (Ok reply.Done)) ∷ h) (prewrite_by (Some w) m t k v).0)
  prewrite_again v w had =
      let c = cell_there first (view h m) S t k w.value put_it in
      wrote first (accessed_view m h t k m.notes) T t k (now_running m h L t k free) (put_after v) v c.0 c.1
      (λ u j n. off_key_too t k u j (Some v) (last_prewrite h u j) n) (at_key_too t k (Some v) (last_prewrite h t k))
      (λ a x n s. T.ordered a t k x w.value (eqb_turned t a n) s put_it)
      (λ a y n s. T.distanced t a k w.value y n put_it s)
    where
      T : Sound first (accessed_view m h t k m.notes)
      T = accessed_sound first m h L S t k free m.notes (λ n i. i)

      put_it : last_prewrite h t k ≡ Some w.value
      put_it = L.writes t k ∙ ap (option_map (λ x. x.value)) had

  -- So does a first prewrite of a key.
  pub prewrite_first : (v : ℤ) (c : Cell) → m.cells k ≡ Some c
      → Sound first (view ((call.Prewrite t k v, (Ok reply.Done)) ∷ h) (with_prewrite m t k v))
  prewrite_first v c at =
      wrote first (accessed_view m h t k notes) T t k (now_running m h L t k free) (put_after v) v c at
      (λ u j n. off_key_too t k u j (Some v) (last_prewrite h u j) n) (at_key_too t k (Some v) (last_prewrite h t k))
      (met_readers first (accessed_view m h t k notes) T t k (now_running m h L t k free) readers writers)
      (met_writers first (accessed_view m h t k notes) T t k (now_running m h L t k free) readers writers)
    where
      notes : List Note
      notes = m.notes ++ notes_of_prewrite m t k

      T : Sound first (accessed_view m h t k notes)
      T = accessed_sound first m h L S t k free notes (λ n i. in_left n m.notes _ i)

      readers : (a : ℕ) (x : ℤ × ℕ) → eqb t a ≡ false → sight_of h a k ≡ Some x → Live (fates_after h t k a (ground_of k)) → Noted notes (ground_of k) a t
      readers a x n s l =
          let x₁ = line_there (λ y. (y.value, y.seen.number)) (read_of m a k) x (sym (L.reads a k) ∙ s) in
          let r = live_other m h L t k a n l in (
            before_note k a t,
            in_right _ m.notes _ (met_reader m t a k x₁.0 r.0 (eqb_turned t a n) x₁.1 r.1 r.2),
            refl,
            refl,
            refl,
            refl,
          )

      writers : (a : ℕ) (y : ℤ) → eqb t a ≡ false → last_prewrite h a k ≡ Some y → Live (fates_after h t k a (ground_of k)) → Tied notes (ground_of k) t a
      writers a y n s l =
          let w = write_there m h L k a y s in
          let r = live_other m h L t k a n l in (
            apart_note k t a,
            in_right _ m.notes _ (met_writer m t a k w.0 r.0 (eqb_turned t a n) w.1 r.1 r.2),
            refl,
            inl (refl, refl),
          )
