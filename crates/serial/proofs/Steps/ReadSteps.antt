-- A read keeps the invariant: a second one of a key says nothing new, and a first one adds a line.
--   again_silent   a second read of a key says nothing new
--   read_first     a first read of a key keeps the invariant
use Rattle.std.proofs.Common.{◌≡◌, ℕ, cond, eqb, List, ◌∷◌, ◌++◌, Some, None, Ok, sym, refl, ap, ◌∙◌}
use Rattle.std.specs.Option.{option_map}
use Rattle.store.specs.Stores.{Cells}
use Rattle.store.specs.declared.cell.Cell.{Cell}
use Rattle.base.specs.Keys.{ground_of}
use Rattle.lines.specs.Locks.{row_of}
use Rattle.lines.specs.declared.access.ReadLine.{ReadLine}
use Rattle.lines.specs.declared.note.Note.{Note}
use Rattle.protocol.specs.Checks.{check_not_stopped}
use Rattle.protocol.specs.Model.{Model, read_of}
use Rattle.protocol.specs.Noting.{before_note, notes_of_read, with_read}
use Rattle.protocol.specs.declared.call.Call.TheVariants as call
use Rattle.protocol.specs.declared.call.Reply.TheVariants as reply
use Rattle.serial.specs.Ledger.{History}
use Rattle.serial.proofs.Changes.Seeing.{saw}
use Rattle.serial.proofs.Changes.Turns.{begun_here}
use Rattle.serial.proofs.Ledger.Fates.{fate_begun, sight_or, fate, sight_of}
use Rattle.serial.proofs.Ledger.Linked.{Linked}
use Rattle.serial.proofs.Lines.ByKey.{by_key, and_true, at_key, off_key}
use Rattle.serial.proofs.Steps.Meeting.{met_by_read}
use Rattle.serial.proofs.Lines.Member.{in_left, in_right}
use Rattle.serial.proofs.Ledger.Silent.{Silent}
use Rattle.serial.proofs.Steps.Accessed.{accessed_view, now_running, accessed_sound, live_other, write_there}
use Rattle.serial.proofs.Invariant.{Sound, view}

module _ (first : Cells) (m : Model) (h : History) (L : Linked h m) (S : Sound first (view h m)) (t k : ℕ) where
  -- What a read line says was seen.
  saw_it : (r : ReadLine) → read_of m t k ≡ Some r → sight_of h t k ≡ Some (r.value, r.seen.number)
  saw_it r at = L.reads t k ∙ ap (option_map (λ x. (x.value, x.seen.number))) at

  -- A second read of a key says nothing new.
  pub again_silent : (r : ReadLine) → read_of m t k ≡ Some r → Silent h (call.Read t k, Ok (reply.Value r.value r.seen))
  again_silent r at = record {
    fates = λ u j.
        rw (and_true (eqb t u) (eqb (ground_of k) j))
        (by_key (λ u j b. cond b (fate_begun (fate h u j)) (fate h u j) ≡ fate h u j) t (ground_of k) u j
        (begun_here r.seen.number (fate h t (ground_of k)) (S.reader t k (r.value, r.seen.number) (saw_it r at))) (λ _. refl));
    sights = λ u j.
        by_key (λ u j b. cond b (sight_or (sight_of h u j) (Ok (reply.Value r.value r.seen))) (sight_of h u j) ≡ sight_of h u j) t k u j
        (ap (λ o. sight_or o (Ok (reply.Value r.value r.seen))) (saw_it r at) ∙ sym (saw_it r at)) (λ _. refl);
    puts = λ u j. refl;
    stamps = λ u. refl;
  }

  module _ (free : check_not_stopped (row_of m.rows t (ground_of k)) ≡ Ok tt) where
    -- A first read of a key keeps the invariant.
    pub read_first : (c : Cell) → m.cells k ≡ Some c → read_of m t k ≡ None
        → Sound first (view ((call.Read t k, Ok (reply.Value c.value c.write)) ∷ h) (with_read m t k c))
    read_first c at none =
        saw first (accessed_view m h t k notes) (accessed_sound first m h L S t k free notes (λ n i. in_left n m.notes _ i)) t k (now_running m h L t k free)
        (sight_of ((call.Read t k, Ok (reply.Value c.value c.write)) ∷ h)) c at
        (λ u j n. off_key t k u j _ (sight_of h u j) n)
        (at_key t k _ (sight_of h t k)
        ∙ ap (λ o. sight_or o (Ok (reply.Value c.value c.write))) (L.reads t k ∙ ap (option_map (λ x. (x.value, x.seen.number))) none))
        (λ u y n p l.
        let w = write_there m h L k u y p in
        let r = live_other m h L t k u n l in
        (before_note k t u, in_right _ m.notes _ (met_by_read m t u k w.0 r.0 w.1 r.1 r.2), refl, refl, refl, refl))
      where
        notes : List Note
        notes = m.notes ++ notes_of_read m t k
