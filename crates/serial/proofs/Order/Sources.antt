-- Where each read of a commit comes from, by what holds at every moment of a day.
--   source   what a commit read has its source
use Rattle.std.proofs.Common.{◌≡◌, ℕ, ◌<◌, true, false, eqb, ◌⊎◌, ℤ, pos, ◌≤ℤ◌, ◌<ℤ◌, Some, sym, ap, ◌∙◌, subst, inl, inr, ⊎_elim, arith}
use Rattle.std.proofs.lemmas.Int.{ints}
use Rattle.std.proofs.lemmas.Bool.{ne_eqb}
use Rattle.std.specs.Option.{option_map}
use Rattle.store.specs.Stores.{Cells}
use Rattle.store.specs.declared.cell.Cell.{Cell}
use Rattle.base.specs.Keys.{ground_of}
use Rattle.protocol.specs.Model.{Model}
use Rattle.serial.specs.Ledger.{History, Commit, commits, last_prewrite}
use Rattle.serial.specs.Arrangements.{values}
use Rattle.serial.proofs.Ledger.Fates.{Fate, Past, fate, sight_of}
use Rattle.serial.proofs.Order.OrderTells.{Source, first, writer}
use Rattle.serial.proofs.Lines.Member.{In}
use Rattle.serial.proofs.Lines.ByKey.{eqb_turned}
use Rattle.serial.proofs.Order.Writers.{PastWith, past_of, settled_commit, writer_past, above_first, under_settled}
use Rattle.serial.proofs.Invariant.{Origin, Invariant, view}
use Rattle.serial.proofs.Standing.{Noted, Ordered, Reader}

module _ (cells : Cells) (h : History) (m : Model) (H : Invariant cells h m) where
  -- A commit that read k, and saw the value v and the stamp w.
  module _ (c : Commit) (i : In c (commits h)) (k : ℕ) (v : ℤ) (w : ℕ) (saw : sight_of h c.number k ≡ Some (v, w)) where
    -- It is past there.
    reader_past : PastWith h c.number (ground_of k) c.stamp
    reader_past =
        past_of cells h m H (Reader w) (λ z. z) c.number c.stamp (ground_of k) (H.stamped.listed c i)
        (H.sound.reader c.number k (v, w) saw)

    -- It is above the stamp that it saw.
    above_what_it_saw : pos w <ℤ reader_past.lower
    above_what_it_saw = subst (Reader w) reader_past.at (H.sound.reader c.number k (v, w) saw)

    -- Another writer was seen, or comes after.
    seen_or_after : (d : Commit) (j : In d (commits h)) (y : ℤ) (put : last_prewrite h d.number k ≡ Some y)
        → eqb d.number c.number ≡ false → ((writer_past cells h m H d j k y put).upper ≤ℤ pos w) ⊎ (c.stamp < d.stamp)
    seen_or_after d j y put n =
        go (writer_past cells h m H d j k y put)
        (subst (λ f. Stand (Past reader_past.settled reader_past.lower reader_past.upper) f) (writer_past cells h m H d j k y put).at
        (subst (λ f. Stand f (fate h d.number (ground_of k))) reader_past.at
        (H.sound.ordered c.number d.number k (v, w) y (eqb_turned d.number c.number n) saw put)))
      where
        Stand : Fate → Fate → Type 0
        Stand = Ordered (pos w) (Noted m.notes (ground_of k) c.number d.number) (m.cells k)

        go : (q : PastWith h d.number (ground_of k) d.stamp) → (q.upper ≤ℤ pos w) ⊎ (reader_past.upper <ℤ q.lower)
            → (q.upper ≤ℤ pos w) ⊎ (c.stamp < d.stamp)
        go q (inl s) = inl s
        go q (inr s) = let a = q.above in let b = reader_past.below in inr (omega (arith, ints))

    -- What was there at first: no other writer was seen.
    after_first : (f : Cell) → cells k ≡ Some f → f.write.number ≡ w → (d : Commit) → In d (commits h)
        → eqb d.number c.number ≡ false → (y : ℤ) → last_prewrite h d.number k ≡ Some y → c.stamp < d.stamp
    after_first f e s d j n y put = go (seen_or_after d j y put n)
      where
        go : ((writer_past cells h m H d j k y put).upper ≤ℤ pos w) ⊎ (c.stamp < d.stamp) → c.stamp < d.stamp
        go (inl b) =
            let a = above_first cells h m H d j k y put f e in
            let l = (writer_past cells h m H d j k y put).above in
            let u = (writer_past cells h m H d j k y put).below in
            absurd (omega (arith, ints))
        go (inr b) = b

    -- A settled writer whose stamp was seen is another transaction.
    seen_other : (u : ℕ) → fate h u (ground_of k) ≡ Past true (pos w) (pos w) → eqb u c.number ≡ false
    seen_other u e = ne_eqb u c.number own
      where
        own : u ≡ c.number → ⊥
        own s =
            let f : Past true (pos w) (pos w) ≡ Past reader_past.settled reader_past.lower reader_past.upper =
            sym e ∙ (ap (λ t. fate h t (ground_of k)) s ∙ reader_past.at) in
            let l : pos w ≡ reader_past.lower = cc in
            let a = above_what_it_saw in
            omega (arith, ints)

    -- Where what it read comes from.
    pub source : Source h (values cells) c k v
    source = go (H.sound.origin c.number k (v, w) saw)
      where
        go : Origin cells (view h m) k v w → Source h (values cells) c k v
        go (inl (f, e, a, s)) = first (ap (option_map (λ x. x.value)) e ∙ ap Some a) (after_first f e s)
        go (inr (u, e, p)) =
            let a = above_what_it_saw in
            let b = reader_past.above in
            writer (record { stamp = w; number = u }) (settled_commit cells h m H u (ground_of k) w e) (seen_other u e) (omega (arith, ints)) p
            (λ d j n o y put.
            ⊎_elim (λ (q : (writer_past cells h m H d j k y put).upper ≤ℤ pos w). inl (under_settled cells h m H d j k y put u w v o e p q))
            (λ (q : c.stamp < d.stamp). inr q) (seen_or_after d j y put n))
