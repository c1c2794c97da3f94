-- How a commit that wrote a key stands there: it is past at the key's ground, above the first cell, and apart from settled writers.
--   PastWith               a transaction is past at a ground, with a stamp in its range
--   past_of                whoever committed is past wherever it is not away
--   settled_commit         a settled transaction committed at the stamp that is its range
--   writer_past, reached   a commit that wrote a key is past there; and once it is settled, the write stamp has reached it
--   above_first            it is above the stamp of the first cell
--   under_settled          it is below a settled writer, if it is not above that writer's stamp
use Rattle.std.proofs.Common.{◌≡◌, ℕ, ◌<◌, Bool, true, false, eqb, ◌⊎◌, ℤ, pos, ◌≤ℤ◌, ◌<ℤ◌, Some, refl, ap, ◌∙◌, subst, inl, inr, arith}
use Rattle.std.proofs.lemmas.Int.{ints}
use Rattle.store.specs.Stores.{Cells}
use Rattle.store.specs.declared.cell.Cell.{Cell}
use Rattle.base.specs.Keys.{ground_of}
use Rattle.protocol.specs.Model.{Model}
use Rattle.serial.specs.Ledger.{History, Commit, commits, last_prewrite}
use Rattle.serial.proofs.Ledger.Fates.{Fate, Away, Running, Past, Gone, fate, stamp_of}
use Rattle.serial.proofs.Lines.Member.{In}
use Rattle.serial.proofs.Invariant.{Suits, Invariant}
use Rattle.serial.proofs.Standing.{Over, Tied, Distanced, Writer, Reached, UpToWrite}

-- The transaction t is past at the ground g, and the stamp c lies in its range.
pub record PastWith (h : History) (t g c : ℕ) : Type 0 where
  pub settled : Bool
  pub lower : ℤ
  pub upper : ℤ
  pub at : fate h t g ≡ Past settled lower upper
  pub above : lower ≤ℤ pos c
  pub below : pos c ≤ℤ upper

module _ (cells : Cells) (h : History) (m : Model) (H : Invariant cells h m) where
  -- Whoever committed is past wherever it is not away.
  pub past_of : (F : Fate → Type 0) → (F Away → ⊥) → (t c g : ℕ) → stamp_of h t ≡ Some c → F (fate h t g) → PastWith h t g c
  past_of F away t c g s f = go (fate h t g) refl f (H.stamped.suits t c g s)
    where
      go : (x : Fate) → fate h t g ≡ x → F x → Suits c x → PastWith h t g c
      go Away e d q = absurd (away d)
      go Running e d q = absurd q
      go (Past b l u) e d q = record { settled = b; lower = l; upper = u; at = e; above = q.0; below = q.1 }
      go Gone e d q = absurd q

  -- A settled transaction committed at the stamp that is its range.
  pub settled_commit : (t g w : ℕ) → fate h t g ≡ Past true (pos w) (pos w) → In (record { stamp = w; number = t }) (commits h)
  settled_commit t g w e =
      let s = H.stamped.settled t g (pos w) (pos w) e in
      let p = s.2 in
      let i : s.0 ≡ w = cc in
      H.stamped.found t w (s.1 ∙ ap Some i)

  -- A commit that wrote k.
  module _ (d : Commit) (j : In d (commits h)) (k : ℕ) (y : ℤ) (put : last_prewrite h d.number k ≡ Some y) where
    -- It is past there.
    pub writer_past : PastWith h d.number (ground_of k) d.stamp
    writer_past =
        past_of (Writer (cells k)) (λ z. z) d.number d.stamp (ground_of k) (H.stamped.listed d j)
        (H.sound.writer d.number k y put)

    -- Once it is settled, the cell's write stamp has reached it.
    pub reached : writer_past.settled ≡ true → UpToWrite writer_past.upper (m.cells k)
    reached = subst (Reached UpToWrite (m.cells k)) writer_past.at (H.sound.write_reached d.number k y put)

    -- It is above the stamp of the first cell.
    pub above_first : (f : Cell) → cells k ≡ Some f → pos f.write.number <ℤ writer_past.lower
    above_first f e = subst (λ o. Over o writer_past.lower) e (subst (Writer (cells k)) writer_past.at (H.sound.writer d.number k y put))

    -- It is below, or above, a settled writer of the key.
    beside_settled : (u w : ℕ) (v : ℤ) → eqb d.number u ≡ false → fate h u (ground_of k) ≡ Past true (pos w) (pos w)
        → last_prewrite h u k ≡ Some v → (writer_past.upper <ℤ pos w) ⊎ (pos w <ℤ writer_past.lower)
    beside_settled u w v n e p =
        subst (λ f. Stand (Past writer_past.settled writer_past.lower writer_past.upper) f) e
        (subst (λ f. Stand f (fate h u (ground_of k))) writer_past.at (H.sound.distanced d.number u k y v n put p))
      where
        Stand : Fate → Fate → Type 0
        Stand = Distanced (Tied m.notes (ground_of k) d.number u) (m.cells k)

    -- One that is not above a settled writer's stamp is below it.
    pub under_settled : (u w : ℕ) (v : ℤ) → eqb d.number u ≡ false → fate h u (ground_of k) ≡ Past true (pos w) (pos w)
        → last_prewrite h u k ≡ Some v → writer_past.upper ≤ℤ pos w → d.stamp < w
    under_settled u w v n e p q = go (beside_settled u w v n e p)
      where
        go : (writer_past.upper <ℤ pos w) ⊎ (pos w <ℤ writer_past.lower) → d.stamp < w
        go (inl s) = let b = writer_past.below in omega (arith, ints)
        go (inr s) = let b = writer_past.below in let a = writer_past.above in absurd (omega (arith, ints))
