-- A first read of a key keeps the invariant, where the notes say which writers it met.
--   saw         one transaction saw one more cell
--   cell_from   a cell that is there was there at first, and its value has its origin
use Rattle.std.proofs.Common.{◌≡◌, ℕ, true, false, ◌&&◌, eqb, ℤ, pos, Some, None, Option, sym, refl, ◌∙◌, subst, inl, inr}
use Rattle.store.specs.Stores.{Cells}
use Rattle.store.specs.declared.cell.Cell.{Cell}
use Rattle.base.specs.Keys.{ground_of}
use Rattle.serial.proofs.Ledger.Fates.{Fate, Live, Away, Running, Past, Gone}
use Rattle.serial.proofs.Lines.RowKeys.{own_or_other}
use Rattle.serial.proofs.Invariant.{View, Origin, CellKept, CellKeptAt, OrderedAt, Sound}
use Rattle.serial.proofs.Standing.{UpToWrite, Noted, RunningReader, Ordered, Reader, UpToRead, Reached}

-- A cell that is there was there at first, and its value has its origin.
pub cell_from : (first : Cells) (V : View) (k : ℕ) (c : Cell) → V.cells k ≡ Some c → CellKeptAt first V k
    → ((f : Cell) × (first k ≡ Some f)) × Origin first V k c.value c.write.number
cell_from first V k c e h = go (first k) refl (subst (CellKept first V k (first k)) e h)
  where
    go : (o : Option Cell) → first k ≡ o → CellKept first V k o (Some c)
        → ((f : Cell) × (first k ≡ Some f)) × Origin first V k c.value c.write.number
    go None s q = absurd q
    go (Some f) s q = ((f, s), q.1)

module _ (first : Cells) (V : View) (S : Sound first V) (t k : ℕ) (running : V.fates t (ground_of k) ≡ Running) where
  module _ (s : ℕ → ℕ → Option (ℤ × ℕ)) (c : Cell) (at : V.cells k ≡ Some c)
      (others : (u j : ℕ) → (eqb t u && eqb k j) ≡ false → s u j ≡ V.seen u j) (own : s t k ≡ Some (c.value, c.write.number))
      (met : (u : ℕ) (y : ℤ) → eqb t u ≡ false → V.put u k ≡ Some y → Live (V.fates u (ground_of k)) → Noted V.notes (ground_of k) t u) where
    -- The view with what was seen.
    abbrev view_seen : View
    view_seen = record { fates = V.fates; seen = s; put = V.put; cells = V.cells; notes = V.notes }

    -- What the transaction saw at the key is the cell.
    is_own : (x : ℤ × ℕ) → s t k ≡ Some x → x ≡ (c.value, c.write.number)
    is_own x e = cc

    -- A settled writer was seen; one that is live was noted.
    beside_writers : (b : ℕ) (y : ℤ) → eqb t b ≡ false → V.put b k ≡ Some y → (f : Fate) → V.fates b (ground_of k) ≡ f
        → RunningReader (pos c.write.number) (Noted V.notes (ground_of k) t b) f
    beside_writers b y n p Away e = tt
    beside_writers b y n p Running e = met b y n p (subst Live (sym e) tt)
    beside_writers b y n p (Past true l u) e =
        inl (subst (UpToWrite u) at (subst (Reached UpToWrite (V.cells k)) e (S.write_reached b k y p) refl))
    beside_writers b y n p (Past false l u) e = inr (met b y n p (subst Live (sym e) tt))
    beside_writers b y n p Gone e = tt

    -- So the transaction stands to every writer of the key as a reader should.
    own_ordered : (b : ℕ) (x : ℤ × ℕ) (y : ℤ) → eqb t b ≡ false → s t k ≡ Some x → V.put b k ≡ Some y → OrderedAt V k x.1 (ground_of k) t b
    own_ordered b x y n e p =
        subst (λ z. OrderedAt V k z.1 (ground_of k) t b) (sym (is_own x e))
        (subst (λ f. Ordered (pos c.write.number) (Noted V.notes (ground_of k) t b) (V.cells k) f (V.fates b (ground_of k)))
        (sym running) (beside_writers b y n p (V.fates b (ground_of k)) refl))

    -- The view with what was seen keeps the invariant.
    pub saw : Sound first view_seen
    saw = record {
      cell = S.cell;
      write_reached = S.write_reached;
      read_reached = λ a j x.
          own_or_other (λ a j. s a j ≡ Some x → Reached UpToRead (V.cells j) (V.fates a (ground_of j))) t k a j
          (λ e. subst (Reached UpToRead (V.cells k)) (sym running) tt) (λ n e. S.read_reached a j x (sym (others a j n) ∙ e));
      origin = λ a j x.
          own_or_other (λ a j. s a j ≡ Some x → Origin first V j x.0 x.1) t k a j
          (λ e. subst (λ z. Origin first V k z.0 z.1) (sym (is_own x e)) (cell_from first V k c at (S.cell k)).1)
          (λ n e. S.origin a j x (sym (others a j n) ∙ e));
      has = S.has;
      reader = λ a j x.
          own_or_other (λ a j. s a j ≡ Some x → Reader x.1 (V.fates a (ground_of j))) t k a j
          (λ e. subst (Reader x.1) (sym running) tt) (λ n e. S.reader a j x (sym (others a j n) ∙ e));
      writer = S.writer;
      ordered = λ a b j x y.
          own_or_other
          (λ a j. eqb a b ≡ false → s a j ≡ Some x → V.put b j ≡ Some y → OrderedAt V j x.1 (ground_of j) a b) t k a j
          (own_ordered b x y) (λ n d e p. S.ordered a b j x y d (sym (others a j n) ∙ e) p);
      distanced = S.distanced;
    }
