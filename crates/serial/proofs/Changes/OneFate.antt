-- Where nothing changes but one fate that is not settled, and notes that come, the cells and the origins of their values stay.
--   OneFate V W t g                           from V to W nothing changes but the fate of t at g, and notes that come
--   origin_kept, kept_map                     an origin stays one, and a cell is kept where origins are
--   grown_same, origin_same, cell_same        so stamps do not sink, origins stay, and cells are kept
--   reader_at, writer_at, read_at, write_at   what the invariant says of t at g
--   fate_turn                                 so one fate turns, if the invariant holds of t there after it
use Rattle.std.proofs.Common.{◌≡◌, ℕ, true, false, ◌&&◌, eqb, ℤ, pos, Some, None, Option, sym, ◌∙◌, subst, inl, inr, ⊎_elim}
use Rattle.store.specs.Stores.{Cells}
use Rattle.store.specs.declared.cell.Cell.{Cell}
use Rattle.base.specs.Keys.{ground_of}
use Rattle.serial.proofs.Ledger.Fates.{Unsettled, Past}
use Rattle.serial.proofs.Lines.RowKeys.{same_or_not}
use Rattle.serial.proofs.Changes.OneTurn.{Stays, OwnStanding, Turn}
use Rattle.serial.proofs.Changes.Steady.{Grown, grown_self}
use Rattle.serial.proofs.Invariant.{View, Origin, CellKept, CellKeptAt, Sound}
use Rattle.serial.proofs.Standing.{Reader, Writer, Reached, UpToRead, UpToWrite}

-- From V to W nothing changes but the fate of t at g, and notes that come.
pub record OneFate (V W : View) (t g : ℕ) : Type 0 where
  pub stays : Stays V W t g
  pub cells : (k : ℕ) → W.cells k ≡ V.cells k

-- What is settled stays settled, so an origin stays one.
pub origin_kept : (first : Cells) (V W : View) (t g : ℕ)
    → Stays V W t g → Unsettled (V.fates t g) → (k : ℕ) (v : ℤ) (w : ℕ) → Origin first V k v w → Origin first W k v w
origin_kept first V W t g stays still k v w (inl o) = inl o
origin_kept first V W t g stays still k v w (inr o) =
    ⊎_elim
    (λ (e : (o.0 ≡ t) × (ground_of k ≡ g)).
    absurd (subst Unsettled
    (subst (λ a. V.fates a g ≡ Past true (pos w) (pos w)) e.0
    (subst (λ j. V.fates o.0 j ≡ Past true (pos w) (pos w)) e.1 o.1))
    still))
    (λ (n : (eqb t o.0 && eqb g (ground_of k)) ≡ false). inr (o.0, stays.others o.0 (ground_of k) n ∙ o.1, stays.put o.0 k ∙ o.2))
    (same_or_not t g o.0 (ground_of k))

-- A cell is kept where origins are.
pub kept_map : (first : Cells) (V W : View) (k : ℕ) → ((v : ℤ) (w : ℕ) → Origin first V k v w → Origin first W k v w)
    → (f c : Option Cell) → CellKept first V k f c → CellKept first W k f c
kept_map first V W k s None None h = tt
kept_map first V W k s None (Some c) h = h
kept_map first V W k s (Some f) None h = h
kept_map first V W k s (Some f) (Some c) h = (h.0, s c.value c.write.number h.1)

module _ (first : Cells) (V W : View) (t g : ℕ) (S : Sound first V) (O : OneFate V W t g) (still : Unsettled (V.fates t g)) where
  -- No cell goes, and no stamp of one sinks.
  pub grown_same : (k : ℕ) → Grown (V.cells k) (W.cells k)
  grown_same k = subst (Grown (V.cells k)) (sym (O.cells k)) (grown_self (V.cells k))

  -- What was an origin is one.
  origin_same : (k : ℕ) (v : ℤ) (w : ℕ) → Origin first V k v w → Origin first W k v w
  origin_same = origin_kept first V W t g O.stays still

  -- Each cell is kept.
  cell_same : (k : ℕ) → CellKeptAt first W k
  cell_same k = subst (CellKept first W k (first k)) (sym (O.cells k)) (kept_map first V W k (origin_same k) (first k) (V.cells k) (S.cell k))

  -- What the invariant says of t at g, as a reader and as a writer.
  module _ (k : ℕ) (x : ℤ × ℕ) (e : ground_of k ≡ g) (s : V.seen t k ≡ Some x) where
    pub reader_at : Reader x.1 (V.fates t g)
    reader_at = subst (λ j. Reader x.1 (V.fates t j)) e (S.reader t k x s)

    pub read_at : Reached UpToRead (W.cells k) (V.fates t g)
    read_at =
        subst (λ j. Reached UpToRead (W.cells k) (V.fates t j)) e
        (subst (λ c. Reached UpToRead c (V.fates t (ground_of k))) (sym (O.cells k)) (S.read_reached t k x s))

  module _ (k : ℕ) (x : ℤ) (e : ground_of k ≡ g) (s : V.put t k ≡ Some x) where
    pub writer_at : Writer (first k) (V.fates t g)
    writer_at = subst (λ j. Writer (first k) (V.fates t j)) e (S.writer t k x s)

    pub write_at : Reached UpToWrite (W.cells k) (V.fates t g)
    write_at =
        subst (λ j. Reached UpToWrite (W.cells k) (V.fates t j)) e
        (subst (λ c. Reached UpToWrite c (V.fates t (ground_of k))) (sym (O.cells k)) (S.write_reached t k x s))

  -- So one fate turns, if the invariant holds of t there after it.
  pub fate_turn : OwnStanding first V W t g → Turn first V W t g
  fate_turn own = record { stays = O.stays; grown = grown_same; cell = cell_same; origin = origin_same; own = own }
