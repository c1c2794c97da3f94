-- One transaction's fate turns at one ground: what that is, and how the transaction itself stands to the others after it.
--   Stays, OwnStanding, Turn               what stays, how t stands after it, and all of it
--   own_standing                           how t stands after it, from how it stood
--   reader_after, writer_after             each reader of a key, and each writer of it, stands as it should
--   read_after, write_after                and its cell's stamps have reached both
--   own_reading, own_writing, own_beside   t stands as it should to the writers of a key that it read, and to the readers and to the
--                                          writers of a key that it wrote
use Rattle.std.proofs.Common.{◌≡◌, ℕ, false, ◌&&◌, eqb, ℤ, pos, Some, sym, refl, subst, ⊎_elim}
use Rattle.std.proofs.lemmas.Bool.{and_left}
use Rattle.store.specs.Stores.{Cells}
use Rattle.base.specs.Keys.{ground_of}
use Rattle.serial.proofs.Ledger.Fates.{Fate}
use Rattle.serial.proofs.Lines.RowKeys.{same_or_not}
use Rattle.serial.proofs.Changes.Steady.{Grown, MoreNotes, read_grown, write_grown, reached_grown}
use Rattle.serial.proofs.Lines.ByKey.{eqb_turned}
use Rattle.serial.proofs.Invariant.{View, Origin, CellKeptAt, OrderedAt, DistancedAt, Sound}
use Rattle.serial.proofs.Standing.{Noted, Tied, Ordered, Distanced, Reader, Writer, Reached, UpToRead, UpToWrite}

-- From V to W all that the ledger says stays but the fate of t at g, and notes stay where more may come.
pub record Stays (V W : View) (t g : ℕ) : Type 0 where
  pub others : (u j : ℕ) → (eqb t u && eqb g j) ≡ false → W.fates u j ≡ V.fates u j
  pub seen : (u k : ℕ) → W.seen u k ≡ V.seen u k
  pub put : (u k : ℕ) → W.put u k ≡ V.put u k
  pub notes : MoreNotes V.notes W.notes

-- The invariant holds of t at g in W, as a reader and as a writer, if it held in V.
pub record OwnStanding (first : Cells) (V W : View) (t g : ℕ) : Type 0 where
  pub reads : (k : ℕ) (x : ℤ × ℕ) → ground_of k ≡ g → V.seen t k ≡ Some x → Reader x.1 (W.fates t g)
  pub writes : (k : ℕ) (x : ℤ) → ground_of k ≡ g → V.put t k ≡ Some x → Writer (first k) (W.fates t g)
  pub read_reached : (k : ℕ) (x : ℤ × ℕ) → ground_of k ≡ g → V.seen t k ≡ Some x → Reached UpToRead (W.cells k) (W.fates t g)
  pub write_reached : (k : ℕ) (x : ℤ) → ground_of k ≡ g → V.put t k ≡ Some x → Reached UpToWrite (W.cells k) (W.fates t g)
  pub as_reader : (u k : ℕ) (x : ℤ × ℕ) (y : ℤ) → ground_of k ≡ g → eqb t u ≡ false → V.seen t k ≡ Some x → V.put u k ≡ Some y
      → OrderedAt V k x.1 g t u → Ordered (pos x.1) (Noted W.notes g t u) (W.cells k) (W.fates t g) (V.fates u g)
  pub as_writer : (u k : ℕ) (x : ℤ × ℕ) (y : ℤ) → ground_of k ≡ g → eqb t u ≡ false → V.seen u k ≡ Some x → V.put t k ≡ Some y
      → OrderedAt V k x.1 g u t → Ordered (pos x.1) (Noted W.notes g u t) (W.cells k) (V.fates u g) (W.fates t g)
  pub beside : (u k : ℕ) (x y : ℤ) → ground_of k ≡ g → eqb t u ≡ false → V.put t k ≡ Some x → V.put u k ≡ Some y
      → DistancedAt V k g t u → Distanced (Tied W.notes g t u) (W.cells k) (W.fates t g) (V.fates u g)

-- So it does where it holds of the fate that t had there and of the one that it has, beside the fate of each other transaction.
pub own_standing : (first : Cells) (V W : View) (t g : ℕ) (old new : Fate) → V.fates t g ≡ old → W.fates t g ≡ new
    → ((k : ℕ) (x : ℤ × ℕ) → ground_of k ≡ g → V.seen t k ≡ Some x → Reader x.1 new)
    → ((k : ℕ) (x : ℤ) → ground_of k ≡ g → V.put t k ≡ Some x → Writer (first k) new)
    → ((k : ℕ) (x : ℤ × ℕ) → ground_of k ≡ g → V.seen t k ≡ Some x → Reached UpToRead (W.cells k) new)
    → ((k : ℕ) (x : ℤ) → ground_of k ≡ g → V.put t k ≡ Some x → Reached UpToWrite (W.cells k) new)
    → ((u k : ℕ) (x : ℤ × ℕ) → eqb t u ≡ false → (f : Fate) → V.fates u g ≡ f
    → Ordered (pos x.1) (Noted V.notes g t u) (V.cells k) old f → Ordered (pos x.1) (Noted W.notes g t u) (W.cells k) new f)
    → ((u k : ℕ) (x : ℤ × ℕ) (y : ℤ) → ground_of k ≡ g → V.put t k ≡ Some y → eqb t u ≡ false → (f : Fate) → V.fates u g ≡ f
    → Ordered (pos x.1) (Noted V.notes g u t) (V.cells k) f old → Ordered (pos x.1) (Noted W.notes g u t) (W.cells k) f new)
    → ((u k : ℕ) (x : ℤ) → ground_of k ≡ g → V.put t k ≡ Some x → eqb t u ≡ false → (f : Fate) → V.fates u g ≡ f
    → Distanced (Tied V.notes g t u) (V.cells k) old f → Distanced (Tied W.notes g t u) (W.cells k) new f)
    → OwnStanding first V W t g
own_standing first V W t g old new was is reads writes read write as_reader as_writer beside = record {
  reads = λ k x i s. subst (Reader x.1) (sym is) (reads k x i s);
  writes = λ k x i s. subst (Writer (first k)) (sym is) (writes k x i s);
  read_reached = λ k x i s. subst (Reached UpToRead (W.cells k)) (sym is) (read k x i s);
  write_reached = λ k x i s. subst (Reached UpToWrite (W.cells k)) (sym is) (write k x i s);
  as_reader = λ u k x y i n s p o.
      subst (λ f. Ordered (pos x.1) (Noted W.notes g t u) (W.cells k) f (V.fates u g)) (sym is)
      (as_reader u k x n (V.fates u g) refl
      (subst (λ f. Ordered (pos x.1) (Noted V.notes g t u) (V.cells k) f (V.fates u g)) was o));
  as_writer = λ u k x y i n s p o.
      subst (Ordered (pos x.1) (Noted W.notes g u t) (W.cells k) (V.fates u g)) (sym is)
      (as_writer u k x y i p n (V.fates u g) refl
      (subst (Ordered (pos x.1) (Noted V.notes g u t) (V.cells k) (V.fates u g)) was o));
  beside = λ u k x y i n s p o.
      subst (λ f. Distanced (Tied W.notes g t u) (W.cells k) f (V.fates u g)) (sym is)
      (beside u k x i s n (V.fates u g) refl
      (subst (λ f. Distanced (Tied V.notes g t u) (V.cells k) f (V.fates u g)) was o));
}

-- From V to W one fate turns, and no stamp of a cell sinks; and the invariant holds of the cells, and of t at g, in W.
pub record Turn (first : Cells) (V W : View) (t g : ℕ) : Type 0 where
  pub stays : Stays V W t g
  pub grown : (k : ℕ) → Grown (V.cells k) (W.cells k)
  pub cell : (k : ℕ) → CellKeptAt first W k
  pub origin : (k : ℕ) (v : ℤ) (w : ℕ) → Origin first V k v w → Origin first W k v w
  pub own : OwnStanding first V W t g

module _ (first : Cells) (V W : View) (t g : ℕ) (S : Sound first V) (T : Turn first V W t g) where
  -- Another transaction's fate stays.
  other : (u j : ℕ) → eqb t u ≡ false → W.fates u j ≡ V.fates u j
  other u j n = T.stays.others u j (and_left (eqb t u) _ n)

  -- What holds of the fate of t at g in W, and of every other fate in V, holds of each in W.
  fate_after : (Q : Fate → Type 0) (a k : ℕ) → (a ≡ t → ground_of k ≡ g → Q (W.fates t g)) → Q (V.fates a (ground_of k))
      → Q (W.fates a (ground_of k))
  fate_after Q a k own old =
      ⊎_elim
      (λ (e : (a ≡ t) × (ground_of k ≡ g)).
      subst (λ b. Q (W.fates b (ground_of k))) (sym e.0) (subst (λ j. Q (W.fates t j)) (sym e.1) (own e.0 e.1)))
      (λ (n : (eqb t a && eqb g (ground_of k)) ≡ false). subst Q (sym (T.stays.others a (ground_of k) n)) old)
      (same_or_not t g a (ground_of k))

  -- So each reader of a key stands as it should, and each writer of it, and the cell's stamps have reached both.
  module _ (a k : ℕ) (x : ℤ × ℕ) (s : V.seen a k ≡ Some x) where
    pub reader_after : Reader x.1 (W.fates a (ground_of k))
    reader_after =
        fate_after (Reader x.1) a k (λ e i. T.own.reads k x i (subst (λ b. V.seen b k ≡ Some x) e s)) (S.reader a k x s)

    pub read_after : Reached UpToRead (W.cells k) (W.fates a (ground_of k))
    read_after =
        fate_after (Reached UpToRead (W.cells k)) a k (λ e i. T.own.read_reached k x i (subst (λ b. V.seen b k ≡ Some x) e s))
        (reached_grown UpToRead (V.cells k) (W.cells k) (λ u. read_grown u (V.cells k) (W.cells k) (T.grown k))
        (V.fates a (ground_of k)) (S.read_reached a k x s))

  module _ (a k : ℕ) (x : ℤ) (s : V.put a k ≡ Some x) where
    pub writer_after : Writer (first k) (W.fates a (ground_of k))
    writer_after =
        fate_after (Writer (first k)) a k (λ e i. T.own.writes k x i (subst (λ b. V.put b k ≡ Some x) e s)) (S.writer a k x s)

    pub write_after : Reached UpToWrite (W.cells k) (W.fates a (ground_of k))
    write_after =
        fate_after (Reached UpToWrite (W.cells k)) a k (λ e i. T.own.write_reached k x i (subst (λ b. V.put b k ≡ Some x) e s))
        (reached_grown UpToWrite (V.cells k) (W.cells k) (λ u. write_grown u (V.cells k) (W.cells k) (T.grown k))
        (V.fates a (ground_of k)) (S.write_reached a k x s))

  -- The transaction as a reader.
  pub own_reading : (u k : ℕ) (x : ℤ × ℕ) (y : ℤ) → ground_of k ≡ g → eqb t u ≡ false → V.seen t k ≡ Some x → V.put u k ≡ Some y
      → OrderedAt W k x.1 (ground_of k) t u
  own_reading u k x y e n s p =
      subst (λ j. OrderedAt W k x.1 j t u) (sym e)
      (subst (Ordered (pos x.1) (Noted W.notes g t u) (W.cells k) (W.fates t g)) (sym (other u g n))
      (T.own.as_reader u k x y e n s p (subst (λ j. OrderedAt V k x.1 j t u) e (S.ordered t u k x y n s p))))

  -- As a writer that was read.
  pub own_writing : (u k : ℕ) (x : ℤ × ℕ) (y : ℤ) → ground_of k ≡ g → eqb t u ≡ false → V.seen u k ≡ Some x → V.put t k ≡ Some y
      → OrderedAt W k x.1 (ground_of k) u t
  own_writing u k x y e n s p =
      subst (λ j. OrderedAt W k x.1 j u t) (sym e)
      (subst (λ f. Ordered (pos x.1) (Noted W.notes g u t) (W.cells k) f (W.fates t g)) (sym (other u g n))
      (T.own.as_writer u k x y e n s p (subst (λ j. OrderedAt V k x.1 j u t) e (S.ordered u t k x y (eqb_turned t u n) s p))))

  -- And as a writer beside another.
  pub own_beside : (u k : ℕ) (x y : ℤ) → ground_of k ≡ g → eqb t u ≡ false → V.put t k ≡ Some x → V.put u k ≡ Some y
      → DistancedAt W k (ground_of k) t u
  own_beside u k x y e n s p =
      subst (λ j. DistancedAt W k j t u) (sym e)
      (subst (Distanced (Tied W.notes g t u) (W.cells k) (W.fates t g)) (sym (other u g n))
      (T.own.beside u k x y e n s p (subst (λ j. DistancedAt V k j t u) e (S.distanced t u k x y n s p))))
