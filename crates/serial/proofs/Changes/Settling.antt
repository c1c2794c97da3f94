-- A settlement of a committed transaction keeps the invariant: its range becomes its stamp, and its cells get what it read and wrote.
--   ValueFrom   the value of a cell is the one it had, or what the settled transaction put there
--   Settles     what a settlement changes
--   settles     the invariant is kept
use Rattle.std.proofs.Common.{◌≡◌, ℕ, true, false, eqb, ◌⊎◌, ℤ, pos, ◌≤ℤ◌, ◌<ℤ◌, Some, None, Option, sym, refl, ◌∙◌, subst, inl, inr, arith}
use Rattle.std.proofs.lemmas.Int.{ints}
use Rattle.std.proofs.lemmas.Bool.{false≢true}
use Rattle.store.specs.Stores.{Cells}
use Rattle.store.specs.declared.cell.Cell.{Cell}
use Rattle.base.specs.Keys.{ground_of}
use Rattle.serial.proofs.Ledger.Fates.{Fate, Away, Running, Past, Gone, Unsettled}
use Rattle.serial.proofs.Changes.Steady.{Grown, noted_more, tied_more}
use Rattle.serial.proofs.Changes.OneTurn.{Stays, own_standing}
use Rattle.serial.proofs.Changes.Turning.{turned}
use Rattle.serial.proofs.Changes.OneFate.{origin_kept}
use Rattle.serial.proofs.Invariant.{View, Origin, CellKept, CellKeptAt, Sound}
use Rattle.serial.proofs.Standing.{UpToWrite, UpToRead, Over, Noted, Tied, PastReader, PastWriter, Ordered, Reader, Writer}

-- A cell keeps its value and write stamp, or has those of the transaction.
abbrev pub ValueFrom : View → ℕ → ℕ → ℕ → ℕ → Cell → Cell → Type 0
ValueFrom V t g c k a b =
    ((b.value ≡ a.value) × (b.write.number ≡ a.write.number))
    ⊎ ((ground_of k ≡ g) × (V.put t k ≡ Some b.value) × (b.write.number ≡ c))

-- From V to W the transaction t is settled at g with the stamp c.
pub record Settles (V W : View) (t g c : ℕ) : Type 0 where
  pub stays : Stays V W t g
  pub grown : (k : ℕ) → Grown (V.cells k) (W.cells k)
  pub read_up : (k : ℕ) (x : ℤ × ℕ) → ground_of k ≡ g → V.seen t k ≡ Some x → UpToRead (pos c) (W.cells k)
  pub write_up : (k : ℕ) (x : ℤ) → ground_of k ≡ g → V.put t k ≡ Some x → UpToWrite (pos c) (W.cells k)
  pub value : (k : ℕ) (a b : Cell) → V.cells k ≡ Some a → W.cells k ≡ Some b → ValueFrom V t g c k a b

module _ (first : Cells) (V W : View) (t g c : ℕ) (S : Sound first V) (T : Settles V W t g c) (l u : ℤ)
    (was : V.fates t g ≡ Past false l u) (is : W.fates t g ≡ Past true (pos c) (pos c)) (least : l ≤ℤ pos c) (most : pos c ≤ℤ u) where
  still : Unsettled (V.fates t g)
  still = subst Unsettled (sym was) tt

  origin_after : (k : ℕ) (v : ℤ) (w : ℕ) → Origin first V k v w → Origin first W k v w
  origin_after = origin_kept first V W t g T.stays still

  value_after : (k : ℕ) (a b : Cell) → Origin first V k a.value a.write.number → ValueFrom V t g c k a b
      → Origin first W k b.value b.write.number
  value_after k a b o (inl e) =
      subst (λ v. Origin first W k v b.write.number) (sym e.0)
      (subst (λ w. Origin first W k a.value w) (sym e.1) (origin_after k a.value a.write.number o))
  value_after k a b o (inr e) =
      inr (
        t,
        subst (λ w. W.fates t (ground_of k) ≡ Past true (pos w) (pos w)) (sym e.2) (subst (λ j. W.fates t j ≡ Past true (pos c) (pos c)) (sym e.0) is),
        T.stays.put t k ∙ e.1,
      )

  cell_after : (k : ℕ) → CellKeptAt first W k
  cell_after k = go (first k) (V.cells k) (W.cells k) refl refl (T.grown k) (S.cell k)
    where
      go : (f a b : Option Cell) → V.cells k ≡ a → W.cells k ≡ b → Grown a b → CellKept first V k f a → CellKept first W k f b
      go None None None p q r h = tt
      go None None (Some b) p q r h = absurd r
      go None (Some a) b p q r h = absurd h
      go (Some f) None b p q r h = absurd h
      go (Some f) (Some a) None p q r h = absurd r
      go (Some f) (Some a) (Some b) p q r h =
          let i = h.0 in let j = r.0 in (omega arith, value_after k a b h.1 (T.value k a b p q))

  over_stamp : (o : Option Cell) → Over o l → Over o (pos c)
  over_stamp None h = tt
  over_stamp (Some f) h = omega (arith, ints)

  reading : (a k : ℕ) (x : ℤ × ℕ) → eqb t a ≡ false → (f : Fate) → V.fates a g ≡ f
      → PastReader (pos x.1) (Noted V.notes g t a) (V.cells k) false u f
      → PastReader (pos x.1) (Noted W.notes g t a) (W.cells k) true (pos c) f
  reading a k x n Away e o = tt
  reading a k x n Running e (inl o) = inl (noted_more V.notes W.notes T.stays.notes g t a o)
  reading a k x n Running e (inr o) = absurd (false≢true o.0)
  reading a k x n (Past b l₁ u₁) e (inl o) = inl o
  reading a k x n (Past b l₁ u₁) e (inr o) = inr (omega (arith, ints))
  reading a k x n Gone e o = tt

  writing : (a k : ℕ) (x : ℤ × ℕ) (y : ℤ) → ground_of k ≡ g → V.put t k ≡ Some y → eqb t a ≡ false → (f : Fate) → V.fates a g ≡ f
      → Ordered (pos x.1) (Noted V.notes g a t) (V.cells k) f (Past false l u)
      → Ordered (pos x.1) (Noted W.notes g a t) (W.cells k) f (Past true (pos c) (pos c))
  writing a k x y i p n Away e o = tt
  writing a k x y i p n Running e (inl o) = inl (omega (arith, ints))
  writing a k x y i p n Running e (inr o) = inr (noted_more V.notes W.notes T.stays.notes g a t o)
  writing a k x y i p n (Past b l₁ u₁) e (inl o) = inl (omega (arith, ints))
  writing a k x y i p n (Past b l₁ u₁) e (inr o) = inr (omega (arith, ints))
  writing a k x y i p n Gone e o = tt

  beside_writer : (a k : ℕ) (x : ℤ) → ground_of k ≡ g → V.put t k ≡ Some x → eqb t a ≡ false → (f : Fate) → V.fates a g ≡ f
      → PastWriter (Tied V.notes g t a) (V.cells k) false l u f → PastWriter (Tied W.notes g t a) (W.cells k) true (pos c) (pos c) f
  beside_writer a k x i p n Away e o = tt
  beside_writer a k x i p n Running e (inl o) = inl (tied_more V.notes W.notes T.stays.notes g t a o)
  beside_writer a k x i p n Running e (inr o) = absurd (false≢true o.0)
  beside_writer a k x i p n (Past b l₁ u₁) e (inl o) = inl (omega (arith, ints))
  beside_writer a k x i p n (Past b l₁ u₁) e (inr o) = inr (omega (arith, ints))
  beside_writer a k x i p n Gone e o = tt

  reader_was : (k : ℕ) (x : ℤ × ℕ) → ground_of k ≡ g → V.seen t k ≡ Some x → pos x.1 <ℤ l
  reader_was k x i s = subst (Reader x.1) was (subst (λ j. Reader x.1 (V.fates t j)) i (S.reader t k x s))

  writer_was : (k : ℕ) (x : ℤ) → ground_of k ≡ g → V.put t k ≡ Some x → Over (first k) l
  writer_was k x i s = subst (Writer (first k)) was (subst (λ j. Writer (first k) (V.fates t j)) i (S.writer t k x s))

  pub settles : Sound first W
  settles =
      turned first V W t g S (record {
        stays = T.stays;
        grown = T.grown;
        cell = cell_after;
        origin = origin_after;
        own =
            own_standing first V W t g (Past false l u) (Past true (pos c) (pos c)) was is
            (λ k x i s. let h = reader_was k x i s in omega (arith, ints)) (λ k x i s. over_stamp (first k) (writer_was k x i s))
            (λ k x i s _. T.read_up k x i s) (λ k x i s _. T.write_up k x i s) reading writing beside_writer;
      })
