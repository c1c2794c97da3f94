-- A validation that passes keeps the invariant, if its range lies where reads, writes and notes say.
--   Fits         the range lies where they say
--   cell_there   a key that is prewritten has a cell
--   passes       the invariant is kept
use Rattle.std.proofs.Common.{◌≡◌, ℕ, Bool, false, eqb, ◌⊎◌, ℤ, pos, ◌≤ℤ◌, ◌<ℤ◌, Some, None, Option, sym, refl, subst, inl, inr, arith}
use Rattle.std.proofs.lemmas.Int.{ints}
use Rattle.std.proofs.lemmas.Bool.{false≢true}
use Rattle.store.specs.Stores.{Cells}
use Rattle.store.specs.declared.cell.Cell.{Cell}
use Rattle.base.specs.Keys.{ground_of}
use Rattle.serial.proofs.Ledger.Fates.{Fate, Away, Running, Past, Gone, Unsettled}
use Rattle.serial.proofs.Changes.Steady.{noted_more, tied_more}
use Rattle.serial.proofs.Changes.OneTurn.{own_standing}
use Rattle.serial.proofs.Changes.Turning.{turned}
use Rattle.serial.proofs.Changes.OneFate.{OneFate, fate_turn}
use Rattle.serial.proofs.Invariant.{View, CellKept, Sound}
use Rattle.serial.proofs.Standing.{UpToWrite, UpToRead, Over, Noted, Tied, RunningReader, PastReader, RunningWriter, PastWriter, Ordered}

-- A key that was written has a cell.
pub cell_there : (first : Cells) (V : View) → Sound first V → (t k : ℕ) (x : ℤ) → V.put t k ≡ Some x → (c : Cell) × (V.cells k ≡ Some c)
cell_there first V S t k x p = let f = S.has t k x p in go f.0 (V.cells k) refl (subst (λ o. CellKept first V k o (V.cells k)) f.1 (S.cell k))
  where
    go : (f : Cell) (o : Option Cell) → V.cells k ≡ o → CellKept first V k (Some f) (V.cells k) → (c : Cell) × (V.cells k ≡ Some c)
    go f None e h = absurd (subst (CellKept first V k (Some f)) e h)
    go f (Some c) e h = (c, e)

-- The range from l to u lies above what t saw and above the stamps of the cells that it writes, and keeps to the notes.
pub record Fits (V : View) (t g : ℕ) (l u : ℤ) : Type 0 where
  pub reads : (k : ℕ) (x : ℤ × ℕ) → ground_of k ≡ g → V.seen t k ≡ Some x → pos x.1 <ℤ l
  pub writes : (k : ℕ) (x : ℤ) (c : Cell) → ground_of k ≡ g → V.put t k ≡ Some x → V.cells k ≡ Some c
      → (pos c.write.number <ℤ l) × (pos c.read.number <ℤ l)
  pub later : (a : ℕ) (b : Bool) (l₁ u₁ : ℤ) → eqb t a ≡ false → V.fates a g ≡ Past b l₁ u₁ → Noted V.notes g t a → u <ℤ l₁
  pub earlier : (a : ℕ) (b : Bool) (l₁ u₁ : ℤ) → eqb t a ≡ false → V.fates a g ≡ Past b l₁ u₁ → Noted V.notes g a t → u₁ <ℤ l
  pub apart : (a : ℕ) (b : Bool) (l₁ u₁ : ℤ) → eqb t a ≡ false → V.fates a g ≡ Past b l₁ u₁ → Tied V.notes g t a
      → (u <ℤ l₁) ⊎ (u₁ <ℤ l)

module _ (first : Cells) (V W : View) (t g : ℕ) (S : Sound first V) (O : OneFate V W t g) (l u : ℤ)
    (was : V.fates t g ≡ Running) (is : W.fates t g ≡ Past false l u) (F : Fits V t g l u) where
  -- Above what the cell of a key that it writes has reached.
  over_read : (k : ℕ) (x : ℤ) → ground_of k ≡ g → V.put t k ≡ Some x → (y : ℤ) → UpToRead y (V.cells k) → y <ℤ l
  over_read k x i p y h =
      let c = cell_there first V S t k x p in
      let q = F.writes k x c.0 i p c.1 in
      let d = q.1 in
      let e : y ≤ℤ pos c.0.read.number = subst (UpToRead y) c.1 h in
      omega (arith, ints)

  over_write : (k : ℕ) (x : ℤ) → ground_of k ≡ g → V.put t k ≡ Some x → (y : ℤ) → UpToWrite y (V.cells k) → y <ℤ l
  over_write k x i p y h =
      let c = cell_there first V S t k x p in
      let q = F.writes k x c.0 i p c.1 in
      let d = q.0 in
      let e : y ≤ℤ pos c.0.write.number = subst (UpToWrite y) c.1 h in
      omega (arith, ints)

  over_first : (k : ℕ) (x : ℤ) → ground_of k ≡ g → V.put t k ≡ Some x → Over (first k) l
  over_first k x i p =
      let c = cell_there first V S t k x p in
      go c.0 (first k) (F.writes k x c.0 i p c.1).0 (subst (CellKept first V k (first k)) c.1 (S.cell k))
    where
      go : (c : Cell) (o : Option Cell) → pos c.write.number <ℤ l → CellKept first V k o (Some c) → Over o l
      go c None d h = tt
      go c (Some f) d h = let e = h.0 in omega (arith, ints)

  -- As a reader.
  reading : (a k : ℕ) (x : ℤ × ℕ) → eqb t a ≡ false → (f : Fate) → V.fates a g ≡ f → RunningReader (pos x.1) (Noted V.notes g t a) f
      → PastReader (pos x.1) (Noted W.notes g t a) (W.cells k) false u f
  reading a k x n Away e o = tt
  reading a k x n Running e o = inl (noted_more V.notes W.notes O.stays.notes g t a o)
  reading a k x n (Past b l₁ u₁) e (inl o) = inl o
  reading a k x n (Past b l₁ u₁) e (inr o) = inr (F.later a b l₁ u₁ n e o)
  reading a k x n Gone e o = tt

  -- As a writer that a reads.
  writing : (a k : ℕ) (x : ℤ × ℕ) (y : ℤ) → ground_of k ≡ g → V.put t k ≡ Some y → eqb t a ≡ false → (f : Fate) → V.fates a g ≡ f
      → Ordered (pos x.1) (Noted V.notes g a t) (V.cells k) f Running
      → Ordered (pos x.1) (Noted W.notes g a t) (W.cells k) f (Past false l u)
  writing a k x y i p n Away e o = tt
  writing a k x y i p n Running e o = inr (noted_more V.notes W.notes O.stays.notes g a t o)
  writing a k x y i p n (Past b l₁ u₁) e (inl o) = inr (F.earlier a b l₁ u₁ n e o)
  writing a k x y i p n (Past b l₁ u₁) e (inr o) = inr (over_read k y i p u₁ o.1)
  writing a k x y i p n Gone e o = tt

  -- Beside another writer.
  beside_writer : (a k : ℕ) (x : ℤ) → ground_of k ≡ g → V.put t k ≡ Some x → eqb t a ≡ false → (f : Fate) → V.fates a g ≡ f
      → RunningWriter (Tied V.notes g t a) (V.cells k) f → PastWriter (Tied W.notes g t a) (W.cells k) false l u f
  beside_writer a k x i p n Away e o = tt
  beside_writer a k x i p n Running e o = inl (tied_more V.notes W.notes O.stays.notes g t a o)
  beside_writer a k x i p n (Past b l₁ u₁) e (inl o) = F.apart a b l₁ u₁ n e o
  beside_writer a k x i p n (Past b l₁ u₁) e (inr o) = inr (over_write k x i p u₁ o.1)
  beside_writer a k x i p n Gone e o = tt

  still : Unsettled (V.fates t g)
  still = subst Unsettled (sym was) tt

  pub passes : Sound first W
  passes =
      turned first V W t g S (fate_turn first V W t g S O still
      (own_standing first V W t g Running (Past false l u) was is F.reads over_first
      (λ k x i s e. absurd (false≢true e)) (λ k x i s e. absurd (false≢true e)) reading writing beside_writer))
