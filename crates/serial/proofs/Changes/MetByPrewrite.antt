-- How a transaction that prewrites a key for the first time stands to those whom it meets there, where the notes name the live ones.
--   met_readers   to every reader of the key as a writer should
--   met_writers   to every other writer of it as a writer should
use Rattle.std.proofs.Common.{◌≡◌, ℕ, true, false, eqb, ℤ, pos, Some, sym, refl, subst, inl, inr}
use Rattle.store.specs.Stores.{Cells}
use Rattle.base.specs.Keys.{ground_of}
use Rattle.serial.proofs.Ledger.Fates.{Fate, Away, Running, Past, Gone, Live}
use Rattle.serial.proofs.Invariant.{View, OrderedAt, DistancedAt, Sound}
use Rattle.serial.proofs.Standing.{Noted, Tied, RunningWriter, Ordered, Distanced, Reached, UpToRead, UpToWrite}

module _ (first : Cells) (V : View) (S : Sound first V) (t k : ℕ) (running : V.fates t (ground_of k) ≡ Running) where
  -- Whom a first prewrite meets: settled readers and writers are held off by the cell's stamps, live ones are noted.
  module _ (readers : (a : ℕ) (x : ℤ × ℕ) → eqb t a ≡ false → V.seen a k ≡ Some x → Live (V.fates a (ground_of k)) → Noted V.notes (ground_of k) a t)
      (writers : (a : ℕ) (y : ℤ) → eqb t a ≡ false → V.put a k ≡ Some y → Live (V.fates a (ground_of k)) → Tied V.notes (ground_of k) t a) where
    -- Each reader of the key comes before one who is Running there, by its fate.
    by_readers : (a : ℕ) (x : ℤ × ℕ) → eqb t a ≡ false → V.seen a k ≡ Some x → (f : Fate) → V.fates a (ground_of k) ≡ f
        → Ordered (pos x.1) (Noted V.notes (ground_of k) a t) (V.cells k) f Running
    by_readers a x n p Away e = tt
    by_readers a x n p Running e = readers a x n p (subst Live (sym e) tt)
    by_readers a x n p (Past true l u) e = inr (refl, subst (Reached UpToRead (V.cells k)) e (S.read_reached a k x p) refl)
    by_readers a x n p (Past false l u) e = inl (readers a x n p (subst Live (sym e) tt))
    by_readers a x n p Gone e = tt

    -- Each writer of the key is apart from one who is Running there, by its fate.
    by_writers : (a : ℕ) (y : ℤ) → eqb t a ≡ false → V.put a k ≡ Some y → (f : Fate) → V.fates a (ground_of k) ≡ f
        → RunningWriter (Tied V.notes (ground_of k) t a) (V.cells k) f
    by_writers a y n p Away e = tt
    by_writers a y n p Running e = writers a y n p (subst Live (sym e) tt)
    by_writers a y n p (Past true l u) e = inr (refl, subst (Reached UpToWrite (V.cells k)) e (S.write_reached a k y p) refl)
    by_writers a y n p (Past false l u) e = inl (writers a y n p (subst Live (sym e) tt))
    by_writers a y n p Gone e = tt

    -- The same of the transaction: it stands to every reader as a writer should.
    pub met_readers : (a : ℕ) (x : ℤ × ℕ) → eqb t a ≡ false → V.seen a k ≡ Some x → OrderedAt V k x.1 (ground_of k) a t
    met_readers a x n p =
        subst (Ordered (pos x.1) (Noted V.notes (ground_of k) a t) (V.cells k) (V.fates a (ground_of k))) (sym running)
        (by_readers a x n p (V.fates a (ground_of k)) refl)

    -- And to every other writer as a writer should.
    pub met_writers : (a : ℕ) (y : ℤ) → eqb t a ≡ false → V.put a k ≡ Some y → DistancedAt V k (ground_of k) t a
    met_writers a y n p =
        subst (λ f. Distanced (Tied V.notes (ground_of k) t a) (V.cells k) f (V.fates a (ground_of k))) (sym running)
        (by_writers a y n p (V.fates a (ground_of k)) refl)
