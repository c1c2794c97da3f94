-- A prewrite keeps the invariant, where the transaction stands as it should to those who read or wrote the key.
--   wrote   one transaction put a value into one more cell, or another value into one
use Rattle.std.proofs.Common.{◌≡◌, ℕ, true, false, ◌&&◌, eqb, ℤ, pos, Some, Option, sym, ◌∙◌, subst, inl, inr, ⊎_elim}
use Rattle.std.proofs.lemmas.Bool.{and_left}
use Rattle.store.specs.Stores.{Cells}
use Rattle.store.specs.declared.cell.Cell.{Cell}
use Rattle.base.specs.Keys.{ground_of}
use Rattle.serial.proofs.Ledger.Fates.{Running, Past, Unsettled}
use Rattle.serial.proofs.Lines.RowKeys.{own_or_other, same_or_not}
use Rattle.serial.proofs.Changes.Steady.{tied_turned, distanced_turned}
use Rattle.serial.proofs.Lines.ByKey.{eqb_turned}
use Rattle.serial.proofs.Changes.OneFate.{kept_map}
use Rattle.serial.proofs.Changes.Seeing.{cell_from}
use Rattle.serial.proofs.Invariant.{View, Origin, OrderedAt, DistancedAt, Sound}
use Rattle.serial.proofs.Standing.{Writer, Reached, UpToWrite}

module _ (first : Cells) (V : View) (S : Sound first V) (t k : ℕ) (running : V.fates t (ground_of k) ≡ Running) where
  module _ (p : ℕ → ℕ → Option ℤ) (v : ℤ) (c : Cell) (at : V.cells k ≡ Some c)
      (others : (u j : ℕ) → (eqb t u && eqb k j) ≡ false → p u j ≡ V.put u j) (own : p t k ≡ Some v)
      (readers : (a : ℕ) (x : ℤ × ℕ) → eqb t a ≡ false → V.seen a k ≡ Some x → OrderedAt V k x.1 (ground_of k) a t)
      (writers : (a : ℕ) (y : ℤ) → eqb t a ≡ false → V.put a k ≡ Some y → DistancedAt V k (ground_of k) t a) where
    -- The view with what was put.
    abbrev view_put : View
    view_put = record { fates = V.fates; seen = V.seen; put = p; cells = V.cells; notes = V.notes }

    -- The transaction is not settled there, so it is the origin of nothing.
    origin_still : (j : ℕ) (x : ℤ) (w : ℕ) → Origin first V j x w → Origin first view_put j x w
    origin_still j x w (inl o) = inl o
    origin_still j x w (inr o) =
        ⊎_elim
        (λ (i : (o.0 ≡ t) × (j ≡ k)).
        absurd (subst Unsettled
        (subst (λ a. V.fates a (ground_of k) ≡ Past true (pos w) (pos w)) i.0
        (subst (λ b. V.fates o.0 (ground_of b) ≡ Past true (pos w) (pos w)) i.1 o.1))
        (subst Unsettled (sym running) tt)))
        (λ (n : (eqb t o.0 && eqb k j) ≡ false). inr (o.0, o.1, others o.0 j n ∙ o.2))
        (same_or_not t k o.0 j)

    -- The view with what was put keeps the invariant.
    pub wrote : Sound first view_put
    wrote = record {
      cell = λ j. kept_map first V view_put j (origin_still j) (first j) (V.cells j) (S.cell j);
      write_reached = λ a j x.
          own_or_other (λ a j. p a j ≡ Some x → Reached UpToWrite (V.cells j) (V.fates a (ground_of j))) t k a j
          (λ e. subst (Reached UpToWrite (V.cells k)) (sym running) tt) (λ n e. S.write_reached a j x (sym (others a j n) ∙ e));
      read_reached = S.read_reached;
      origin = λ a j x e. origin_still j x.0 x.1 (S.origin a j x e);
      has = λ a j x.
          own_or_other (λ a j. p a j ≡ Some x → (f : Cell) × (first j ≡ Some f)) t k a j
          (λ e. (cell_from first V k c at (S.cell k)).0) (λ n e. S.has a j x (sym (others a j n) ∙ e));
      reader = S.reader;
      writer = λ a j x.
          own_or_other (λ a j. p a j ≡ Some x → Writer (first j) (V.fates a (ground_of j))) t k a j
          (λ e. subst (Writer (first k)) (sym running) tt) (λ n e. S.writer a j x (sym (others a j n) ∙ e));
      ordered = λ a b j x y.
          own_or_other
          (λ b j. eqb a b ≡ false → V.seen a j ≡ Some x → p b j ≡ Some y → OrderedAt V j x.1 (ground_of j) a b) t k b j
          (λ d e q. readers a x (eqb_turned a t d) e) (λ n d e q. S.ordered a b j x y d e (sym (others b j n) ∙ q));
      distanced = λ a b j x y.
          own_or_other (λ a j. eqb a b ≡ false → p a j ≡ Some x → p b j ≡ Some y → DistancedAt V j (ground_of j) a b) t k a j
          (λ d e q. writers b y d (sym (others b k (and_left (eqb t b) _ d)) ∙ q))
          (λ n d e q. beside a b j x y n d e q);
    }
      where
        -- Of another transaction, or another key.
        beside : (a b j : ℕ) (x y : ℤ) → (eqb t a && eqb k j) ≡ false → eqb a b ≡ false → p a j ≡ Some x → p b j ≡ Some y
            → DistancedAt V j (ground_of j) a b
        beside a b j x y =
            own_or_other
            (λ b j. (eqb t a && eqb k j) ≡ false → eqb a b ≡ false → p a j ≡ Some x → p b j ≡ Some y
            → DistancedAt V j (ground_of j) a b) t k b j
            (λ n d e q.
            distanced_turned _ _ (tied_turned V.notes (ground_of k) t a) (V.cells k) (V.fates t (ground_of k)) (V.fates a (ground_of k))
            (writers a x (eqb_turned a t d) (sym (others a k n) ∙ e)))
            (λ m n d e q. S.distanced a b j x y d (sym (others a j n) ∙ e) (sym (others b j m) ∙ q))
