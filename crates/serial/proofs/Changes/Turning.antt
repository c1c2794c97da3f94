-- The invariant lasts when one transaction's fate turns at one ground, if it holds of that transaction there.
--   turned   if from V to W one fate turns, what holds of V holds of W
use Rattle.std.proofs.Common.{◌≡◌, ℕ, false, ◌&&◌, eqb, ℤ, pos, Some, sym, ◌∙◌, subst, ⊎_elim}
use Rattle.store.specs.Stores.{Cells}
use Rattle.base.specs.Keys.{ground_of}
use Rattle.serial.proofs.Lines.RowKeys.{same_or_not}
use Rattle.serial.proofs.Changes.Steady.{noted_more, tied_more, tied_turned, ordered_grown, distanced_grown, distanced_turned}
use Rattle.serial.proofs.Lines.ByKey.{eqb_turned}
use Rattle.serial.proofs.Changes.OneTurn.{Turn, reader_after, writer_after, read_after, write_after, own_reading, own_writing, own_beside}
use Rattle.serial.proofs.Invariant.{View, OrderedAt, DistancedAt, Sound}
use Rattle.serial.proofs.Standing.{Noted, Tied, Ordered, Distanced}

module _ (first : Cells) (V W : View) (t g : ℕ) (S : Sound first V) (T : Turn first V W t g) where
  -- Two transactions of which neither is t, at g: a reader and a writer, and two writers, stand to each other as they did.
  ordered_others : (a b k : ℕ) (x : ℤ × ℕ) → (eqb t a && eqb g (ground_of k)) ≡ false → (eqb t b && eqb g (ground_of k)) ≡ false
      → OrderedAt V k x.1 (ground_of k) a b → OrderedAt W k x.1 (ground_of k) a b
  ordered_others a b k x n m o =
      subst (λ f. Ordered (pos x.1) (Noted W.notes (ground_of k) a b) (W.cells k) f (W.fates b (ground_of k)))
      (sym (T.stays.others a (ground_of k) n))
      (subst (Ordered (pos x.1) (Noted W.notes (ground_of k) a b) (W.cells k) (V.fates a (ground_of k)))
      (sym (T.stays.others b (ground_of k) m))
      (ordered_grown (Noted V.notes (ground_of k) a b) (Noted W.notes (ground_of k) a b)
      (noted_more V.notes W.notes T.stays.notes (ground_of k) a b) (V.cells k) (W.cells k) (T.grown k) (pos x.1)
      (V.fates a (ground_of k)) (V.fates b (ground_of k)) o))

  distanced_others : (a b k : ℕ) → (eqb t a && eqb g (ground_of k)) ≡ false → (eqb t b && eqb g (ground_of k)) ≡ false
      → DistancedAt V k (ground_of k) a b → DistancedAt W k (ground_of k) a b
  distanced_others a b k n m o =
      subst (λ f. Distanced (Tied W.notes (ground_of k) a b) (W.cells k) f (W.fates b (ground_of k)))
      (sym (T.stays.others a (ground_of k) n))
      (subst (Distanced (Tied W.notes (ground_of k) a b) (W.cells k) (V.fates a (ground_of k)))
      (sym (T.stays.others b (ground_of k) m))
      (distanced_grown (Tied V.notes (ground_of k) a b) (Tied W.notes (ground_of k) a b)
      (tied_more V.notes W.notes T.stays.notes (ground_of k) a b) (V.cells k) (W.cells k) (T.grown k)
      (V.fates a (ground_of k)) (V.fates b (ground_of k)) o))

  -- Each reader of a key stands to each writer of it as it should.
  ordered_after : (a b k : ℕ) (x : ℤ × ℕ) (y : ℤ) → eqb a b ≡ false → V.seen a k ≡ Some x → V.put b k ≡ Some y
      → OrderedAt W k x.1 (ground_of k) a b
  ordered_after a b k x y d s p =
      ⊎_elim
      (λ (e : (a ≡ t) × (ground_of k ≡ g)).
      subst (λ c. OrderedAt W k x.1 (ground_of k) c b) (sym e.0)
      (own_reading first V W t g S T b k x y e.1 (subst (λ c. eqb c b ≡ false) e.0 d) (subst (λ c. V.seen c k ≡ Some x) e.0 s) p))
      (λ (n : (eqb t a && eqb g (ground_of k)) ≡ false).
      ⊎_elim
      (λ (e : (b ≡ t) × (ground_of k ≡ g)).
      subst (λ c. OrderedAt W k x.1 (ground_of k) a c) (sym e.0)
      (own_writing first V W t g S T a k x y e.1 (eqb_turned a t (subst (λ c. eqb a c ≡ false) e.0 d)) s (subst (λ c. V.put c k ≡ Some y) e.0 p)))
      (λ (m : (eqb t b && eqb g (ground_of k)) ≡ false). ordered_others a b k x n m (S.ordered a b k x y d s p))
      (same_or_not t g b (ground_of k)))
      (same_or_not t g a (ground_of k))

  -- And each writer of it to each other writer.
  distanced_after : (a b k : ℕ) (x y : ℤ) → eqb a b ≡ false → V.put a k ≡ Some x → V.put b k ≡ Some y
      → DistancedAt W k (ground_of k) a b
  distanced_after a b k x y d s p =
      ⊎_elim
      (λ (e : (a ≡ t) × (ground_of k ≡ g)).
      subst (λ c. DistancedAt W k (ground_of k) c b) (sym e.0)
      (own_beside first V W t g S T b k x y e.1 (subst (λ c. eqb c b ≡ false) e.0 d) (subst (λ c. V.put c k ≡ Some x) e.0 s) p))
      (λ (n : (eqb t a && eqb g (ground_of k)) ≡ false).
      ⊎_elim
      (λ (e : (b ≡ t) × (ground_of k ≡ g)).
      subst (λ c. DistancedAt W k (ground_of k) a c) (sym e.0)
      (distanced_turned _ _ (tied_turned W.notes (ground_of k) t a) (W.cells k) (W.fates t (ground_of k)) (W.fates a (ground_of k))
      (own_beside first V W t g S T a k y x e.1 (eqb_turned a t (subst (λ c. eqb a c ≡ false) e.0 d)) (subst (λ c. V.put c k ≡ Some y) e.0 p) s)))
      (λ (m : (eqb t b && eqb g (ground_of k)) ≡ false). distanced_others a b k n m (S.distanced a b k x y d s p))
      (same_or_not t g b (ground_of k)))
      (same_or_not t g a (ground_of k))

  -- So the invariant lasts.
  pub turned : Sound first W
  turned = record {
    cell = T.cell;
    origin = λ a k x s. T.origin k x.0 x.1 (S.origin a k x (sym (T.stays.seen a k) ∙ s));
    has = λ a k x s. S.has a k x (sym (T.stays.put a k) ∙ s);
    write_reached = λ a k x s. write_after first V W t g S T a k x (sym (T.stays.put a k) ∙ s);
    read_reached = λ a k x s. read_after first V W t g S T a k x (sym (T.stays.seen a k) ∙ s);
    reader = λ a k x s. reader_after first V W t g S T a k x (sym (T.stays.seen a k) ∙ s);
    writer = λ a k x s. writer_after first V W t g S T a k x (sym (T.stays.put a k) ∙ s);
    ordered = λ a b k x y d s p. ordered_after a b k x y d (sym (T.stays.seen a k) ∙ s) (sym (T.stays.put b k) ∙ p);
    distanced = λ a b k x y d s p. distanced_after a b k x y d (sym (T.stays.put a k) ∙ s) (sym (T.stays.put b k) ∙ p);
  }
