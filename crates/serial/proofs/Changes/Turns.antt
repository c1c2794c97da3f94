-- The turns that a fate takes, each of which keeps the invariant: a first read or prewrite at a ground, and an end without a stamp.
--   touched   a read or prewrite at the ground was accepted
--   gone      the transaction is gone there
use Rattle.std.proofs.Common.{◌≡◌, ℕ, ℤ, pos, Some, Option, sym, refl, ◌∙◌, subst}
use Rattle.store.specs.Stores.{Cells}
use Rattle.store.specs.declared.cell.Cell.{Cell}
use Rattle.base.specs.Keys.{ground_of}
use Rattle.serial.proofs.Ledger.Fates.{Fate, Away, Running, Past, Gone, fate_begun, Unsettled}
use Rattle.serial.proofs.Changes.Steady.{noted_more, tied_more, ordered_grown, distanced_grown}
use Rattle.serial.proofs.Changes.OneTurn.{OwnStanding, own_standing}
use Rattle.serial.proofs.Changes.Turning.{turned}
use Rattle.serial.proofs.Changes.OneFate.{OneFate, grown_same, reader_at, writer_at, read_at, write_at, fate_turn}
use Rattle.serial.proofs.Invariant.{View, Sound}
use Rattle.serial.proofs.Standing.{Noted, Tied, Ordered, Distanced, Reader, Writer, Reached, UpToRead, UpToWrite}

-- A read or prewrite changes no fate of one who read there, and none of one who wrote there.
pub begun_here : (w : ℕ) (f : Fate) → Reader w f → fate_begun f ≡ f
begun_here w Away h = absurd h
begun_here w Running h = refl
begun_here w (Past b l u) h = refl
begun_here w Gone h = refl

begun_there : (o : Option Cell) (f : Fate) → Writer o f → fate_begun f ≡ f
begun_there o Away h = absurd h
begun_there o Running h = refl
begun_there o (Past b l u) h = refl
begun_there o Gone h = refl

-- A writer that is gone stands to every reader as it should.
gone_second : (w : ℤ) (N : Type 0) (c : Option Cell) (f : Fate) → Ordered w N c f Gone
gone_second w N c Away = tt
gone_second w N c Running = tt
gone_second w N c (Past b l u) = tt
gone_second w N c Gone = tt

module _ (first : Cells) (V W : View) (t g : ℕ) (S : Sound first V) (O : OneFate V W t g) (still : Unsettled (V.fates t g)) where
  -- A fate that does not turn after all.
  module _ (turn : Fate → Fate) (e : W.fates t g ≡ turn (V.fates t g))
      (r : (w : ℕ) (f : Fate) → Reader w f → turn f ≡ f)
      (p : (o : Option Cell) (f : Fate) → Writer o f → turn f ≡ f) where
    -- Where t read a key of the ground, its fate is what it was.
    by_reader : (k : ℕ) (x : ℤ × ℕ) → ground_of k ≡ g → V.seen t k ≡ Some x → V.fates t g ≡ W.fates t g
    by_reader k x i s = sym (e ∙ r x.1 (V.fates t g) (reader_at first V W t g S O still k x i s))

    -- And where it wrote one.
    by_writer : (k : ℕ) (x : ℤ) → ground_of k ≡ g → V.put t k ≡ Some x → V.fates t g ≡ W.fates t g
    by_writer k x i s = sym (e ∙ p (first k) (V.fates t g) (writer_at first V W t g S O still k x i s))

    -- So what holds of t there lasts.
    lasting : OwnStanding first V W t g
    lasting = record {
      reads = λ k x i s. subst (Reader x.1) (by_reader k x i s) (reader_at first V W t g S O still k x i s);
      writes = λ k x i s. subst (Writer (first k)) (by_writer k x i s) (writer_at first V W t g S O still k x i s);
      read_reached = λ k x i s.
          subst (Reached UpToRead (W.cells k)) (by_reader k x i s) (read_at first V W t g S O still k x i s);
      write_reached = λ k x i s.
          subst (Reached UpToWrite (W.cells k)) (by_writer k x i s) (write_at first V W t g S O still k x i s);
      as_reader = λ u k x y i n s q o.
          subst (λ f. Ordered (pos x.1) (Noted W.notes g t u) (W.cells k) f (V.fates u g)) (by_reader k x i s)
          (ordered_grown (Noted V.notes g t u) (Noted W.notes g t u) (noted_more V.notes W.notes O.stays.notes g t u)
          (V.cells k) (W.cells k) (grown_same first V W t g S O still k) (pos x.1) (V.fates t g) (V.fates u g) o);
      as_writer = λ u k x y i n s q o.
          subst (Ordered (pos x.1) (Noted W.notes g u t) (W.cells k) (V.fates u g)) (by_writer k y i q)
          (ordered_grown (Noted V.notes g u t) (Noted W.notes g u t) (noted_more V.notes W.notes O.stays.notes g u t)
          (V.cells k) (W.cells k) (grown_same first V W t g S O still k) (pos x.1) (V.fates u g) (V.fates t g) o);
      beside = λ u k x y i n s q o.
          subst (λ f. Distanced (Tied W.notes g t u) (W.cells k) f (V.fates u g)) (by_writer k x i s)
          (distanced_grown (Tied V.notes g t u) (Tied W.notes g t u) (tied_more V.notes W.notes O.stays.notes g t u)
          (V.cells k) (W.cells k) (grown_same first V W t g S O still k) (V.fates t g) (V.fates u g) o);
    }

  -- A read or prewrite at the ground was accepted.
  pub touched : W.fates t g ≡ fate_begun (V.fates t g) → Sound first W
  touched e = turned first V W t g S (fate_turn first V W t g S O still (lasting fate_begun e begun_here begun_there))

  -- The transaction is gone there.
  pub gone : W.fates t g ≡ Gone → Sound first W
  gone e =
      turned first V W t g S (fate_turn first V W t g S O still
      (own_standing first V W t g (V.fates t g) Gone refl e (λ k x _ _. tt) (λ k x _ _. tt) (λ k x _ _. tt) (λ k x _ _. tt) (λ u k x _ f _ _. tt)
      (λ u k x y _ _ _ f _ _. gone_second (pos x.1) (Noted W.notes g u t) (W.cells k) f) (λ u k x _ _ _ f _ _. tt)))
