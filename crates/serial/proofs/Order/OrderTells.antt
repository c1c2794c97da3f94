-- The serial order tells a day, and ends with what is there, where each read and each value at the end has its source.
--   Source, order_tells   where each commit's reads come from; then the order tells the day
--   Final, order_ends     where the value at the end comes from; then the order ends with it
use Rattle.std.proofs.Common.{◌≡◌, ℕ, ◌<◌, true, false, eqb, ◌⊎◌, ℤ, Some, None, Option, sym, refl, ◌∙◌, inl, inr, ⊎_elim, arith}
use Rattle.std.proofs.ByRecursion.{All-weaker}
use Rattle.std.proofs.lemmas.Bool.{cases_Bool}
use Rattle.std.specs.List.{AllByRecursion}
use Rattle.serial.specs.Ledger.{History, Commit, commits, reads_of, last_prewrite}
use Rattle.serial.specs.Arrangements.{Values, serial_order, reads_found, is_earlier, ordered_commits, values_after}
use Rattle.serial.proofs.Ledger.InOrder.{CommitsOnce, once_same, stamp_earlier, earlier_most, earlier_not, in_order_sorted, in_order_in, in_in_order}
use Rattle.serial.proofs.Lines.Member.{In}
use Rattle.serial.proofs.Order.LastWriter.{Last, nobody, one, last_ends, last_tells}

-- The source of what commit c read as v at k: what was there at first, and every other writer of k comes after c; or a commit u that
-- wrote v there, earlier by its stamp, and every third writer is below u or above c.
pub data Source (h : History) (vs : Values) (c : Commit) (k : ℕ) (v : ℤ) : Type 0 where
  first : vs k ≡ Some v
      → ((d : Commit) → In d (commits h) → eqb d.number c.number ≡ false
      → (x : ℤ) → last_prewrite h d.number k ≡ Some x → c.stamp < d.stamp)
      → Source h vs c k v
  writer : (u : Commit) → In u (commits h) → eqb u.number c.number ≡ false → u.stamp < c.stamp → last_prewrite h u.number k ≡ Some v
      → ((d : Commit) → In d (commits h) → eqb d.number c.number ≡ false → eqb d.number u.number ≡ false
      → (x : ℤ) → last_prewrite h d.number k ≡ Some x → (d.stamp < u.stamp) ⊎ (c.stamp < d.stamp))
      → Source h vs c k v

-- The source of what is at k at the end: what was there at first, and nobody wrote there; or a commit u that wrote it, and every other
-- writer is below u.
pub data Final (h : History) (vs : Values) (k : ℕ) (o : Option ℤ) : Type 0 where
  untouched : o ≡ vs k → ((d : Commit) → In d (commits h) → last_prewrite h d.number k ≡ None) → Final h vs k o
  written : (u : Commit) → In u (commits h) → (v : ℤ) → o ≡ Some v → last_prewrite h u.number k ≡ Some v
      → ((d : Commit) → In d (commits h) → eqb d.number u.number ≡ false
      → (x : ℤ) → last_prewrite h d.number k ≡ Some x → d.stamp < u.stamp)
      → Final h vs k o

module _ (h : History) (vs : Values) (once : CommitsOnce (commits h)) where
  -- A commit is u, or has another number.
  apart : (Q : Type 0) (d u : Commit) → In d (commits h) → In u (commits h) → (eqb d.number u.number ≡ false → Q) → (d ≡ u) ⊎ Q
  apart Q d u i j f =
      ⊎_elim (λ (e : eqb d.number u.number ≡ true). inl (once_same (commits h) once d u i j e))
      (λ (e : eqb d.number u.number ≡ false). inr (f e)) (cases_Bool (eqb d.number u.number))

  -- Whoever comes before c has another number.
  before_apart : (d c : Commit) → In d (commits h) → In c (commits h) → is_earlier d c ≡ true → eqb d.number c.number ≡ false
  before_apart d c i j l = go (apart (eqb d.number c.number ≡ false) d c i j (λ e. e))
    where
      go : (d ≡ c) ⊎ (eqb d.number c.number ≡ false) → eqb d.number c.number ≡ false
      go (inl e) = let m = rw e at l in absurd (earlier_not c c m m)
      go (inr e) = e

  -- The source of a read is the last writer before its reader in the serial order.
  last_source : (c : Commit) → In c (commits h) → (k : ℕ) (v : ℤ) → Source h vs c k v
      → Last h (λ d. is_earlier d c) k (Some v) (ordered_commits (commits h)) vs
  last_source c j k v (first e f) =
      nobody e (λ d i l x w. let t = in_in_order d (commits h) i in late d l (f d t (before_apart d c t j l) x w))
    where
      late : (d : Commit) → is_earlier d c ≡ true → c.stamp < d.stamp → ⊥
      late d l g = let m = earlier_most d c l in omega arith
  last_source c j k v (writer u i n l w f) =
      one u (in_order_in u (commits h) i) (stamp_earlier u c l) v refl w
      (λ d m b x y. let t = in_in_order d (commits h) m in below d b (apart _ d u t i (λ e. f d t (before_apart d c t j b) e x y)))
    where
      below : (d : Commit) → is_earlier d c ≡ true → (d ≡ u) ⊎ ((d.stamp < u.stamp) ⊎ (c.stamp < d.stamp))
          → (d ≡ u) ⊎ (is_earlier d u ≡ true)
      below d b (inl e) = inl e
      below d b (inr (inl g)) = inr (stamp_earlier d u g)
      below d b (inr (inr g)) = let m = earlier_most d c b in absurd (omega arith)

  -- The source of what is there at the end is the last writer of all in the serial order.
  last_final : (k : ℕ) (o : Option ℤ) → Final h vs k o → Last h (λ d. true) k o (ordered_commits (commits h)) vs
  last_final k o (untouched e f) = nobody (sym e) (λ d i t x w. never x (sym (f d (in_in_order d (commits h) i)) ∙ w))
    where
      never : (x : ℤ) → ◌≡◌ {A = Option ℤ} None (Some x) → ⊥
      never x q = absurd cc
  last_final k o (written u i v e w f) =
      one u (in_order_in u (commits h) i) refl v e w
      (λ d t b x y. let j = in_in_order d (commits h) t in apart (is_earlier d u ≡ true) d u j i (λ n. stamp_earlier d u (f d j n x y)))

-- Where each read has its source, the serial order tells the day.
pub order_tells : (h : History) (vs : Values) → CommitsOnce (commits h)
    → ((c : Commit) → In c (commits h) → AllByRecursion (λ p. Source h vs c p.0 p.1) (reads_of h c.number))
    → reads_found h (serial_order h) vs ≡ true
order_tells h vs once a =
    last_tells h (ordered_commits (commits h)) vs (in_order_sorted (commits h) once)
    (λ c i. let j = in_in_order c (commits h) i in
    All-weaker _ _ (λ p s. last_source h vs once c j p.0 p.1 s) (reads_of h c.number) (a c j))

-- The serial order ends with what has its source.
pub order_ends : (h : History) (vs : Values) → CommitsOnce (commits h) → (k : ℕ) (o : Option ℤ) → Final h vs k o
    → values_after h (serial_order h) vs k ≡ o
order_ends h vs once k o f = last_ends h k o (ordered_commits (commits h)) vs (in_order_sorted (commits h) once) (last_final h vs once k o f)
