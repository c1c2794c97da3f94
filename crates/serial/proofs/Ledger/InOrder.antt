-- Commits in the order of (stamp, number): who is among them, and who comes before whom.
--   InSerialOrder   by rising stamp, equal stamps by rising number
--   CommitsOnce     no transaction commits twice
use Rattle.std.proofs.Common.{◌≡◌, ◌<◌, ◌≤◌, Bool, true, false, cond, eqb, ◌⊎◌, List, [], ◌∷◌, sym, refl, ◌∙◌, inl, inr, arith}
use Rattle.std.proofs.ByRecursion.{All-weaker}
use Rattle.std.proofs.lemmas.Bool.{true≢false}
use Rattle.std.proofs.lemmas.Bool.Decides.{nat_tests}
use Rattle.std.specs.List.{AllByRecursion}
use Rattle.serial.specs.Ledger.{Commit}
use Rattle.serial.specs.Arrangements.{is_earlier, insertion, ordered_commits}
use Rattle.serial.proofs.Lines.Member.{In, in_all}
use Rattle.serial.proofs.Lines.All.{all_each}

-- A lower stamp comes before.
pub stamp_earlier : (a b : Commit) → a.stamp < b.stamp → is_earlier a b ≡ true
stamp_earlier a b l = grind (arith, nat_tests)

-- Whoever comes before has no higher stamp.
pub earlier_most : (a b : Commit) → is_earlier a b ≡ true → a.stamp ≤ b.stamp
earlier_most a b e = grind (arith, nat_tests)

-- Two commits do not each come before the other.
pub earlier_not : (a b : Commit) → is_earlier a b ≡ true → is_earlier b a ≡ true → ⊥
earlier_not a b e d = grind (arith, nat_tests)

-- Who comes before one that comes before c comes before c.
earlier_through : (a b c : Commit) → is_earlier a b ≡ true → is_earlier b c ≡ true → is_earlier a c ≡ true
earlier_through a b c e d = grind (arith, nat_tests)

-- Of two commits of different transactions, one comes before the other.
earlier_other : (a b : Commit) → eqb a.number b.number ≡ false → is_earlier a b ≡ false → is_earlier b a ≡ true
earlier_other a b n e = grind (arith, nat_tests)

-- Commits by rising stamp, equal stamps by rising number.
abbrev pub InSerialOrder : List Commit → Type 0
InSerialOrder [] = Unit {0}
InSerialOrder (c ∷ cs) = AllByRecursion (λ d. is_earlier c d ≡ true) cs × InSerialOrder cs

-- No transaction commits twice.
abbrev pub CommitsOnce : List Commit → Type 0
CommitsOnce [] = Unit {0}
CommitsOnce (c ∷ cs) = AllByRecursion (λ d. eqb c.number d.number ≡ false) cs × CommitsOnce cs

-- Two commits of one transaction are one.
pub once_same : (cs : List Commit) → CommitsOnce cs → (a b : Commit) → In a cs → In b cs → eqb a.number b.number ≡ true → a ≡ b
once_same [] o a b i j e = absurd i
once_same (c ∷ cs) o a b (inl p) (inl q) e = sym p ∙ q
once_same (c ∷ cs) o a b (inl p) (inr j) e =
    let n = in_all (λ d. eqb c.number d.number ≡ false) b cs o.0 j in let m = rw (← p) at e in absurd (true≢false (sym m ∙ n))
once_same (c ∷ cs) o a b (inr i) (inl q) e =
    let n = in_all (λ d. eqb c.number d.number ≡ false) a cs o.0 i in let m = rw (← q) at e in grind (arith, nat_tests)
once_same (c ∷ cs) o a b (inr i) (inr j) e = once_same cs o.1 a b i j e

-- What holds of a commit and of some others holds of all with it in its place.
inserted_all : (Q : Commit → Type 0) (c : Commit) (ds : List Commit) → Q c → AllByRecursion Q ds → AllByRecursion Q (insertion c ds)
inserted_all Q c [] q a = (q, tt)
inserted_all Q c (d ∷ ds) q a = go (is_earlier c d) (inserted_all Q c ds q a.1)
  where
    go : (b : Bool) → AllByRecursion Q (insertion c ds) → AllByRecursion Q (cond b (c ∷ d ∷ ds) (d ∷ insertion c ds))
    go true later = (q, a)
    go false later = (a.0, later)

-- A commit put in its place among others in order.
inserted_sorted : (c : Commit) (ds : List Commit) → AllByRecursion (λ d. eqb c.number d.number ≡ false) ds → InSerialOrder ds → InSerialOrder (insertion c ds)
inserted_sorted c [] n s = (tt, tt)
inserted_sorted c (d ∷ ds) n s = go (is_earlier c d) refl (inserted_sorted c ds n.1 s.1)
  where
    go : (b : Bool) → is_earlier c d ≡ b → InSerialOrder (insertion c ds) → InSerialOrder (cond b (c ∷ d ∷ ds) (d ∷ insertion c ds))
    go true e later = ((e, All-weaker _ _ (λ x q. earlier_through c d x e q) ds s.0), s)
    go false e later = (inserted_all (λ x. is_earlier d x ≡ true) c ds (earlier_other c d n.0 e) s.0, later)

-- A commit that was put in, or was there, is there.
inserted_in : (c x : Commit) (ds : List Commit) → (c ≡ x) ⊎ In x ds → In x (insertion c ds)
inserted_in c x [] i = i
inserted_in c x (d ∷ ds) i = go (is_earlier c d) i (λ j. inserted_in c x ds j)
  where
    go : (b : Bool) → (c ≡ x) ⊎ ((d ≡ x) ⊎ In x ds) → ((c ≡ x) ⊎ In x ds → In x (insertion c ds))
        → In x (cond b (c ∷ d ∷ ds) (d ∷ insertion c ds))
    go true j later = j
    go false (inl q) later = inr (later (inl q))
    go false (inr (inl r)) later = inl r
    go false (inr (inr r)) later = inr (later (inr r))

-- What holds of all holds of all in order.
in_order_all : (Q : Commit → Type 0) (cs : List Commit) → AllByRecursion Q cs → AllByRecursion Q (ordered_commits cs)
in_order_all Q [] a = tt
in_order_all Q (c ∷ cs) a = inserted_all Q c (ordered_commits cs) a.0 (in_order_all Q cs a.1)

-- Commits of different transactions are sorted when in order.
pub in_order_sorted : (cs : List Commit) → CommitsOnce cs → InSerialOrder (ordered_commits cs)
in_order_sorted [] o = tt
in_order_sorted (c ∷ cs) o = inserted_sorted c (ordered_commits cs) (in_order_all _ cs o.0) (in_order_sorted cs o.1)

-- Whoever is in the list is in it when in order.
pub in_order_in : (x : Commit) (cs : List Commit) → In x cs → In x (ordered_commits cs)
in_order_in x [] i = i
in_order_in x (c ∷ cs) (inl e) = inserted_in c x (ordered_commits cs) (inl e)
in_order_in x (c ∷ cs) (inr i) = inserted_in c x (ordered_commits cs) (inr (in_order_in x cs i))

-- The other way round.
pub in_in_order : (x : Commit) (cs : List Commit) → In x (ordered_commits cs) → In x cs
in_in_order x cs = λ i. in_all (λ y. In y cs) x (ordered_commits cs) (in_order_all (λ y. In y cs) cs (all_each (λ y. In y cs) cs (λ y j. j))) i
