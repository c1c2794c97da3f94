-- What holds of stamps lasts: only a decision gives one, and it suits every ground.
--   silent_stamped, turned_stamped   it lasts where nothing is said, and where a fate turns that has no stamp
--   settled_stamped                  where a fate is settled
--   committed_stamped                and where a decision gives a stamp
use Rattle.protocol.specs.Replies.{Response}
use Rattle.std.proofs.Common.{◌≡◌, ℕ, true, false, cond, ◌&&◌, eqb, ◌∷◌, ℤ, pos, Some, None, Option, sym, refl, ap, ◌∙◌, subst, ap₂, inl, inr, ⊎_elim, arith}
use Rattle.std.proofs.Common.{Ok}
use Rattle.std.proofs.lemmas.Int.{ints}
use Rattle.std.proofs.lemmas.Bool.{cases_eq, eq-eqb, ne_eqb}
use Rattle.base.specs.declared.stamp.Stamp.{Stamp}
use Rattle.protocol.specs.declared.call.Call.{Call}
use Rattle.protocol.specs.declared.call.Call.TheVariants as call
use Rattle.protocol.specs.declared.call.Reply.TheVariants as reply
use Rattle.serial.specs.Ledger.{History, commits}
use Rattle.serial.proofs.Ledger.InOrder.{CommitsOnce}
use Rattle.serial.proofs.Ledger.Fates.{Past, settled_fate, fate, stamp_of}
use Rattle.serial.proofs.Lines.Member.{In}
use Rattle.serial.proofs.Lines.RowKeys.{same_or_not}
use Rattle.serial.proofs.Ledger.Silent.{Silent}
use Rattle.serial.proofs.Invariant.{Suits, Stamped}
use Rattle.serial.proofs.Lines.All.{all_each}

-- What is said of a fate that is settled: its transaction has a stamp, which is both bounds.
abbrev HasStamp : History → ℕ → ℤ → ℤ → Type 0
HasStamp h t l u = (c : ℕ) × (stamp_of h t ≡ Some c) × (l ≡ pos c) × (u ≡ pos c)

-- A transaction has no stamp and a stamp.
none_some : (o : Option ℕ) (c : ℕ) → o ≡ None → o ≡ Some c → ⊥
none_some o c n s = absurd cc

module _ (h : History) (s : Stamped h) where
  -- An entry that says nothing new, and is no decision that commits.
  pub silent_stamped : (e : Call × Response) → Silent h e → commits (e ∷ h) ≡ commits h → Stamped (e ∷ h)
  silent_stamped e q cs = record {
    suits = λ t c g i. subst (Suits c) (sym (q.fates t g)) (s.suits t c g (sym (q.stamps t) ∙ i));
    settled = λ t g l u i.
        let p = s.settled t g l u (sym (q.fates t g) ∙ i) in (p.0, q.stamps t ∙ p.1, p.2, p.3);
    once = subst CommitsOnce (sym cs) s.once;
    listed = λ c i. q.stamps c.number ∙ s.listed c (subst (In c) cs i);
    found = λ t c i. subst (In (record { stamp = c; number = t })) (sym cs) (s.found t c (sym (q.stamps t) ∙ i));
  }

  -- The fate of t at g turns, and no stamp is given.
  pub turned_stamped : (e : Call × Response) (t g : ℕ) → ((u : ℕ) → stamp_of (e ∷ h) u ≡ stamp_of h u) → commits (e ∷ h) ≡ commits h
      → ((u j : ℕ) → (eqb t u && eqb g j) ≡ false → fate (e ∷ h) u j ≡ fate h u j)
      → ((c : ℕ) → stamp_of h t ≡ Some c → Suits c (fate (e ∷ h) t g))
      → ((l u : ℤ) → fate (e ∷ h) t g ≡ Past true l u → HasStamp h t l u)
      → Stamped (e ∷ h)
  turned_stamped e t g q cs others suits settled = record {
    suits = λ a c j i.
        ⊎_elim
        (λ (k : (a ≡ t) × (j ≡ g)).
        subst (λ b. Suits c (fate (e ∷ h) b j)) (sym k.0)
        (subst (λ b. Suits c (fate (e ∷ h) t b)) (sym k.1) (suits c (subst (λ b. stamp_of h b ≡ Some c) k.0 (sym (q a) ∙ i)))))
        (λ (n : (eqb t a && eqb g j) ≡ false). subst (Suits c) (sym (others a j n)) (s.suits a c j (sym (q a) ∙ i)))
        (same_or_not t g a j);
    settled = λ a j l u i.
        let p : HasStamp h a l u =
        ⊎_elim
        (λ (k : (a ≡ t) × (j ≡ g)).
        subst (λ b. HasStamp h b l u) (sym k.0)
        (settled l u (subst (λ b. fate (e ∷ h) b g ≡ Past true l u) k.0 (subst (λ b. fate (e ∷ h) a b ≡ Past true l u) k.1 i))))
        (λ (n : (eqb t a && eqb g j) ≡ false). s.settled a j l u (sym (others a j n) ∙ i))
        (same_or_not t g a j) in
        (p.0, q a ∙ p.1, p.2, p.3);
    once = subst CommitsOnce (sym cs) s.once;
    listed = λ c i. q c.number ∙ s.listed c (subst (In c) cs i);
    found = λ a c i. subst (In (record { stamp = c; number = a })) (sym cs) (s.found a c (sym (q a) ∙ i));
  }

  -- A settlement gives its transaction's stamp, if it has one, to both bounds.
  pub settled_stamped : (t g : ℕ) → fate ((call.Settle t g, (Ok reply.Done)) ∷ h) t g ≡ settled_fate (stamp_of h t)
      → ((u j : ℕ) → (eqb t u && eqb g j) ≡ false → fate ((call.Settle t g, (Ok reply.Done)) ∷ h) u j ≡ fate h u j)
      → Stamped ((call.Settle t g, (Ok reply.Done)) ∷ h)
  settled_stamped t g own others =
      turned_stamped (call.Settle t g, (Ok reply.Done)) t g (λ u. refl) refl others
      (λ c i. subst (Suits c) (sym (own ∙ ap settled_fate i)) (omega (arith, ints), omega (arith, ints)))
      (λ l u i. bounds (stamp_of h t) refl l u (sym own ∙ i))
    where
      bounds : (o : Option ℕ) → stamp_of h t ≡ o → (l u : ℤ) → settled_fate o ≡ Past true l u → HasStamp h t l u
      bounds None e l u i = absurd cc
      bounds (Some c) e l u i = (c, e, cc, cc)

  -- A decision to commit: nobody commits twice, and the stamp suits every ground.
  module _ (t : ℕ) (c : Stamp) (none : stamp_of h t ≡ None) (suits : (g : ℕ) → Suits c.number (fate h t g)) where
    abbrev entry : Call × Response
    entry = (call.Decide t, Ok (reply.Committed c))

    own_stamp : stamp_of (entry ∷ h) t ≡ Some c.number
    own_stamp = ap (λ b. cond b (Some c.number) (stamp_of h t)) (eq-eqb t t refl)

    other_stamp : (u : ℕ) → eqb t u ≡ false → stamp_of (entry ∷ h) u ≡ stamp_of h u
    other_stamp u n = ap (λ b. cond b (Some c.number) (stamp_of h u)) n

    -- Whoever has a stamp already is another.
    another : (u d : ℕ) → stamp_of h u ≡ Some d → eqb t u ≡ false
    another u d i = ne_eqb t u (λ e. none_some (stamp_of h t) d none (subst (λ b. stamp_of h b ≡ Some d) (sym e) i))

    pub committed_stamped : Stamped (entry ∷ h)
    committed_stamped = record {
      suits = λ u d g i.
          ⊎_elim
          (λ (e : t ≡ u).
          let same : d ≡ c.number = is_own u d e i in
          subst (λ b. Suits b (fate h u g)) (sym same) (subst (λ b. Suits c.number (fate h b g)) e (suits g)))
          (λ (n : t ≡ u → ⊥). s.suits u d g (sym (other_stamp u (ne_eqb t u n)) ∙ i))
          (cases_eq t u);
      settled = λ u g l r i.
          let p = s.settled u g l r i in (p.0, other_stamp u (another u p.0 p.1) ∙ p.1, p.2, p.3);
      once = (all_each (λ d. eqb t d.number ≡ false) (commits h) (λ d i. another d.number d.stamp (s.listed d i)), s.once);
      listed = λ d i.
          ⊎_elim
          (λ (e : record { stamp = c.number; number = t } ≡ d). subst (λ b. stamp_of (entry ∷ h) b.number ≡ Some b.stamp) e own_stamp)
          (λ (e : In d (commits h)).
          other_stamp d.number (another d.number d.stamp (s.listed d e)) ∙ s.listed d e)
          i;
      found = λ u d i.
          ⊎_elim
          (λ (e : t ≡ u). inl (let same : d ≡ c.number = is_own u d e i in ap₂ (λ (x y : ℕ). record { stamp = x; number = y }) (sym same) e))
          (λ (n : t ≡ u → ⊥). inr (s.found u d (sym (other_stamp u (ne_eqb t u n)) ∙ i)))
          (cases_eq t u);
    }
      where
        is_own : (u d : ℕ) → t ≡ u → stamp_of (entry ∷ h) u ≡ Some d → d ≡ c.number
        is_own u d e i =
            let j : Some c.number ≡ Some d = sym own_stamp ∙ subst (λ b. stamp_of (entry ∷ h) b ≡ Some d) (sym e) i in cc
