-- What an arrangement tells of a day, read by read: the serial run in plain words.
--   in_plain_words   what follows where the serial order tells the day
use Rattle.std.proofs.Common.{◌≡◌, ℕ, Bool, true, false, cond, eqb, List, [], ◌∷◌, ℤ, Some, None, Ok, Option, sym, refl, ap, ◌∙◌}
use Rattle.std.proofs.Common.{subst, inl, inr, arith}
use Rattle.std.proofs.lemmas.Bool.{and_parts, eq-eqb, eqb-true, false≢true, true≢false}
use Rattle.std.proofs.lemmas.Int.{ints}
use Rattle.std.specs.List.{list_all}
use Rattle.std.specs.Ordering.{int_eq}
use Rattle.base.specs.declared.stamp.Stamp.{Stamp}
use Rattle.store.specs.Stores.{Cells}
use Rattle.protocol.specs.Replies.{Response}
use Rattle.protocol.specs.declared.call.Call.{Call}
use Rattle.protocol.specs.declared.call.Call.TheVariants.{Read, Decide}
use Rattle.protocol.specs.declared.call.Reply.TheVariants.{Value, Committed}
use Rattle.serial.specs.Ledger.{History, Commit, reads_in, reads_of, commit_in, commits}
use Rattle.serial.specs.Arrangements.{Values, values, serial_order, ordered_commits, is_found, reads_found, values_before, values_after_one}
use Rattle.serial.specs.Serial.{Tells, IsSerial}
use Rattle.serial.proofs.Ledger.InOrder.{in_order_in}
use Rattle.serial.proofs.Lines.Member.{In, in_map, in_joined, in_contained}

-- What is found is the value.
found_is : (o : Option ℤ) (v : ℤ) → is_found o v ≡ true → o ≡ Some v
found_is None v e = absurd (false≢true e)
found_is (Some x) v e = ap Some (same x v e)
  where
    same : (x v : ℤ) → int_eq x v ≡ true → x ≡ v
    same x v e = grind (arith, ints)

-- A read in a list all of which were found.
found_each : (vs : Values) (ps : List (ℕ × ℤ)) (p : ℕ × ℤ) → list_all (λ q. is_found (vs q.0) q.1) ps ≡ true → In p ps
    → vs p.0 ≡ Some p.1
found_each vs [] p a i = absurd i
found_each vs (q ∷ qs) p a (inl e) =
    subst (λ x. vs x.0 ≡ Some x.1) e (found_is (vs q.0) q.1 (and_parts (is_found (vs q.0) q.1) _ a).0)
found_each vs (q ∷ qs) p a (inr i) = found_each vs qs p (and_parts (is_found (vs q.0) q.1) _ a).1 i

-- Each read of an arranged transaction was answered what it finds at its place.
told_reads : (h : History) (ts : List ℕ) (t : ℕ) (vs : Values) (p : ℕ × ℤ) → reads_found h ts vs ≡ true → In t ts → In p (reads_of h t)
    → values_before h ts t vs p.0 ≡ Some p.1
told_reads h [] t vs p a i j = absurd i
told_reads h (u ∷ us) t vs p a i j = go (eqb u t) refl (λ k. told_reads h us t (values_after_one h u vs) p both.1 k j)
  where
    both : (list_all (λ q. is_found (vs q.0) q.1) (reads_of h u) ≡ true) × (reads_found h us (values_after_one h u vs) ≡ true)
    both = and_parts (list_all (λ q. is_found (vs q.0) q.1) (reads_of h u)) _ a

    later : eqb u t ≡ false → In t (u ∷ us) → In t us
    later e (inl q) = absurd (true≢false (sym (eq-eqb u t q) ∙ e))
    later e (inr q) = q

    go : (b : Bool) → eqb u t ≡ b → (In t us → values_before h us t (values_after_one h u vs) p.0 ≡ Some p.1)
        → cond b vs (values_before h us t (values_after_one h u vs)) p.0 ≡ Some p.1
    go true e rest = found_each vs (reads_of h u) p both.0 (subst (λ x. In p (reads_of h x)) (sym (eqb-true u t e)) j)
    go false e rest = rest (later e i)

-- An accepted read is among those of its transaction.
read_listed : (h : History) (t k : ℕ) (v : ℤ) (s : Stamp) → In {X = Call × Response} (Read t k, Ok (Value v s)) h → In {X = ℕ × ℤ} (k, v) (reads_of h t)
read_listed h t k v s i =
    in_joined (λ (e : Call × Response). reads_in t e.0 e.1) (Read t k, Ok (Value v s)) (k, v) h i
    (subst (λ b. In {X = ℕ × ℤ} (k, v) (cond b ((k, v) ∷ []) [])) (sym (eq-eqb t t refl)) (inl refl))

-- Whoever committed is in the serial order.
commit_listed : (h : History) (t : ℕ) (c : Stamp) → In {X = Call × Response} (Decide t, Ok (Committed c)) h → In t (serial_order h)
commit_listed h t c i =
    let d : Commit = record { stamp = c.number; number = t } in
    in_map (λ (x : Commit). x.number) d (ordered_commits (commits h))
    (in_order_in d (commits h) (in_joined (λ (e : Call × Response). commit_in e.0 e.1) (Decide t, Ok (Committed c)) d h i (inl refl)))

pub in_plain_words : (first : Cells) (h : History) (now : Cells) → Tells first h now (serial_order h) → IsSerial first h now
in_plain_words first h now told = record {
  reads = λ t k v s c read decided.
      told_reads h (serial_order h) t (values first) (k, v) told.reads
      (commit_listed h t c (in_contained h (Decide t, Ok (Committed c)) decided))
      (read_listed h t k v s (in_contained h (Read t k, Ok (Value v s)) read));
  ends = λ paid k. told.ends k (paid _);
}
