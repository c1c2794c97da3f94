-- An arrangement of commits tells a day, and ends with what is there, where the last writer of each key wrote it.
--   Last         the last writer of a key among those of some commits that pass a test
--   last_tells   an arrangement tells the day, if each read was answered what the last writer before its reader wrote
--   last_ends    at its end is what the last writer of all wrote
use Rattle.std.proofs.Common.{◌≡◌, ℕ, Bool, true, ◌⊎◌, List, [], ◌∷◌, map, ℤ, Some, None, Option, sym, refl, ap, ◌∙◌, subst, inl, inr, arith}
use Rattle.std.proofs.ByRecursion.{All-weaker}
use Rattle.std.proofs.lemmas.Bool.{and_from}
use Rattle.std.proofs.lemmas.Int.{ints}
use Rattle.std.specs.List.{AllByRecursion, list_all}
use Rattle.std.specs.Option.{option_or}
use Rattle.std.specs.Ordering.{int_eq}
use Rattle.serial.specs.Ledger.{History, Commit, reads_of, last_prewrite}
use Rattle.serial.specs.Arrangements.{Values, reads_found, is_found, is_earlier, values_after_one, values_after}
use Rattle.serial.proofs.Ledger.InOrder.{InSerialOrder, earlier_not}
use Rattle.serial.proofs.Lines.Member.{In, in_all}

-- The last writer of k among those of some commits that pass a test: nobody, and o is there; or u, which wrote o.
pub data Last (h : History) (p : Commit → Bool) (k : ℕ) (o : Option ℤ) (cs : List Commit) (vs : Values) : Type 0 where
  nobody : vs k ≡ o → ((d : Commit) → In d cs → p d ≡ true → (x : ℤ) → last_prewrite h d.number k ≡ Some x → ⊥) → Last h p k o cs vs
  one : (u : Commit) → In u cs → p u ≡ true → (v : ℤ) → o ≡ Some v → last_prewrite h u.number k ≡ Some v
      → ((d : Commit) → In d cs → p d ≡ true → (x : ℤ) → last_prewrite h d.number k ≡ Some x → (d ≡ u) ⊎ (is_earlier d u ≡ true))
      → Last h p k o cs vs

module _ (h : History) (p : Commit → Bool) (k : ℕ) (o : Option ℤ) where
  -- Where nobody passes, the value is there.
  last_none : (cs : List Commit) (vs : Values) → ((d : Commit) → In d cs → p d ≡ true → ⊥) → Last h p k o cs vs → vs k ≡ o
  last_none cs vs n (nobody e f) = e
  last_none cs vs n (one u i q v e w f) = absurd (n u i q)

  -- The first commit passes, and its turn is over.
  last_next : (a : Commit) (cs : List Commit) (vs : Values) → AllByRecursion (λ d. is_earlier a d ≡ true) cs → p a ≡ true
      → Last h p k o (a ∷ cs) vs → Last h p k o cs (values_after_one h a.number vs)
  last_next a cs vs s q (nobody e f) = nobody (go (last_prewrite h a.number k) refl) (λ d i. f d (inr i))
    where
      go : (w : Option ℤ) → last_prewrite h a.number k ≡ w → option_or w (vs k) ≡ o
      go None r = e
      go (Some x) r = absurd (f a (inl refl) q x r)
  last_next a cs vs s q (one u (inl b) r v e w f) =
      nobody (ap (λ z. option_or z (vs k)) (subst (λ z. last_prewrite h z.number k ≡ Some v) (sym b) w) ∙ sym e)
      (λ d i t x y. late d (in_all (λ z. is_earlier a z ≡ true) d cs s i) (f d (inr i) t x y))
    where
      late : (d : Commit) → is_earlier a d ≡ true → (d ≡ u) ⊎ (is_earlier d u ≡ true) → ⊥
      late d l (inl g) = let m = rw (g ∙ sym b) at l in earlier_not a a m m
      late d l (inr g) = let m = rw (← b) at g in earlier_not a d l m
  last_next a cs vs s q (one u (inr i) r v e w f) = one u i r v e w (λ d j. f d (inr j))

-- At the end is what the last writer of all wrote.
pub last_ends : (h : History) (k : ℕ) (o : Option ℤ) (cs : List Commit) (vs : Values) → InSerialOrder cs → Last h (λ d. true) k o cs vs
    → values_after h (map (λ c. c.number) cs) vs k ≡ o
last_ends h k o [] vs s l = last_none h (λ d. true) k o [] vs (λ d i q. i) l
last_ends h k o (c ∷ cs) vs s l =
    last_ends h k o cs (values_after_one h c.number vs) s.1 (last_next h (λ d. true) k o c cs vs s.0 refl l)

-- A value is the same as itself.
same_self : (v : ℤ) → int_eq v v ≡ true
same_self v = grind (arith, ints)

-- Reads that were answered what is there.
found_all : (vs : Values) (ps : List (ℕ × ℤ)) → AllByRecursion (λ p. vs p.0 ≡ Some p.1) ps → list_all (λ p. is_found (vs p.0) p.1) ps ≡ true
found_all vs [] a = refl
found_all vs (p ∷ ps) a =
    and_from (is_found (vs p.0) p.1) _ (ap (λ o. is_found o p.1) a.0 ∙ same_self p.1) (found_all vs ps a.1)

-- Each read of c was answered what the last writer before c wrote.
abbrev AnswersLast : History → List Commit → Values → Commit → Type 0
AnswersLast h cs vs c = AllByRecursion (λ p. Last h (λ d. is_earlier d c) p.0 (Some p.1) cs vs) (reads_of h c.number)

-- An arrangement all of whose reads were answered so tells the day.
pub last_tells : (h : History) (cs : List Commit) (vs : Values) → InSerialOrder cs → ((c : Commit) → In c cs → AnswersLast h cs vs c)
    → reads_found h (map (λ c. c.number) cs) vs ≡ true
last_tells h [] vs s a = refl
last_tells h (c ∷ cs) vs s a =
    and_from (list_all (λ p. is_found (vs p.0) p.1) (reads_of h c.number)) _
    (found_all vs _
    (All-weaker _ _ (λ p l. last_none h (λ d. is_earlier d c) p.0 (Some p.1) (c ∷ cs) vs alone l)
    (reads_of h c.number) (a c (inl refl))))
    (last_tells h cs (values_after_one h c.number vs) s.1
    (λ d i. All-weaker _ _
    (λ p l. last_next h (λ b. is_earlier b d) p.0 (Some p.1) c cs vs s.0 (in_all (λ z. is_earlier c z ≡ true) d cs s.0 i) l)
    (reads_of h d.number) (a d (inr i))))
  where
    alone : (d : Commit) → In d (c ∷ cs) → is_earlier d c ≡ true → ⊥
    alone d (inl e) l = let m = rw (← e) at l in earlier_not c c m m
    alone d (inr i) l = earlier_not d c l (in_all (λ z. is_earlier c z ≡ true) d cs s.0 i)
