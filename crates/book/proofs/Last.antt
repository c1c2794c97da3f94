-- A search from the end, over any lines.
--   found_back      what `rposition` finds among the lines of a slice is the place of the last line that passes the test
--   last_is_first   where no two lines have the same key, the last line with a key is the first one
--   found_last      so the line at the place found is the first one with the key
use Rattle.std.proofs.Common.{◌≡◌, ℕ, ◌+◌, Bool, true, false, cond, List, [], ◌∷◌, map, length, Some, None, Option, Bor, Iter, MatchOption, IsSomeAnd, subst, sym, refl, ap, ◌∙◌, arith}
use Rattle.std.proofs.lemmas.Bool.{true≢false}
use Rattle.std.proofs.lemmas.List.{length_push, nil_from_length}
use Rattle.std.proofs.lemmas.Map.Keys.{IsDistinct-head, IsDistinct-tail}
use Rattle.std.specs.Fn.{Called, Mut}
use Rattle.std.specs.Iterator.{FindsPositionBack, Yields}
use Rattle.std.specs.List.{AllByRecursion, FoldsTo, IsDistinct, position_from, push, slice_get}
use Rattle.std.specs.Option.{option_and_then, option_or}
use Rattle.std.specs.Slice.Iter.{iter_rest, iter_steps_back}
use Rattle.book.specs.Books.{last_from, last_position_of, position_of, line_with}
use Rattle.book.proofs.Books.{line_at, line_at_place}

-- One more line at the end, at the place m.
last_push : {L : Type 0} (p : L → Bool) (n m : ℕ) (xs : List L) (x : L) (b : Bool) → m ≡ n + length xs → b ≡ p x
    → last_from p n (push xs x) ≡ cond b (Some m) (last_from p n xs)
last_push p n m [] x b e test = ap (λ d. cond d (Some n) None) (sym test) ∙ ap (λ k. cond b (Some k) None) (omega arith)
last_push p n m (y ∷ xs) x b e test =
    ap (λ o. option_or o (cond (p y) (Some n) None)) (last_push p (n + 1) m xs x b (omega arith) test) ∙ go b
  where
    go : (d : Bool) → option_or (cond d (Some m) (last_from p (n + 1) xs)) (cond (p y) (Some n) None)
        ≡ cond d (Some m) (last_from p n (y ∷ xs))
    go true = refl
    go false = refl

-- A closure that its calls leave as it was, and that answers by the test p.
module _ {L F : Type 0} {g : Mut F (Bor L × Unit {0}) Bool} {f : F} (p : L → Bool)
    (told : (x : Bor L) (b : Bool) (q : F) → Called g f (x, tt) b q → (q ≡ f) × (b ≡ p x.now)) where
  -- The last of the lines that are left, where the test of it answered b.
  tested : (s t : Iter L) (x : Bor L) (b : Bool) → iter_steps_back s (Some x) t → b ≡ p x.now
      → last_from p 0 (iter_rest s) ≡ cond b (Some (length (iter_rest t))) (last_from p 0 (iter_rest t))
  tested s t x b step test =
      ap (last_from p 0) step ∙ last_push p 0 (length (iter_rest t)) (iter_rest t) x.now b (omega arith) test

  -- Lines that were passed over.
  passed : (xs : List (Bor L)) (s t : Iter L) (j : F) → Yields iter_steps_back s xs t
      → FoldsTo (λ a x q. Called g a (x, tt) false q) f xs j
      → (j ≡ f) × (length (iter_rest s) ≡ length xs + length (iter_rest t))
      × (last_from p 0 (iter_rest s) ≡ last_from p 0 (iter_rest t))
  passed [] s t j y c = (sym c, ap (λ k. length (iter_rest k)) y ∙ omega arith, ap (λ k. last_from p 0 (iter_rest k)) y)
  passed (x ∷ xs) s t j (k, step, y) (q, call, c) =
      let (stays, fails) = told x false q call in
      let rest = passed xs k t j y (subst (λ a. FoldsTo (λ a x q. Called g a (x, tt) false q) a xs j) stays c) in
      (rest.0, omega (arith, ap length step, length_push (iter_rest k) x.now), tested s k x false step fails ∙ rest.2)

  -- The line at which the search stopped, after n of m lines.
  stopped : (o : Option (Bor L)) (r : Option ℕ) (n m : ℕ) (t u : Iter L) (j : F) → iter_steps_back t o u
      → j ≡ f → m ≡ n + length (iter_rest t)
      → MatchOption o (r ≡ None) (λ x. IsSomeAnd r (λ i. i + 1 + n ≡ m) × ((h : F) × Called g j (x, tt) true h))
      → r ≡ last_from p 0 (iter_rest t)
  stopped None r n m t u j none same long e = e ∙ ap (last_from p 0) (sym (nil_from_length (iter_rest t) none.0))
  stopped (Some x) None n m t u j step same long e = absurd e.0
  stopped (Some x) (Some i) n m t u j step same long (at, (h, call)) =
      let passes = told x true h (subst (λ a. Called g a (x, tt) true h) same call) in
      ap Some (omega (arith, ap length step, length_push (iter_rest u) x.now)) ∙ sym (tested t u x true step passes.1)

  -- The whole search.
  pub found_back : {s u : Iter L} {r : Option ℕ} {xs : List L}
      → FindsPositionBack iter_steps_back g s f (length (iter_rest s)) r u → iter_rest s ≡ xs → r ≡ last_from p 0 xs
  found_back {s = s} {u = u} {r = r} (seen, o, j, (t, y, step), c, end) e =
      let past = passed seen s t j y c in
      stopped o r (length seen) (length (iter_rest s)) t u j step past.0 past.1 end
      ∙ (sym past.2 ∙ ap (last_from p 0) e)

module _ {L K : Type 0} (same : K → K → Bool) (equal : (j k : K) → same j k ≡ true → j ≡ k) (f : L → K) (k : K) where
  -- The test that the search makes.
  abbrev has : L → Bool
  has x = same (f x) k

  -- Keys that differ from one that is the same as k are not the same as k.
  none_past : (j : K) (n : ℕ) (xs : List L) → same j k ≡ true → AllByRecursion (λ y. same j y ≡ false) (map f xs)
      → last_from has n xs ≡ None
  none_past j n [] e h = refl
  none_past j n (x ∷ xs) e h = go (same (f x) k) refl (none_past j (n + 1) xs e h.1)
    where
      go : (b : Bool) → same (f x) k ≡ b → last_from has (n + 1) xs ≡ None
          → option_or (last_from has (n + 1) xs) (cond b (Some n) None) ≡ None
      go true s later =
          absurd (true≢false (sym e ∙ (ap (same j) (sym (equal (f x) k s)) ∙ h.0)))
      go false s later = rw later refl

  last_is_first_from : (n : ℕ) (xs : List L) → IsDistinct same (map f xs) → last_from has n xs ≡ position_from has n xs
  last_is_first_from n [] d = refl
  last_is_first_from n (x ∷ xs) d = go (same (f x) k) refl (last_is_first_from (n + 1) xs (IsDistinct-tail same (f x) (map f xs) d))
    where
      go : (b : Bool) → same (f x) k ≡ b → last_from has (n + 1) xs ≡ position_from has (n + 1) xs
          → option_or (last_from has (n + 1) xs) (cond b (Some n) None) ≡ cond b (Some n) (position_from has (n + 1) xs)
      go true s later =
          ap (λ o. option_or o (Some n)) (none_past (f x) (n + 1) xs s (IsDistinct-head same (f x) (map f xs) d))
      go false s later = unright (last_from has (n + 1) xs) ∙ later
        where
          unright : (o : Option ℕ) → option_or o None ≡ o
          unright None = refl
          unright (Some i) = refl

  pub last_is_first : (xs : List L) → IsDistinct same (map f xs) → last_position_of same f k xs ≡ position_of same f k xs
  last_is_first xs d = last_is_first_from 0 xs d

  pub found_last : (xs : List L) → IsDistinct same (map f xs)
      → option_and_then (slice_get xs) (last_position_of same f k xs) ≡ line_with same f k xs
  found_last xs d = ap (option_and_then (slice_get xs)) (last_is_first xs d) ∙ (there (position_of same f k xs) ∙ line_at_place same f k xs)
    where
      there : (o : Option ℕ) → option_and_then (slice_get xs) o ≡ line_at xs o
      there None = refl
      there (Some i) = refl
