-- Lines whose numbers rise.
--   last_largest      the last line has the largest number
--   rising_distinct   no two lines have the same number
--   rising_push       they rise with one more that lies above the largest
use Rattle.std.proofs.Common.{◌≡◌, ℕ, ◌-◌, ◌<◌, suc, false, eqb, List, [], ◌∷◌, ◌++◌, map, length, Some, ap, ◌∙◌, refl, sym, zero, fold, unwrap_or, arith}
use Rattle.std.proofs.lemmas.List.{length-map}
use Rattle.std.proofs.ByRecursion.{All-push}
use Rattle.std.proofs.lemmas.Map.Keys.{sorted_head, sorted_tail}
use Rattle.std.proofs.lemmas.Bool.Decides.{nat_tests}
use Rattle.std.specs.List.{AllByRecursion, IsDistinct, slice_get}
use Rattle.std.specs.List.Sorted.{IsStrictlySortedBy}
use Rattle.std.specs.Option.{option_map}
use Rattle.std.specs.Ordering.{nat_cmp, is_lt, ord_max}
use Rattle.std.proofs.lemmas.Cmp.{nat_cmp_total}
use Rattle.book.proofs.Largest.{none_above}
use Rattle.std.specs.declared.cmp.Ordering.TheVariants.{Less}
use Rattle.book.specs.Books.{largest_key}

-- The larger of two numbers is the one that the other is below.
larger_below : (j k : ℕ) → nat_cmp j k ≡ Less → ord_max nat_cmp k j ≡ k
larger_below j k e = grind (arith, nat_tests)

-- The largest of a number and those after it is the last of them.
last_past : (k : ℕ) (ks : List ℕ) → IsStrictlySortedBy nat_cmp (k ∷ ks) → slice_get (k ∷ ks) (length ks) ≡ largest_key nat_cmp (k ∷ ks)
unfolding IsStrictlySortedBy
last_past k [] s = refl
last_past k (x ∷ ks) s =
    last_past x ks s.1 ∙ ap (λ top. Some (fold (λ i j. ord_max nat_cmp j i) top ks)) (sym (larger_below k x s.0.0))

-- The line at a place has the number at the place.
number_at : {L : Type 0} (f : L → ℕ) (xs : List L) (i : ℕ) → option_map f (slice_get xs i) ≡ slice_get (map f xs) i
number_at f [] i = refl
number_at f (x ∷ xs) zero = refl
number_at f (x ∷ xs) (suc i) = number_at f xs i

pub last_largest : {L : Type 0} (f : L → ℕ) (xs : List L) → IsStrictlySortedBy nat_cmp (map f xs)
    → option_map f (slice_get xs (length xs - 1)) ≡ largest_key nat_cmp (map f xs)
last_largest f [] s = refl
last_largest f (x ∷ xs) s =
    let place : length (x ∷ xs) - 1 ≡ length (map f xs) = simp length-map (omega arith) in
    number_at f (x ∷ xs) (length (x ∷ xs) - 1) ∙ (ap (slice_get (map f (x ∷ xs))) place ∙ last_past (f x) (map f xs) s)

-- One more that lies above each.
push_above : (ks : List ℕ) (t : ℕ) → AllByRecursion (λ j. nat_cmp j t ≡ Less) ks → IsStrictlySortedBy nat_cmp ks
    → IsStrictlySortedBy nat_cmp (ks ++ t ∷ [])
unfolding IsStrictlySortedBy
push_above [] t h s = (tt, tt)
push_above (k ∷ ks) t h s = (All-push (λ y. nat_cmp k y ≡ Less) ks t s.0 h.0, push_above ks t h.1 s.1)

-- What none of some numbers is above lies below what is above it.
all_below : (top t : ℕ) (ks : List ℕ) → top < t → AllByRecursion (λ j. is_lt (nat_cmp top j) ≡ false) ks
    → AllByRecursion (λ j. nat_cmp j t ≡ Less) ks
all_below top t [] l h = tt
all_below top t (k ∷ ks) l h = (below k l h.0, all_below top t ks l h.1)
  where
    below : (j : ℕ) → top < t → is_lt (nat_cmp top j) ≡ false → nat_cmp j t ≡ Less
    below j l e = grind (arith, nat_tests)

pub rising_push : (ks : List ℕ) (t : ℕ) → IsStrictlySortedBy nat_cmp ks → unwrap_or (largest_key nat_cmp ks) 0 < t
    → IsStrictlySortedBy nat_cmp (ks ++ t ∷ [])
rising_push [] t s h = push_above [] t tt s
rising_push (k ∷ ks) t s h = push_above (k ∷ ks) t (all_below _ t (k ∷ ks) h (none_above nat_cmp nat_cmp_total (k ∷ ks))) s

pub rising_distinct : (ks : List ℕ) → IsStrictlySortedBy nat_cmp ks → IsDistinct eqb ks
unfolding IsDistinct
rising_distinct [] s = tt
rising_distinct (k ∷ ks) s = (apart ks (sorted_head nat_cmp k ks s), rising_distinct ks (sorted_tail nat_cmp k ks s))
  where
    apart : (js : List ℕ) → AllByRecursion (λ y. nat_cmp k y ≡ Less) js → AllByRecursion (λ y. eqb k y ≡ false) js
    apart [] h = tt
    apart (j ∷ js) h = (let less = h.0 in grind (arith, nat_tests), apart js h.1)
