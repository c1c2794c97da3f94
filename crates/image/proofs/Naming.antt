-- Keys that rise from line to line, and that a binary search finds the line that names a key.
use Rattle.std.proofs.Common.{◌≡◌, ℕ, zero, suc, ◌+◌, ◌<◌, ◌≤◌, Bool, true, false, cond, eqb, ltb, List, [], ◌∷◌, length, get_or, Result, Ok, Err, Some, None, Option, refl, ap, sym, ⊎_elim, arith}
use Rattle.std.specs.List.{position}
use Rattle.std.specs.List.Sorted.{IsBinarySearchResult, IsNonDecreasingBy, IsSearchInRange}
use Rattle.std.specs.Ordering.{nat_cmp, ordering_index}
use Rattle.std.specs.Result.{result_ok}
use Rattle.std.proofs.lemmas.Bool.{cases_lt, eq-eqb, le-ltb, lt-ltb, ltb-true, ne_eqb}
use Rattle.std.proofs.lemmas.Bool.Decides.{nat_tests}
use Rattle.std.proofs.lemmas.Cmp.{ranked}
use Rattle.std.proofs.lemmas.List.Sorted.{IsNonDecreasingBy-from_default}
use Rattle.std.proofs.lemmas.List.Sums.{position_or_len_is}
use Rattle.wire.specs.Words.{key_in}
use Rattle.image.specs.declared.fault.Cause.TheVariants.{KeysNotRising}
use Rattle.image.specs.Faults.{cause_in, line_fault}
use Rattle.image.specs.Lines.{first_fault, key_of, keyed_cause}
use Rattle.image.specs.Memory.{cell_cause}
use Rattle.image.proofs.Lines.{both_none, cause_none}

-- A key that rises.
no_cause : (b : Bool) → cond b None (Some KeysNotRising) ≡ None → b ≡ true
no_cause true e = refl
no_cause false e = cc

-- A line with nothing wrong has a larger key than the line before it.
next_rises : (b x : List ℕ) → keyed_cause (Some b) x ≡ None → key_of b < key_of x
next_rises b x e =
    let key = both_none (cause_in (key_in (get_or x 0 0))) _ e in
    let cell = both_none (cell_cause x 1) _ key.1 in
    ltb-true _ _ (no_cause (ltb (key_of b) (key_of x)) cell.1)

-- Lines without a fault have larger keys than the line before them.
above : (n : ℕ) (b : List ℕ) (xs : List (List ℕ)) → first_fault keyed_cause n (Some b) xs ≡ None → (j : ℕ) → j < length xs
    → key_of b < key_of (get_or xs j [])
above n b [] e j h = absurd (omega arith)
above n b (x ∷ xs) e zero h = next_rises b x (cause_none (line_fault n) (keyed_cause (Some b) x) _ e).0
above n b (x ∷ xs) e (suc j) h =
    let p = cause_none (line_fault n) (keyed_cause (Some b) x) _ e in
    let one = next_rises b x p.0 in
    let more = above (n + 1) x xs p.1 j (omega arith) in
    omega arith

-- So their keys rise.
pub rises : (n : ℕ) (b : Option (List ℕ)) (xs : List (List ℕ)) → first_fault keyed_cause n b xs ≡ None → (i j : ℕ) → i < j → j < length xs
    → key_of (get_or xs i []) < key_of (get_or xs j [])
rises n b [] e i j h l = absurd (omega arith)
rises n b (x ∷ xs) e i zero h l = absurd (omega arith)
rises n b (x ∷ xs) e zero (suc j) h l = above (n + 1) x xs (cause_none (line_fault n) (keyed_cause b x) _ e).1 j (omega arith)
rises n b (x ∷ xs) e (suc i) (suc j) h l =
    rises (n + 1) (Some x) xs (cause_none (line_fault n) (keyed_cause b x) _ e).1 i j (omega arith) (omega arith)

module _ (xs : List (List ℕ)) (k : ℕ) (up : (i j : ℕ) → i < j → j < length xs → key_of (get_or xs i []) < key_of (get_or xs j [])) where
  -- Compared with a key the lines' keys do not fall.
  in_order : IsNonDecreasingBy (λ x. ordering_index (nat_cmp (key_of x) k)) xs
  in_order = IsNonDecreasingBy-from_default (λ x. ordering_index (nat_cmp (key_of x) k)) xs [] (λ i j le in_range.
      let upward : key_of (get_or xs i []) ≤ key_of (get_or xs j []) =
      grind (arith, up i j, λ (same : i ≡ j). ap (λ n. key_of (get_or xs n [])) same) in
      grind (arith, nat_tests))

  -- What a binary search finds is the line that names the key.
  pub searched : (r : Result ℕ ℕ) → IsSearchInRange r (length xs) → IsBinarySearchResult (λ x. nat_cmp (key_of x) k) xs r
      → result_ok r ≡ position (λ x. eqb (key_of x) k) xs
  searched (Ok i) in_range equal =
      let here : key_of (get_or xs i []) ≡ k = ranked _ k _ (sym (equal [])) in
      let at = position_or_len_is (λ x. eqb (key_of x) k) xs i [] (omega arith)
      (λ j h. ne_eqb _ k (λ same. omega (arith, up j i h (omega arith)))) (λ h. eq-eqb _ k here) in
      sym (rw (at, lt-ltb i (length xs) (omega arith)) refl)
  searched (Err i) in_range parted =
      let at = position_or_len_is (λ x. eqb (key_of x) k) xs (length xs) [] (omega arith)
      (λ j h. ne_eqb _ k (λ same.
      ⊎_elim
      (λ (a : j < i). let b = ranked _ k _ (sym ((parted in_order).0 j [] (omega arith) a)) in omega arith)
      (λ (a : i ≤ j). let b = ranked _ k _ (sym ((parted in_order).1 j [] a (omega arith))) in omega arith)
      (cases_lt j i))) (λ h. absurd (omega arith)) in
      sym (rw (at, le-ltb (length xs) (length xs) (omega arith)) refl)
