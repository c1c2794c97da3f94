-- The locks that a transaction meets among some lines.
--   met_next       what the next line adds
--   met_from       the same at a place
--   met_counted    as many as there are lines that stand as locks of others
--   met_few        no more than lines
--   all_of_others  where a transaction has no write line, all write locks are others'
use Rattle.std.proofs.Common.{◌≡◌, ℕ, ◌+◌, ◌<◌, ◌≤◌, Bool, true, false, cond, ◌&&◌, eqb, List, [], ◌∷◌, map, length, get_or, drop, not, refl, ap, ◌∙◌, sym, subst, arith}
use Rattle.std.proofs.lemmas.List.{drop_more}
use Rattle.std.proofs.lemmas.List.Recursion.{is_count_by}
use Rattle.std.proofs.lemmas.List.Sums.{count_by-le-length}
use Rattle.std.specs.List.{list_any, count_by}
use Rattle.lines.specs.LineKeys.{write_key}
use Rattle.lines.specs.Locks.{lock_stands}
use Rattle.lines.specs.declared.access.AccessKey.{AccessKey}
use Rattle.lines.specs.declared.access.WriteLine.{WriteLine}
use Rattle.lines.specs.declared.row.Row.{Row}
use Rattle.protocol.specs.Checks.{is_write_of}
use Rattle.protocol.specs.Noting.{locks_on, others}
use Rattle.register.specs.Meetings.{met, is_met}

module _ (rows : List Row) (t k : ℕ) where
  pub met_next : (x : AccessKey) (xs : List AccessKey)
      → met rows t k (x ∷ xs) ≡ cond (is_met rows t k x) (x.transaction ∷ met rows t k xs) (met rows t k xs)
  met_next x xs = go (eqb x.key k && lock_stands rows x.transaction k)
    where
      go : (b : Bool) → others t (cond b (x.transaction ∷ locks_on rows k xs) (locks_on rows k xs))
          ≡ cond (b && not (eqb x.transaction t)) (x.transaction ∷ met rows t k xs) (met rows t k xs)
      go true = refl
      go false = refl

  -- The same at a place of some lines.
  pub met_from : {L : Type 0} (f : L → AccessKey) (xs : List L) (i : ℕ) (x : L) → i < length xs → x ≡ get_or xs i x
      → met rows t k (map f (drop i xs))
      ≡ cond (is_met rows t k (f x)) ((f x).transaction ∷ met rows t k (map f (drop (i + 1) xs))) (met rows t k (map f (drop (i + 1) xs)))
  met_from f xs i x l e =
      ap (λ ys. met rows t k (map f ys)) (drop_more xs i x l)
      ∙ (ap (λ y. met rows t k (f y ∷ map f (drop (i + 1) xs))) (sym e) ∙ met_next (f x) (map f (drop (i + 1) xs)))

  pub met_counted : {L : Type 0} (f : L → AccessKey) (xs : List L)
      → length (met rows t k (map f xs)) ≡ count_by (λ x. is_met rows t k (f x)) xs
  met_counted f xs = is_count_by (λ xs. length (met rows t k (map f xs))) (λ x. is_met rows t k (f x)) refl next xs
    where
      next : (x : _) (xs : List _)
          → length (met rows t k (map f (x ∷ xs)))
          ≡ cond (is_met rows t k (f x)) (1 + length (met rows t k (map f xs))) (length (met rows t k (map f xs)))
      next x xs = ap length (met_next (f x) (map f xs)) ∙ go (is_met rows t k (f x))
        where
          go : (b : Bool) → length (cond b ((f x).transaction ∷ met rows t k (map f xs)) (met rows t k (map f xs)))
              ≡ cond b (1 + length (met rows t k (map f xs))) (length (met rows t k (map f xs)))
          go true = omega arith
          go false = refl

  pub met_few : {L : Type 0} (f : L → AccessKey) (xs : List L) → length (met rows t k (map f xs)) ≤ length xs
  met_few f xs = let few = count_by-le-length (λ x. is_met rows t k (f x)) xs in subst (λ n. n ≤ length xs) (sym (met_counted f xs)) few

  pub all_of_others : (ws : List WriteLine) → list_any (is_write_of t) ws ≡ false
      → met rows t k (map write_key ws) ≡ locks_on rows k (map write_key ws)
  all_of_others [] e = refl
  all_of_others (w ∷ ws) e = let rest = all_of_others ws in grind arith
