-- Rows that make way for a range, in place.
--   push_more         one more row has made way
--   push_all          all have
--   pushed_bounded    a row within its limits stays within them
--   none_pushed       where no row is on a list, all stay
--   placed_beside     rows that make way keep their places
use Rattle.std.proofs.Common.{◌≡◌, ℕ, ◌+◌, ◌<◌, ◌≤◌, Bool, List, [], ◌∷◌, ◌++◌, map, length, get_or, take, drop, set, ℤ, pos, ◌≤ℤ◌, Some, None, Option, sym, refl, ap, ◌∙◌, cond, subst}
use Rattle.std.proofs.Common.{append-nil, arith}
use Rattle.std.proofs.lemmas.List.Edits.{map_over_more}
use Rattle.std.proofs.lemmas.List.{take_all, drop_all, length-map}
use Rattle.std.proofs.lemmas.Option.{slice_get-get_or}
use Rattle.std.proofs.lemmas.Int.{ints, clamps}
use Rattle.std.specs.List.{slice_get, position_from}
use Rattle.lines.specs.Rows.{IsBounded}
use Rattle.lines.specs.LineKeys.{row_key, same_row}
use Rattle.lines.specs.declared.row.Row.{Row}
use Rattle.lines.specs.declared.row.RowKey.{RowKey}
use Rattle.register.specs.Sound.{PlacedAt}
use Rattle.protocol.specs.Among.{pushed_by}
use Rattle.register.specs.Relations.{befores_beside, afters_beside, pushed_beside, rows_beside}
use Rattle.register.specs.declared.relation.Relation.{Relation}

module _ (makes_way : Row → Row) (xs : List Row) where
  pub push_more : (ys : List Row) (i : ℕ) (x : Row) → i < length xs → i < length ys → ys ≡ map makes_way (take i xs) ++ drop i xs
      → slice_get ys i ≡ Some x → set ys i (makes_way x) ≡ map makes_way (take (i + 1) xs) ++ drop (i + 1) xs
  push_more ys i x l m e f =
      let found : Some x ≡ Some (get_or ys i x) = sym f ∙ slice_get-get_or ys i x m in
      let read : x ≡ get_or ys i x = cc in
      map_over_more makes_way xs ys i x l e read

  pub push_all : (i : ℕ) → length xs ≤ i → map makes_way (take i xs) ++ drop i xs ≡ map makes_way xs
  push_all i l =
      ap (λ zs. map makes_way zs ++ drop i xs) (take_all i xs l)
      ∙ (ap (λ zs. map makes_way xs ++ zs) (drop_all i xs l) ∙ append-nil (map makes_way xs))

-- A row within its limits stays within them.
pub pushed_bounded : (before after : Bool) (from to : ℤ) (r : Row) → pos 0 ≤ℤ from → to ≤ℤ pos 268435455 → IsBounded r
    → IsBounded (pushed_by before after (from, to) r)
pushed_bounded before after from to r f t b = record {
  lower_least = grind (arith, ints, clamps);
  lower_most = grind (arith, ints, clamps);
  upper_least = grind (arith, ints, clamps);
  upper_most = grind (arith, ints, clamps);
}

module _ (q : Row → Relation) where
  pub none_pushed : (range : ℤ × ℤ) (rows : List Row) → befores_beside q rows ≡ [] → afters_beside q rows ≡ []
      → map (pushed_beside q range) rows ≡ rows
  none_pushed range [] b a = refl
  none_pushed range (r ∷ rs) b a = let later = none_pushed range rs in grind arith

  -- Rows that make way keep their places.
  placed_pushed : (range : ℤ × ℤ) (rows : List Row) (k : RowKey) (i : ℕ) → PlacedAt rows k i
      → PlacedAt (map (pushed_beside q range) rows) k i
  placed_pushed range rows k i p =
      (subst (λ n. i < n) (sym (length-map rows (pushed_beside q range))) p.0, kept 0 rows ∙ p.1)
    where
      kept : (n : ℕ) (rs : List Row)
          → position_from (λ x. same_row (row_key x) k) n (map (pushed_beside q range) rs) ≡ position_from (λ x. same_row (row_key x) k) n rs
      kept n [] = refl
      kept n (r ∷ rs) = ap (λ o. cond (same_row (row_key r) k) (Some n) o) (kept (n + 1) rs)

  pub placed_beside : (o : Option (ℤ × ℤ)) (rows : List Row) (k : RowKey) (i : ℕ) → PlacedAt rows k i → PlacedAt (rows_beside q o rows) k i
  placed_beside None rows k i p = p
  placed_beside (Some range) rows k i p = placed_pushed range rows k i p
