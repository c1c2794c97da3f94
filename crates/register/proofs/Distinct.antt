-- Lines with different keys.
--   same_row_equal, same_access_equal, same_number_equal   keys that are told the same are equal
--   distinct_push         one more line, whose key none has
--   keys_kept             a line in the place of another of its key leaves all keys
--   distinct_replaced     so they stay different
use Rattle.std.proofs.Common.{◌≡◌, ℕ, Bool, true, false, cond, eqb, List, [], ◌∷◌, ◌++◌, map, nat_eq, Some, None, sym}
use Rattle.std.proofs.Common.{refl, ap, ◌∙◌, subst, arith}
use Rattle.std.proofs.ByRecursion.{All-push}
use Rattle.std.proofs.lemmas.List.{map_push}
use Rattle.std.proofs.lemmas.Bool.{and_parts, eqb-true}
use Rattle.std.specs.List.{IsDistinct, AllByRecursion}
use Rattle.base.proofs.Clash.{clash}
use Rattle.book.specs.Books.{line_with}
use Rattle.lines.specs.LineKeys.{same_row, same_access}
use Rattle.lines.specs.declared.access.AccessKey.{AccessKey}
use Rattle.lines.specs.declared.row.RowKey.{RowKey}
use Rattle.protocol.specs.Model.{with_line}

-- Keys that are told the same are equal.
pub same_row_equal : (j k : RowKey) → same_row j k ≡ true → j ≡ k
same_row_equal j k e =
    let p = and_parts (eqb j.transaction k.transaction) _ e in
    let a = eqb-true _ _ p.0 in
    let b = eqb-true _ _ p.1 in
    λ i. record { transaction = a i; ground = b i }

pub same_access_equal : (j k : AccessKey) → same_access j k ≡ true → j ≡ k
same_access_equal j k e =
    let p = and_parts (eqb j.transaction k.transaction) _ e in
    let a = eqb-true _ _ p.0 in
    let b = eqb-true _ _ p.1 in
    λ i. record { transaction = a i; key = b i }

pub same_number_equal : (j k : ℕ) → nat_eq j k ≡ true → j ≡ k
same_number_equal j k e = eqb-true j k e

module _ {L K : Type 0} (same : K → K → Bool) (f : L → K) (k : K) where
  -- A key that is not among keys can be put at their end.
  pub distinct_push : (xs : List L) (x : L) → f x ≡ k → line_with same f k xs ≡ None → IsDistinct same (map f xs)
      → IsDistinct same (map f (xs ++ x ∷ []))
  unfolding IsDistinct
  distinct_push [] x own e d = (tt, tt)
  distinct_push (y ∷ ys) x own e d = go (same (f y) k) refl e (distinct_push ys x own)
    where
      go : (b : Bool) → same (f y) k ≡ b → cond b (Some y) (line_with same f k ys) ≡ None
          → (line_with same f k ys ≡ None → IsDistinct same (map f ys) → IsDistinct same (map f (ys ++ x ∷ [])))
          → AllByRecursion (λ j. same (f y) j ≡ false) (map f (ys ++ x ∷ [])) × IsDistinct same (map f (ys ++ x ∷ []))
      go true s h later = clash cc
      go false s h later =
          let All : List K → Type 0 = AllByRecursion (λ j. same (f y) j ≡ false) in
          (subst All (sym (map_push f ys x)) (All-push _ (map f ys) (f x) d.0 (ap (same (f y)) own ∙ s)), later h d.1)

  -- A line in the place of another of its key leaves all keys.
  pub keys_kept : ((j : K) → same j k ≡ true → j ≡ k) → (x : L) → f x ≡ k → (xs : List L) → map f (with_line same f k x xs) ≡ map f xs
  keys_kept equal x own [] = refl
  keys_kept equal x own (y ∷ ys) =
      let later = keys_kept equal x own ys in
      let this = equal (f y) in
      grind arith

  pub distinct_replaced : ((j : K) → same j k ≡ true → j ≡ k) → (x : L) → f x ≡ k → (xs : List L) → IsDistinct same (map f xs)
      → IsDistinct same (map f (with_line same f k x xs))
  distinct_replaced equal x own xs d = let D : List K → Type 0 = IsDistinct same in subst D (sym (keys_kept equal x own xs)) d
