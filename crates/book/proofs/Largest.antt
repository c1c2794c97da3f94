-- The largest of some keys: by a total order, none of them is above it.
use Rattle.std.proofs.Common.{◌≡◌, false, List, [], ◌∷◌, Ordering, ap, arith}
use Rattle.std.proofs.lemmas.Cmp.{upto, tied_itself}
use Rattle.std.specs.Cmp.{IsTotalOrder}
use Rattle.std.specs.Ordering.{is_lt, is_gt, ord_max}
use Rattle.std.specs.List.{AllByRecursion, fold}
use Rattle.book.specs.Books.{NoneAbove, largest_key}

module _ {K : Type 0} (o : K → K → Ordering) (total : IsTotalOrder o) where
  -- The larger of two keys, or the first where neither is.
  abbrev larger : K → K → K
  larger j k = ord_max o k j

  -- The key x is not above y.
  abbrev UpTo : K → K → Type 0
  UpTo x y = is_gt (o x y) ≡ false

  -- The largest of the key k and the keys after it.
  abbrev largest_past : K → List K → K
  largest_past k js = fold larger k js

  itself : (x : K) → UpTo x x
  itself x = ap is_gt (tied_itself total x)

  -- The same, as the promise says it.
  not_below : (x y : K) → UpTo x y → is_lt (o y x) ≡ false
  not_below x y h = let turned = total.antisymm x y in grind (arith, h, turned)

  -- Neither of two keys is above the larger.
  larger_both : (j k : K) → UpTo j (larger j k) × UpTo k (larger j k)
  larger_both j k = let turned = total.antisymm k j in (grind (arith, turned, tied_itself total), grind (arith, turned, tied_itself total))

  -- Neither the first key nor one after it is above the largest of them.
  above_first : (k : K) (js : List K) → UpTo k (largest_past k js)
  above_first k [] = itself k
  above_first k (j ∷ js) = upto total k (larger k j) _ (larger_both k j).0 (above_first (larger k j) js)

  above_rest : (k : K) (js : List K) → AllByRecursion (λ j. is_lt (o (largest_past k js) j) ≡ false) js
  above_rest k [] = tt
  above_rest k (j ∷ js) =
      (not_below j _ (upto total j (larger k j) _ (larger_both k j).1 (above_first (larger k j) js)), above_rest (larger k j) js)

  -- None of some keys is above the largest.
  pub none_above : (ks : List K) → NoneAbove o (largest_key o ks) ks
  none_above [] = tt
  none_above (k ∷ ks) = (not_below k _ (above_first k ks), above_rest k ks)
