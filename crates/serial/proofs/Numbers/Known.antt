-- The largest number begun bounds every number in the books.
--   known_begun   it does where all that bounds the numbers begun bounds the others
use Rattle.std.proofs.Common.{◌≡◌, ℕ, ◌≤◌, Bool, true, false, cond, eqb, ltb, List, [], ◌∷◌, map, Less, Equal, Greater, unwrap_or, refl}
use Rattle.std.proofs.ByRecursion.{All-weaker}
use Rattle.std.proofs.lemmas.Bool.{ltb-false, true≢false}
use Rattle.std.proofs.lemmas.Cmp.{nat_cmp_total}
use Rattle.std.specs.Ordering.{is_lt, nat_cmp, ord_max}
use Rattle.std.specs.List.{AllByRecursion, fold}
use Rattle.book.proofs.Largest.{none_above}
use Rattle.book.specs.Books.{largest_key}
use Rattle.protocol.specs.Checks.{last_begun}
use Rattle.protocol.specs.Model.{Model}
use Rattle.serial.proofs.Invariant.{KnownUpTo, Known}
use Rattle.serial.proofs.Lines.All.{all_unmap}

-- The largest of some numbers is no less than any of them.
reached : (n j : ℕ) → is_lt (nat_cmp n j) ≡ false → j ≤ n
reached n j e = go (ltb n j) refl e
  where
    go : (b : Bool) → ltb n j ≡ b → is_lt (cond b Less (cond (eqb n j) Equal Greater)) ≡ false → j ≤ n
    go true s q = absurd (true≢false q)
    go false s q = ltb-false n j s

-- The largest of some numbers bounds all of them.
greatest_all : (ns : List ℕ) → AllByRecursion (λ x. x ≤ unwrap_or (largest_key nat_cmp ns) 0) ns
greatest_all [] = tt
greatest_all (n ∷ ns) = All-weaker _ _ (reached (fold (λ j k. ord_max nat_cmp k j) n ns)) (n ∷ ns) (none_above nat_cmp nat_cmp_total (n ∷ ns))

-- So the largest number begun bounds them.
pub known_begun : (m : Model) → Known m → KnownUpTo (last_begun m) m
known_begun m known = known (last_begun m) (all_unmap _ (λ x. x.number) m.transactions (greatest_all (map (λ x. x.number) m.transactions)))
