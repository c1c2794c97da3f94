-- Membership in a list.
--   In x xs                      x is one of xs
--   in_left, in_right            of two lists that are put together
--   in_map, in_joined, in_kept   of a list that is mapped, of what lines give together, of the lines that pass a test
--   in_found                     a line that is found is one of the list
--   in_all, in_none              what holds of every line; a test that no line passes
--   in_contained                 what a list contains
use Rattle.std.proofs.Common.{◌≡◌, Bool, true, false, cond, ◌⊎◌, List, [], ◌∷◌, ◌++◌, map, Some, filter, sym, ap, ◌∙◌, subst, inl, inr, zero, suc, arith}
use Rattle.std.proofs.lemmas.Bool.{or_parts}
use Rattle.std.specs.List.{flat_map, AllByRecursion, Contains, list_any}
use Rattle.book.specs.Books.{line_with}

-- One of a list.
abbrev pub In : {X : Type 0} → X → List X → Type 0
In x [] = ⊥
In x (y ∷ ys) = (y ≡ x) ⊎ In x ys

-- What is in the first of two lists is in both put together.
pub in_left : {X : Type 0} (x : X) (xs ys : List X) → In x xs → In x (xs ++ ys)
in_left x [] ys i = absurd i
in_left x (z ∷ zs) ys (inl e) = inl e
in_left x (z ∷ zs) ys (inr i) = inr (in_left x zs ys i)

-- And so is what is in the second.
pub in_right : {X : Type 0} (x : X) (xs ys : List X) → In x ys → In x (xs ++ ys)
in_right x [] ys i = i
in_right x (z ∷ zs) ys i = inr (in_right x zs ys i)

-- What comes of one of a list is in the list that is mapped.
pub in_map : {X Y : Type 0} (f : X → Y) (x : X) (xs : List X) → In x xs → In (f x) (map f xs)
in_map f x [] i = absurd i
in_map f x (z ∷ zs) (inl e) = inl (ap f e)
in_map f x (z ∷ zs) (inr i) = inr (in_map f x zs i)

-- What one of a list gives is in what they give together.
pub in_joined : {X Y : Type 0} (f : X → List Y) (x : X) (y : Y) (xs : List X) → In x xs → In y (f x) → In y (flat_map f xs)
in_joined f x y [] i j = absurd i
in_joined f x y (z ∷ zs) (inl e) j = in_left y (f z) (flat_map f zs) (subst (λ w. In y (f w)) (sym e) j)
in_joined f x y (z ∷ zs) (inr i) j = in_right y (f z) (flat_map f zs) (in_joined f x y zs i j)

-- One that passes a test is in those that are kept by it.
pub in_kept : {X : Type 0} (p : X → Bool) (x : X) (xs : List X) → p x ≡ true → In x xs → In x (filter p xs)
in_kept p x [] t i = absurd i
in_kept p x (z ∷ zs) t (inl e) =
    let s : p z ≡ true = ap p e ∙ t in
    rw s (inl e)
in_kept p x (z ∷ zs) t (inr i) = go (p z) (in_kept p x zs t i)
  where
    go : (b : Bool) → In x (filter p zs) → In x (cond b (z ∷ filter p zs) (filter p zs))
    go true j = inr j
    go false j = j

-- A line that is found is one of the list.
pub in_found : {X K : Type 0} (same : K → K → Bool) (f : X → K) (k : K) (xs : List X) (x : X)
    → line_with same f k xs ≡ Some x → In x xs
in_found same f k [] x e = absurd cc
in_found same f k (y ∷ ys) x e = go (same (f y) k) e (λ d. in_found same f k ys x d)
  where
    go : (b : Bool) → cond b (Some y) (line_with same f k ys) ≡ Some x → (line_with same f k ys ≡ Some x → In x ys)
        → (y ≡ x) ⊎ In x ys
    go true d later = inl cc
    go false d later = inr (later d)

-- What holds of all holds of each.
pub in_all : {X : Type 0} (Q : X → Type 0) (x : X) (xs : List X) → AllByRecursion Q xs → In x xs → Q x
in_all Q x [] a i = absurd i
in_all Q x (z ∷ zs) a (inl e) = subst Q e a.0
in_all Q x (z ∷ zs) a (inr i) = in_all Q x zs a.1 i

-- Where no line passes a test, each fails it.
pub in_none : {X : Type 0} (p : X → Bool) (x : X) (xs : List X) → list_any p xs ≡ false → In x xs → p x ≡ false
in_none p x [] n i = absurd i
in_none p x (z ∷ zs) n (inl e) = ap p (sym e) ∙ (or_parts (p z) _ n).0
in_none p x (z ∷ zs) n (inr i) = in_none p x zs (or_parts (p z) _ n).1 i

-- What a list contains is in it.
pub in_contained : {X : Type 0} (xs : List X) (x : X) → Contains xs x → In x xs
in_contained [] x (k, l, e) = absurd (omega arith)
in_contained (y ∷ ys) x (zero, l, e) = inl e
in_contained (y ∷ ys) x (suc k, l, e) = inr (in_contained ys x (k, (omega arith), e))
