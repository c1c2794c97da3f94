-- The first line of a key, after a list grows, is mapped, or has a line replaced.
--   find_append, find_map       after a list grows, or is mapped
--   find_replaced, find_other   the line that was replaced, and another
--   find_all, all_replaced      what holds of all lines holds of the one found, and of all once one is replaced
use Rattle.std.proofs.Common.{◌≡◌, Bool, true, false, cond, List, [], ◌∷◌, ◌++◌, map, Some, None, Option, refl, ap}
use Rattle.std.specs.Option.{option_map, option_or}
use Rattle.std.specs.List.{AllByRecursion}
use Rattle.book.specs.Books.{line_with}
use Rattle.protocol.specs.Model.{with_line}

-- The first of two where there is no second.
pub or_none : {X : Type 0} (o : Option X) → option_or o None ≡ o
or_none None = refl
or_none (Some x) = refl

module _ {X K : Type 0} (same : K → K → Bool) (f : X → K) (k : K) where
  pub find_append : (xs ys : List X) → line_with same f k (xs ++ ys) ≡ option_or (line_with same f k xs) (line_with same f k ys)
  find_append [] ys = refl
  find_append (x ∷ xs) ys = rw (find_append xs ys) (go (same (f x) k))
    where
      go : (b : Bool) → cond b (Some x) (option_or (line_with same f k xs) (line_with same f k ys))
          ≡ option_or (cond b (Some x) (line_with same f k xs)) (line_with same f k ys)
      go true = refl
      go false = refl

  pub find_map : (h : X → X) → ((x : X) → same (f (h x)) k ≡ same (f x) k) → (xs : List X)
      → line_with same f k (map h xs) ≡ option_map h (line_with same f k xs)
  find_map h e [] = refl
  find_map h e (x ∷ xs) = rw (e x, find_map h e xs) (go (same (f x) k))
    where
      go : (b : Bool) → cond b (Some (h x)) (option_map h (line_with same f k xs)) ≡ option_map h (cond b (Some x) (line_with same f k xs))
      go true = refl
      go false = refl

  -- A line that was found and replaced by one of its key.
  pub find_replaced : (y x : X) → same (f y) k ≡ true → (xs : List X) → line_with same f k xs ≡ Some x
      → line_with same f k (with_line same f k y xs) ≡ Some y
  find_replaced y x e [] q = absurd cc
  find_replaced y x e (z ∷ zs) q = go (same (f z) k) refl q (λ d. find_replaced y x e zs d)
    where
      go : (b : Bool) → same (f z) k ≡ b → cond b (Some z) (line_with same f k zs) ≡ Some x
          → (line_with same f k zs ≡ Some x → line_with same f k (with_line same f k y zs) ≡ Some y)
          → line_with same f k (cond b (y ∷ zs) (z ∷ with_line same f k y zs)) ≡ Some y
      go true s d later = rw e refl
      go false s d later = rw s (later d)

  -- The line of another key is not touched.
  pub find_other : (j : K) (y : X) → same (f y) k ≡ false → ((x : X) → same (f x) j ≡ true → same (f x) k ≡ false) → (xs : List X)
      → line_with same f k (with_line same f j y xs) ≡ line_with same f k xs
  find_other j y e d [] = refl
  find_other j y e d (x ∷ xs) = go (same (f x) j) refl (find_other j y e d xs)
    where
      go : (b : Bool) → same (f x) j ≡ b → line_with same f k (with_line same f j y xs) ≡ line_with same f k xs
          → line_with same f k (cond b (y ∷ xs) (x ∷ with_line same f j y xs)) ≡ cond (same (f x) k) (Some x) (line_with same f k xs)
      go true s later = rw (e, d x s) refl
      go false s later = ap (λ o. cond (same (f x) k) (Some x) o) later

  -- What holds of every line holds of the one that is found.
  pub find_all : (Q : X → Type 0) (xs : List X) (x : X) → AllByRecursion Q xs → line_with same f k xs ≡ Some x → Q x
  find_all Q [] x a q = absurd cc
  find_all Q (y ∷ ys) x a q = go (same (f y) k) q (λ d. find_all Q ys x a.1 d)
    where
      go : (b : Bool) → cond b (Some y) (line_with same f k ys) ≡ Some x → (line_with same f k ys ≡ Some x → Q x) → Q x
      go true d later = let i : x ≡ y = cc in rw i a.0
      go false d later = later d

  -- What holds of every line, and of the one put in, holds after a replacement.
  pub all_replaced : (Q : X → Type 0) (y : X) → Q y → (xs : List X) → AllByRecursion Q xs → AllByRecursion Q (with_line same f k y xs)
  all_replaced Q y h [] a = tt
  all_replaced Q y h (x ∷ xs) a = go (same (f x) k) (all_replaced Q y h xs a.1)
    where
      go : (b : Bool) → AllByRecursion Q (with_line same f k y xs) → AllByRecursion Q (cond b (y ∷ xs) (x ∷ with_line same f k y xs))
      go true later = (h, a.1)
      go false later = (a.0, later)
