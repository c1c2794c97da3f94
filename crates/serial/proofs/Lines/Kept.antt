-- Lists and those of their lines that pass a test.
--   joined_kept, any_kept, line_kept     what only looks at lines that pass sees the same in those kept
--   kept_kept, kept_map, kept_replaced   keeping goes with keeping, mapping and replacing
--   line_passes                          a line that is found has the key
use Rattle.std.proofs.Common.{◌≡◌, Bool, true, false, cond, ◌||◌, List, [], ◌∷◌, ◌++◌, map, Some, filter, sym, refl, ap, ◌∙◌}
use Rattle.std.proofs.lemmas.Bool.{true≢false}
use Rattle.std.specs.List.{flat_map, list_any}
use Rattle.book.specs.Books.{line_with}
use Rattle.protocol.specs.Model.{with_line}

module _ {X : Type 0} (p : X → Bool) where
  pub joined_kept : {Y : Type 0} (f : X → List Y) → ((x : X) → p x ≡ false → f x ≡ []) → (xs : List X) → flat_map f xs ≡ flat_map f (filter p xs)
  joined_kept f e [] = refl
  joined_kept f e (x ∷ xs) = go (p x) refl (joined_kept f e xs)
    where
      go : (b : Bool) → p x ≡ b → flat_map f xs ≡ flat_map f (filter p xs)
          → f x ++ flat_map f xs ≡ flat_map f (cond b (x ∷ filter p xs) (filter p xs))
      go true q later = ap (λ zs. f x ++ zs) later
      go false q later = rw (e x q) later

  pub any_kept : (q : X → Bool) → ((x : X) → p x ≡ false → q x ≡ false) → (xs : List X) → list_any q xs ≡ list_any q (filter p xs)
  any_kept q e [] = refl
  any_kept q e (x ∷ xs) = go (p x) refl (any_kept q e xs)
    where
      go : (b : Bool) → p x ≡ b → list_any q xs ≡ list_any q (filter p xs)
          → (q x || list_any q xs) ≡ list_any q (cond b (x ∷ filter p xs) (filter p xs))
      go true r later = ap (λ z. q x || z) later
      go false r later = rw (e x r) later

  pub kept_kept : (q : X → Bool) → ((x : X) → p x ≡ false → q x ≡ false) → (xs : List X) → filter q xs ≡ filter q (filter p xs)
  kept_kept q e [] = refl
  kept_kept q e (x ∷ xs) = go (p x) refl (kept_kept q e xs)
    where
      go : (b : Bool) → p x ≡ b → filter q xs ≡ filter q (filter p xs)
          → cond (q x) (x ∷ filter q xs) (filter q xs) ≡ filter q (cond b (x ∷ filter p xs) (filter p xs))
      go true r later = ap (λ zs. cond (q x) (x ∷ zs) zs) later
      go false r later = rw (e x r) later

  pub kept_map : (f : X → X) → ((x : X) → p (f x) ≡ p x) → (xs : List X) → filter p (map f xs) ≡ map f (filter p xs)
  kept_map f e [] = refl
  kept_map f e (x ∷ xs) = rw (e x, kept_map f e xs) (go (p x))
    where
      go : (b : Bool) → cond b (f x ∷ map f (filter p xs)) (map f (filter p xs)) ≡ map f (cond b (x ∷ filter p xs) (filter p xs))
      go true = refl
      go false = refl

  module _ {K : Type 0} (same : K → K → Bool) (f : X → K) (k : K) (e : (x : X) → p x ≡ false → same (f x) k ≡ false) where
    pub line_kept : (xs : List X) → line_with same f k xs ≡ line_with same f k (filter p xs)
    line_kept [] = refl
    line_kept (x ∷ xs) = go (p x) refl (line_kept xs)
      where
        go : (b : Bool) → p x ≡ b → line_with same f k xs ≡ line_with same f k (filter p xs)
            → cond (same (f x) k) (Some x) (line_with same f k xs) ≡ line_with same f k (cond b (x ∷ filter p xs) (filter p xs))
        go true r later = ap (λ o. cond (same (f x) k) (Some x) o) later
        go false r later = rw (e x r) later

    pub kept_replaced : (y : X) → p y ≡ true → (xs : List X) → filter p (with_line same f k y xs) ≡ with_line same f k y (filter p xs)
    kept_replaced y h [] = refl
    kept_replaced y h (x ∷ xs) = go (p x) (same (f x) k) refl refl (kept_replaced y h xs)
      where
        go : (b c : Bool) → p x ≡ b → same (f x) k ≡ c → filter p (with_line same f k y xs) ≡ with_line same f k y (filter p xs)
            → filter p (cond c (y ∷ xs) (x ∷ with_line same f k y xs)) ≡ with_line same f k y (cond b (x ∷ filter p xs) (filter p xs))
        go true true r s later = rw (h, s) refl
        go true false r s later = rw (r, s) (ap (λ zs. x ∷ zs) later)
        go false true r s later = absurd (true≢false (sym s ∙ e x r))
        go false false r s later = rw r later

-- The line that is found has the key.
pub line_passes : {X K : Type 0} (same : K → K → Bool) (f : X → K) (k : K) (xs : List X) (x : X)
    → line_with same f k xs ≡ Some x → same (f x) k ≡ true
line_passes same f k [] x e = absurd cc
line_passes same f k (y ∷ ys) x e = go (same (f y) k) refl e (λ d. line_passes same f k ys x d)
  where
    go : (b : Bool) → same (f y) k ≡ b → cond b (Some y) (line_with same f k ys) ≡ Some x
        → (line_with same f k ys ≡ Some x → same (f x) k ≡ true) → same (f x) k ≡ true
    go true s d later = let i : x ≡ y = cc in rw i s
    go false s d later = later d
