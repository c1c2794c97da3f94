-- What holds of all lines of a list.
--   all_first, all_later, all_unmap    of two lists, of the first and of the others; of a mapped list, of what it was mapped from
--   all_each                           of each line in a list, of all
--   kept_all, all_kept                 of the lines that pass a test
--   all_joined, joined_same            of what lines give together; lines that give the same
--   joined_none, kept_none, any_none   lines of which each gives nothing, or fails a test
use Rattle.std.proofs.Common.{◌≡◌, Bool, true, false, cond, List, [], ◌∷◌, ◌++◌, map, filter, refl, ap₂, inl, inr}
use Rattle.std.proofs.ByRecursion.{All-append}
use Rattle.std.proofs.lemmas.Bool.{or_from}
use Rattle.std.specs.List.{AllByRecursion, flat_map, list_any}
use Rattle.serial.proofs.Lines.Member.{In}

module _ {X : Type 0} (Q : X → Type 0) where
  pub all_first : (xs ys : List X) → AllByRecursion Q (xs ++ ys) → AllByRecursion Q xs
  all_first [] ys a = tt
  all_first (x ∷ xs) ys a = (a.0, all_first xs ys a.1)

  pub all_later : (xs ys : List X) → AllByRecursion Q (xs ++ ys) → AllByRecursion Q ys
  all_later [] ys a = a
  all_later (x ∷ xs) ys a = all_later xs ys a.1

  pub all_each : (xs : List X) → ((x : X) → In x xs → Q x) → AllByRecursion Q xs
  all_each [] f = tt
  all_each (x ∷ xs) f = (f x (inl refl), all_each xs (λ y i. f y (inr i)))

pub all_unmap : {X Y : Type 0} (Q : Y → Type 0) (f : X → Y) (xs : List X) → AllByRecursion Q (map f xs) → AllByRecursion (λ x. Q (f x)) xs
all_unmap Q f [] a = tt
all_unmap Q f (x ∷ xs) a = (a.0, all_unmap Q f xs a.1)

-- What holds of each line that passes, if something holds of all, holds of all that are kept.
pub kept_all : {X : Type 0} (p : X → Bool) (R Q : X → Type 0) → ((x : X) → p x ≡ true → R x → Q x) → (xs : List X) → AllByRecursion R xs
    → AllByRecursion Q (filter p xs)
kept_all p R Q f [] a = tt
kept_all p R Q f (x ∷ xs) a = go (p x) refl (kept_all p R Q f xs a.1)
  where
    go : (b : Bool) → p x ≡ b → AllByRecursion Q (filter p xs) → AllByRecursion Q (cond b (x ∷ filter p xs) (filter p xs))
    go true e later = (f x e a.0, later)
    go false e later = later

pub all_kept : {X : Type 0} (Q : X → Type 0) (p : X → Bool) (xs : List X) → AllByRecursion Q xs → AllByRecursion Q (filter p xs)
all_kept Q p xs a = kept_all p Q Q (λ x _ q. q) xs a

-- What holds of all that each line gives holds of all that they give together.
pub all_joined : {X Y : Type 0} (R : X → Type 0) (Q : Y → Type 0) (f : X → List Y) → ((x : X) → R x → AllByRecursion Q (f x)) → (xs : List X)
    → AllByRecursion R xs → AllByRecursion Q (flat_map f xs)
all_joined R Q f e [] a = tt
all_joined R Q f e (x ∷ xs) a = All-append Q (f x) _ (e x a.0) (all_joined R Q f e xs a.1)

-- Two ways to go from lines to lists give the same of lines on which they are the same.
pub joined_same : {X Y : Type 0} (Q : X → Type 0) (f h : X → List Y) → ((x : X) → Q x → f x ≡ h x) → (xs : List X) → AllByRecursion Q xs
    → flat_map f xs ≡ flat_map h xs
joined_same Q f h e [] q = refl
joined_same Q f h e (x ∷ xs) q = ap₂ (λ ys zs. ys ++ zs) (e x q.0) (joined_same Q f h e xs q.1)

pub joined_none : {X Y : Type 0} (Q : X → Type 0) (f : X → List Y) → ((x : X) → Q x → f x ≡ []) → (xs : List X) → AllByRecursion Q xs
    → flat_map f xs ≡ []
joined_none Q f e [] a = refl
joined_none Q f e (x ∷ xs) a = rw (e x a.0) (joined_none Q f e xs a.1)

pub kept_none : {X : Type 0} (p : X → Bool) → ((x : X) → p x ≡ false) → (xs : List X) → filter p xs ≡ []
kept_none p e [] = refl
kept_none p e (x ∷ xs) = rw (e x) (kept_none p e xs)

pub any_none : {X : Type 0} (Q : X → Type 0) (p : X → Bool) → ((x : X) → Q x → p x ≡ false) → (xs : List X) → AllByRecursion Q xs
    → list_any p xs ≡ false
any_none Q p e [] a = refl
any_none Q p e (x ∷ xs) a = or_from (p x) _ (e x a.0) (any_none Q p e xs a.1)
