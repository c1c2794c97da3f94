-- Lines that go to a printer one after another.
use Rattle.std.proofs.Common.{◌≡◌, ℕ, List, [], ◌∷◌, ◌++◌, Ok, Err, Some, None, Option, Result, subst}
use Rattle.std.specs.Result.{result_err}
use Rattle.std.specs.declared.io.Error.{Error}
use Rattle.survey.specs.Printing.{Prints, none, more, stopped}

module _ {P : Type 0} (prints : P → List ℕ → Result Unit Error → P → Type 0) where
  -- Lines that were all taken, and then some more.
  pub prints_on : (s t u : P) (xs ys : List (List ℕ)) (o : Option Error) → Prints prints s xs None t → Prints prints t ys o u
      → Prints prints s (xs ++ ys) o u
  prints_on s t u [] ys o (none _) q = q
  prints_on s t u (x ∷ xs) ys o (more _ r _ _ _ _ p ps) q = more s r u x (xs ++ ys) o p (prints_on r t u xs ys o ps q)

  -- Lines that were not all taken.
  pub prints_short : (s t : P) (xs ys : List (List ℕ)) (e : Error) → Prints prints s xs (Some e) t → Prints prints s (xs ++ ys) (Some e) t
  prints_short s t [] ys e p = elim p [ ]
  prints_short s t (x ∷ xs) ys e (more _ r _ _ _ _ p ps) = more s r t x (xs ++ ys) (Some e) p (prints_short r t xs ys e ps)
  prints_short s t (x ∷ xs) ys e (stopped _ _ _ _ _ p) = stopped s t x (xs ++ ys) e p

  -- One line.
  pub prints_one : (s t : P) (x y : List ℕ) (r : Result Unit Error) → y ≡ x → prints s y r t → Prints prints s (x ∷ []) (result_err r) t
  prints_one s t x y (Ok tt) e p = more s t t x [] None (subst (λ z. prints s z (Ok tt) t) e p) (none t)
  prints_one s t x y (Err f) e p = stopped s t x [] f (subst (λ z. prints s z (Err f) t) e p)
