-- Bounds that are raised above some numbers, or lowered below some.
--   raised_append                   by numbers and more numbers: by the first, then by the others
--   raised_least, lowered_most      a bound that is raised does not sink; one that is lowered does not rise
use Rattle.std.proofs.Common.{◌≡◌, List, [], ◌∷◌, ◌++◌, ℤ, ◌≤ℤ◌, refl, arith}
use Rattle.std.proofs.lemmas.Int.{ints, clamps}
use Rattle.protocol.specs.Among.{raise, lower, raised_above, lowered_below}

-- Raising above some numbers and others is raising above the first, then above the others.
pub raised_append : (l : ℤ) (xs ys : List ℤ) → raised_above l (xs ++ ys) ≡ raised_above (raised_above l xs) ys
raised_append l [] ys = refl
raised_append l (x ∷ xs) ys = raised_append (raise l x) xs ys

-- A lower bound that is raised does not sink.
pub raised_least : (l : ℤ) (xs : List ℤ) → l ≤ℤ raised_above l xs
raised_least l [] = omega (arith, ints)
raised_least l (x ∷ xs) = let h = raised_least (raise l x) xs in omega (arith, ints, clamps)

-- An upper bound that is lowered does not rise.
pub lowered_most : (u : ℤ) (xs : List ℤ) → lowered_below u xs ≤ℤ u
lowered_most u [] = omega (arith, ints)
lowered_most u (x ∷ xs) = let h = lowered_most (lower u x) xs in omega (arith, ints, clamps)
