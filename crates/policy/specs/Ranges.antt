-- Ranges of stamps by their signed bounds, both ends inside.
--   Within l u r                  the range r is not empty and lies from l to u
--   Meaning P                     a policy that answers P keeps its meaning
--   whole_range, near_range       what the two policies answer to l, u, the before lowers and the after uppers
use Rattle.std.specs.Prelude.{◌≡◌, Bool, true, false, cond, ◌&&◌, ◌||◌, List, [], ◌∷◌, ℤ, pos, ◌+ℤ◌, ◌≤ℤ◌, ◌<ℤ◌, int_lt}
use Rattle.std.specs.Int.{int_min}
use Rattle.policy.specs.declared.near.TheConstants.{REACH}

-- A range inside another, not empty.
abbrev pub Within : ℤ → ℤ → ℤ × ℤ → Type 0
Within l u r = (l ≤ℤ r.0) × (r.0 ≤ℤ r.1) × (r.1 ≤ℤ u)

-- Of a range that is not empty a policy takes a part that is not empty; where both lists are empty, the range as given. An empty
-- range comes back as it is. That equal arguments get equal answers lies in P being a function.
pub record Meaning (P : ℤ → ℤ → List ℤ → List ℤ → ℤ × ℤ) : Type 0 where
  pub within : (l u : ℤ) (bs cs : List ℤ) → l ≤ℤ u → Within l u (P l u bs cs)
  pub whole : (l u : ℤ) → P l u [] [] ≡ (l, u)
  pub empty : (l u : ℤ) (bs cs : List ℤ) → u <ℤ l → P l u bs cs ≡ (l, u)

-- An empty list: no row is near.
abbrev pub is_empty : List ℤ → Bool
is_empty [] = true
is_empty (x ∷ xs) = false

-- The whole range, whoever is near.
abbrev pub whole_range : ℤ → ℤ → List ℤ → List ℤ → ℤ × ℤ
whole_range l u bs cs = (l, u)

-- From l to the smaller of u and l + 1,023 where a list has a row; else, and of an empty range, the range as given.
abbrev pub near_range : ℤ → ℤ → List ℤ → List ℤ → ℤ × ℤ
near_range l u bs cs = cond (int_lt u l || (is_empty bs && is_empty cs)) (l, u) (l, int_min u (l +ℤ pos REACH))
