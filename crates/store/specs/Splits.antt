-- A split store.
--   split_cells b m n          grounds below the boundary b have their cells in m, the others in n
--   goes_left s k              the key k is the left store's
--   cells_of f g s             the cells of a split store
--   OneSide f g s r t          the put was one into one of the two stores
--   Sides f g s t k x r        that store is the one on the key's side
--   ChangesOne m n k x r o p   it changed that store and not the other
--   both_lists f g s           a list that the left store has, and then that of the right one
--   BothAre f g s              something holds of both stores
use Rattle.std.specs.Prelude.{◌≡◌, ℕ, Bool, cond, MatchBool, ◌⊎◌, List, ◌++◌, Result, nat_lt}
use Rattle.base.specs.declared.refusal.Refusal.{Refusal}
use Rattle.base.specs.Keys.{ground_of}
use Rattle.store.specs.declared.cell.Cell.{Cell}
use Rattle.store.specs.declared.split.Split.{Split}
use Rattle.store.specs.Stores.{Cells, Put}

-- Grounds below the boundary are the left store's, the others the right one's; above 8 every ground lies below it.
abbrev pub split_cells : ℕ → Cells → Cells → Cells
split_cells b m n k = cond (nat_lt (ground_of k) b) (m k) (n k)

-- A key's ground is the left store's.
abbrev pub goes_left : {L R : Type 0} → Split L R → ℕ → Bool
goes_left s k = nat_lt (ground_of k) s.boundary

-- The cells of a split store, by what the two stores mean.
abbrev pub cells_of : {L R : Type 0} → (L → Cells) → (R → Cells) → Split L R → Cells
cells_of f g s = split_cells s.boundary (f s.left) (g s.right)

-- Putting into one of two stores: its cells went from m to n, and the other store, first o and then p, did not change.
pub record ChangesOne {S : Type 0} (m n : Cells) (k : ℕ) (x : Cell) (r : Result Unit Refusal) (o p : S) : Type 0 where
  pub put : Put m n k x r
  pub other : p ≡ o

-- Putting x at k turned the store s into t and answered r: on the key's side it was put, and the other side did not change.
abbrev pub Sides : {L R : Type 0} → (L → Cells) → (R → Cells) → Split L R → Split L R → ℕ → Cell → Result Unit Refusal → Type 0
Sides f g s t k x r =
    MatchBool (goes_left s k)
    (ChangesOne (f s.left) (f t.left) k x r s.right t.right)
    (ChangesOne (g s.right) (g t.right) k x r s.left t.left)

-- A put into a split is one into the left store, or one into the right, and the other store is then as it was.
abbrev pub OneSide : {L R : Type 0} → (L → Result Unit Refusal → L → Type 0) → (R → Result Unit Refusal → R → Type 0)
    → Split L R → Result Unit Refusal → Split L R → Type 0
OneSide f g s r t = (f s.left r t.left × (t.right ≡ s.right)) ⊎ (g s.right r t.right × (t.left ≡ s.left))

-- What the left store has of something, and then what the right one has.
abbrev pub both_lists : {L R : Type 0} → (L → List ℕ) → (R → List ℕ) → Split L R → List ℕ
both_lists f g s = f s.left ++ g s.right

-- Something holds of both stores.
abbrev pub BothAre : {L R : Type 0} → (L → Type 0) → (R → Type 0) → Split L R → Type 0
BothAre f g s = f s.left × g s.right
