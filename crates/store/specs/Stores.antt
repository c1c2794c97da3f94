-- What stores mean.
--   Cells             at each key of the set its cell, at every other key nothing
--   with_cell m k x   the cells m with x at the key k
--   Put m n k x r     putting x at k turned the cells m into n and answered r
--   Puts beside s t   the store s became t by some puts, or none
use Rattle.std.specs.Prelude.{◌≡◌, ℕ, cond, is_some, Some, Ok, Option, Result, ◌==◌}
use Rattle.base.specs.declared.refusal.Refusal.{Refusal}
use Rattle.base.specs.Refusals.{refused}
use Rattle.store.specs.declared.cell.Cell.{Cell}

-- The cells of a store.
abbrev pub Cells : Type 0
Cells = ℕ → Option Cell

-- The same cells, with another at one key.
abbrev pub with_cell : Cells → ℕ → Cell → Cells
with_cell m k x q = cond (q == k) (Some x) (m q)

-- A key of the set gets the cell and no other key changes; a key outside it is refused with 11 and no cell changes.
pub record Put (m n : Cells) (k : ℕ) (x : Cell) (r : Result Unit Refusal) : Type 0 where
  pub answers : r ≡ cond (is_some (m k)) (Ok tt) (refused 11)
  pub leaves : n ≡ cond (is_some (m k)) (with_cell m k x) m

-- Some puts, one after the other, where `beside` is what holds of each beside what it does to the cells.
pub data Puts {S : Type 0} (beside : S → Result Unit Refusal → S → Type 0) : S → S → Type 0 where
  none : (s : S) → Puts beside s s
  more : (s t u : S) (r : Result Unit Refusal) → Puts beside s t → beside t r u → Puts beside s u
