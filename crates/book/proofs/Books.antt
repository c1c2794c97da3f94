-- The lines that a book holds.
--   line_at          the line at a place that was found, or nothing
--   line_at_place    the line at the place found is the first with the key
use Rattle.std.proofs.Common.{◌≡◌, ℕ, Bool, List, Some, None, Option, arith}
use Rattle.std.proofs.lemmas.Iterator.Adapters.{position_from-zero}
use Rattle.std.proofs.lemmas.Grind.{common_steps}
use Rattle.std.proofs.lemmas.List.Folds.{find_at}
use Rattle.std.proofs.lemmas.Option.{slice_get_past}
use Rattle.std.specs.List.{slice_get}
use Rattle.book.specs.Books.{line_with, position_of}

-- The line at a place, where there is one.
abbrev pub line_at : {L : Type 0} → List L → Option ℕ → Option L
line_at xs None = None
line_at xs (Some i) = slice_get xs i

-- The line at the place found is the first with the key.
pub line_at_place : {L K : Type 0} (same : K → K → Bool) (f : L → K) (k : K) (xs : List L)
    → line_at xs (position_of same f k xs) ≡ line_with same f k xs
line_at_place same f k xs =
    let zero = position_from-zero (λ x. same (f x) k) xs in
    let found = find_at (λ x. same (f x) k) xs in
    grind (arith, common_steps, slice_get_past, zero, found)
