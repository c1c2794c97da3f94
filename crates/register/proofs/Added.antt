-- A book with room for a line takes it.
--   added        the line comes after those that the book held
--   room_for_all   a book has room for what it will hold
--   next_added   so does the next of some lines for which there is room
use Rattle.std.proofs.Common.{◌≡◌, ℕ, true, ◌<◌, ◌≤◌, List, [], ◌∷◌, ◌++◌, map, length, Ok, Err, Result, sym, ap, ◌∙◌, append_assoc, length-append, arith}
use Rattle.std.proofs.lemmas.List.{length-map}
use Rattle.std.proofs.lemmas.Bool.Decides.{nat_tests}
use Rattle.base.specs.declared.refusal.Refusal.{Refusal}
use Rattle.book.specs.Books.{room, lines_of, AddsLine}
use Rattle.book.specs.declared.book.Book.{Book}
use Rattle.protocol.specs.Checks.{has_room}

pub added : {L : Type 0} (x : L) (b d : Book L) (r : Result Unit Refusal) → AddsLine x b d r → length (lines_of b) < room b
    → lines_of d ≡ lines_of b ++ x ∷ []
added x b d (Ok u) h l = h.1
added x b d (Err e) h l = let full = h.0 in absurd (omega arith)

-- A book has room for all that it will hold, where it has room for as many as are still to come.
pub room_for_all : {L X : Type 0} (f : X → L) (xs : List X) (ys : List L) (n : ℕ) → has_room ys n (length xs) ≡ true → length (ys ++ map f xs) ≤ n
room_for_all f xs ys n e =
    let long = length-append ys (map f xs) in
    let same = length-map xs f in
    grind (arith, nat_tests)

-- The next of some lines, each of something in a list, where the book has room for what it will hold in the end.
pub next_added : {L X : Type 0} (f : X → L) (x : X) (xs : List X) (all : List L) (b d : Book L) (r : Result Unit Refusal) → AddsLine (f x) b d r
    → lines_of b ++ map f (x ∷ xs) ≡ all → length all ≤ room b → lines_of d ++ map f xs ≡ all
next_added f x xs all b d r h e l =
    let long = sym (ap length e) ∙ length-append (lines_of b) (map f (x ∷ xs)) in
    ap (λ ys. ys ++ map f xs) (added (f x) b d r h (omega arith)) ∙ (append_assoc (lines_of b) (f x ∷ []) (map f xs) ∙ e)
