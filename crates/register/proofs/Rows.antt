-- Rows.
--   no_row         what a read of rows has as its default
--   nth_holds      what holds of all lines holds of the one at a place
--   stays_on       what stays over one call and over the next stays over both
--   finds_row      what a search from the end finds
--   row_owner      a row that is found is of the transaction and ground that it was sought by
use Rattle.std.proofs.Common.{◌≡◌, ℕ, ◌+◌, ◌-◌, ◌<◌, ◌≤◌, List, get_or, drop, length, pos, Some, sym, ap, ◌∙◌, subst, arith, drop-drop}
use Rattle.std.proofs.ByRecursion.{All-get_or}
use Rattle.std.proofs.lemmas.Option.{slice_get-get_or}
use Rattle.std.specs.List.{AllByRecursion, slice_get}
use Rattle.book.specs.Books.{Stays, lines_of}
use Rattle.book.specs.declared.book.Book.{Book}
use Rattle.lines.specs.LineKeys.{row_key, row_key_at, same_row}
use Rattle.lines.specs.Locks.{row_of}
use Rattle.lines.specs.declared.row.State.TheVariants.{Running}
use Rattle.lines.specs.declared.row.Row.{Row}
use Rattle.lines.specs.declared.row.RowKey.{RowKey}
use Rattle.register.specs.declared.row_book.RowBook.{RowBook}
use Rattle.register.proofs.Places.{Finds, finds, found_key}
use Rattle.register.proofs.Distinct.{same_row_equal}
use Rattle.register.proofs.Sound.{rows_sound}

-- What a read of a slice of rows has as its default.
abbrev pub no_row : Row
no_row = record { transaction = 0; ground = 0; state = Running; lower = pos 0; upper = pos 0 }

-- What holds of all lines holds of the one at a place.
pub nth_holds : {X : Type 0} (P : X → Type 0) (xs : List X) (i : ℕ) (x : X) → slice_get xs i ≡ Some x → i < length xs → AllByRecursion P xs → P x
nth_holds P xs i x e l h =
    let found : Some x ≡ Some (get_or xs i x) = sym e ∙ slice_get-get_or xs i x l in
    let read : x ≡ get_or xs i x = cc in
    subst P (sym read) (All-get_or P xs i x l h)

-- Lists that are the same past a place are the same past a later one.
past_more : {X : Type 0} (xs ys : List X) (n m : ℕ) → drop n ys ≡ drop n xs → n ≤ m → drop m ys ≡ drop m xs
past_more xs ys n m e l =
    let more : n + (m - n) ≡ m = omega arith in
    subst (λ i. drop i ys ≡ drop i xs) more (sym (drop-drop (m - n) n ys) ∙ ap (drop (m - n)) e ∙ drop-drop (m - n) n xs)

-- What stays over one call and over the next stays over both.
pub stays_on : {L : Type 0} (a b d : Book L) → Stays a b → Stays b d → Stays a d
stays_on a b d s u = record {
  limit = u.limit ∙ s.limit;
  room = u.room ∙ s.room;
  named = u.named ∙ s.named;
  kept = let h = s.kept in let k = u.kept in omega arith;
  past = u.past ∙ past_more a.lines.now b.lines.now b.count d.count s.past u.kept;
}

-- A row that is found is of the transaction and ground that it was sought by.
pub row_owner : (rs : List Row) (t g : ℕ) (r : Row) → row_of rs t g ≡ Some r → (r.transaction ≡ t) × (r.ground ≡ g)
row_owner rs t g r e =
    let own = found_key same_row row_key (row_key_at t g) (λ j. same_row_equal j (row_key_at t g)) r rs e in
    (ap (λ (k : RowKey). k.transaction) own, ap (λ (k : RowKey). k.ground) own)

-- What a search from the end finds among the rows.
pub finds_row : (b : RowBook) (k : RowKey) → Finds same_row row_key k (lines_of b.book)
finds_row b k = finds same_row same_row_equal row_key k (lines_of b.book) (rows_sound (lines_of b.book) b.sound).single
