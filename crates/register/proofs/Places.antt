-- A line by its place.
--   found_key      the line that is found has the key
--   Finds, finds   what a search from the end finds
--   replaced_at    the line at the place of the key k is the one that is replaced
--   there_at       there is a line at a place
--   held_set       a book after its line at a place that it has was replaced
use Rattle.std.proofs.Common.{◌≡◌, ℕ, suc, ◌+◌, ◌<◌, Bool, true, false, cond, List, [], ◌∷◌, length, set, Some, None, Option, refl, ap, ◌∙◌, arith, sym}
use Rattle.std.specs.List.{IsDistinct, position_from, slice_get}
use Rattle.std.specs.Option.{option_and_then}
use Rattle.std.proofs.Common.{map, ◌≤◌, ⊎_elim, get_or}
use Rattle.std.proofs.lemmas.Option.{slice_get_cases}
use Rattle.base.proofs.Clash.{clash}
use Rattle.book.proofs.Last.{last_is_first, found_last}
use Rattle.book.specs.Books.{line_with, lines_of, ReplacesLine, position_of, last_position_of}
use Rattle.book.specs.declared.book.Book.{Book}
use Rattle.protocol.specs.Model.{with_line}

module _ {L K : Type 0} (same : K → K → Bool) (f : L → K) (k : K) where
  -- The places count from n.
  abbrev position_past : ℕ → List L → Option ℕ
  position_past n ys = position_from (λ y. same (f y) k) n ys

  -- Where the places count from n, the line that is replaced is as many lines on.
  replaced_from : (n i : ℕ) (x : L) (ys : List L) → position_past n ys ≡ Some i
      → (j : ℕ) × (n + j ≡ i) × (set ys j x ≡ with_line same f k x ys)
  replaced_from n i x [] e = clash cc
  replaced_from n i x (y ∷ ys) e = go (same (f y) k) e (replaced_from (n + 1) i x ys)
    where
      go : (b : Bool) → cond b (Some n) (position_past (n + 1) ys) ≡ Some i
          → (position_past (n + 1) ys ≡ Some i → (j : ℕ) × (n + 1 + j ≡ i) × (set ys j x ≡ with_line same f k x ys))
          → (j : ℕ) × (n + j ≡ i) × (set (y ∷ ys) j x ≡ cond b (x ∷ ys) (y ∷ with_line same f k x ys))
      go true h later = let z : n ≡ i = cc in (0, omega arith, refl)
      go false h later = let w = later h in (suc w.0, omega arith, ap (λ zs. y ∷ zs) w.2)

  pub replaced_at : (i : ℕ) (x : L) (ys : List L) → position_of same f k ys ≡ Some i → set ys i x ≡ with_line same f k x ys
  replaced_at i x ys e = let w = replaced_from 0 i x ys e in ap (λ j. set ys j x) (omega (arith, w.1)) ∙ w.2

  -- The line that is found has the key.
  pub found_key : ((j : K) → same j k ≡ true → j ≡ k) → (x : L) (ys : List L) → line_with same f k ys ≡ Some x → f x ≡ k
  found_key equal x [] e = clash cc
  found_key equal x (y ∷ ys) e = go (same (f y) k) refl e (found_key equal x ys)
    where
      go : (b : Bool) → same (f y) k ≡ b → cond b (Some y) (line_with same f k ys) ≡ Some x
          → (line_with same f k ys ≡ Some x → f x ≡ k) → f x ≡ k
      go true s h later = let z : y ≡ x = cc in ap f (sym z) ∙ equal (f y) s
      go false s h later = later h

-- What a search from the end finds, where no two lines have the same key.
pub record Finds {L K : Type 0} (same : K → K → Bool) (f : L → K) (k : K) (xs : List L) : Type 0 where
  pub first : option_and_then (slice_get xs) (last_position_of same f k xs) ≡ line_with same f k xs
  pub nothing : last_position_of same f k xs ≡ None → line_with same f k xs ≡ None
  pub line : (i : ℕ) → last_position_of same f k xs ≡ Some i → line_with same f k xs ≡ slice_get xs i
  pub place : (i : ℕ) → last_position_of same f k xs ≡ Some i → position_of same f k xs ≡ Some i

pub finds : {L K : Type 0} (same : K → K → Bool) (equal : (i j : K) → same i j ≡ true → i ≡ j) (f : L → K) (k : K) (xs : List L)
    → IsDistinct same (map f xs) → Finds same f k xs
finds same equal f k xs d =
    let there = found_last same equal f k xs d in
    record {
      first = there;
      nothing = λ e. sym there ∙ ap (option_and_then (slice_get xs)) e;
      line = λ i e. sym there ∙ ap (option_and_then (slice_get xs)) e;
      place = λ i e. sym (last_is_first same equal f k xs d) ∙ e;
    }

-- A book after its line at a place that it has was replaced.
pub held_set : {L : Type 0} (i : ℕ) (x : L) (b d : Book L) (r : Bool) → ReplacesLine i x b d r → i < length (lines_of b) → lines_of d ≡ set (lines_of b) i x
held_set i x b d true h l = h.1
held_set i x b d false h l = let past = h.0 in absurd (omega arith)

-- There is a line at a place within a list.
pub there_at : {L : Type 0} (xs : List L) (i : ℕ) → i < length xs → (x : L) × (slice_get xs i ≡ Some x)
there_at xs i l =
    ⊎_elim
    (λ (h : (x : _) × (i < length xs) × (slice_get xs i ≡ Some x) × (get_or xs i x ≡ x)). (h.0, h.2))
    (λ (h : (length xs ≤ i) × (slice_get xs i ≡ None)). let past = h.0 in absurd (omega arith))
    (slice_get_cases xs i).1
