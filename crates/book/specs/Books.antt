-- What a book holds, and what its calls leave and answer.
--   memory b, room b     the whole memory lent; how many lines can be held
--   lines_of b               the lines held, in the order written
--   position_of same f k xs    the place of the first line whose key (by f) is the same as k, or nothing
--   last_position_of same f k xs   the place of the last line whose key is the same as k, or nothing
--   line_with same f k xs   the first line itself, or nothing
--   largest_key o ks        the largest key by the order o, or nothing
--   NoneAbove o k ks     none of the keys ks is above k
--   AddsLine x b d r        adding x to the book b left the book d and answered r
--   ReplacesLine i x b d r   replacing the line i of b by x left d and answered r
--   Stays b d            d has the limit, the room and the memory of b, and nothing was written past the lines it holds
use Rattle.std.specs.Prelude.{◌≡◌, ℕ, ◌+◌, ◌<◌, ◌≤◌, cond, min, Bool, true, false, List, [], ◌∷◌, ◌++◌, length, take, drop, Some, None, Ok, Err, Option, Result}
use Rattle.std.specs.Prelude.{slice_set}
use Rattle.std.specs.declared.cmp.Ordering.{Ordering}
use Rattle.std.specs.Ordering.{is_lt, ord_max}
use Rattle.std.specs.Option.{option_or}
use Rattle.std.specs.List.{AllByRecursion, find, position_from, reduce}
use Rattle.base.specs.declared.refusal.Refusal.{Refusal}
use Rattle.base.specs.Refusals.{refusal}
use Rattle.book.specs.declared.book.Book.{Book}

-- The memory that was lent, lines past the end included.
abbrev pub memory : {L : Type 0} → Book L → List L
memory b = b.lines.now

-- How many lines the book can hold: no more than its limit, and no more than its memory.
abbrev pub room : {L : Type 0} → Book L → ℕ
room b = min b.limit (length (memory b))

-- The lines that the book holds: the first of its memory, as many as it counts.
abbrev pub lines_of : {L : Type 0} → Book L → List L
lines_of b = take b.count (memory b)

-- Limit and room are the same, and the book lies in the same memory, which goes by its name. No line is taken away, and past the lines
-- that are held then nothing is written.
pub record Stays {L : Type 0} (b d : Book L) : Type 0 where
  pub limit : d.limit ≡ b.limit
  pub room : room d ≡ room b
  pub named : d.lines.ghost_name ≡ b.lines.ghost_name
  pub kept : b.count ≤ d.count
  pub past : drop d.count (memory d) ≡ drop d.count (memory b)

-- With room left the line is written right after the lines held, and nothing else is; without, nothing changes.
abbrev pub AddsLine : {L : Type 0} → L → Book L → Book L → Result Unit Refusal → Type 0
AddsLine x b d (Ok u) =
    (length (lines_of b) < room b) × (lines_of d ≡ lines_of b ++ x ∷ []) × (memory d ≡ slice_set (memory b) (length (lines_of b)) x)
AddsLine x b d (Err e) = (room b ≤ length (lines_of b)) × (e ≡ refusal 2) × (d ≡ b)

-- A line held is written over, and nothing else is; past the lines held nothing changes.
abbrev pub ReplacesLine : {L : Type 0} → ℕ → L → Book L → Book L → Bool → Type 0
ReplacesLine i x b d true = (i < length (lines_of b)) × (lines_of d ≡ slice_set (lines_of b) i x) × (memory d ≡ slice_set (memory b) i x)
ReplacesLine i x b d false = (length (lines_of b) ≤ i) × (d ≡ b)

-- The place of the first line with the key k.
abbrev pub position_of : {L K : Type 0} → (K → K → Bool) → (L → K) → K → List L → Option ℕ
position_of same f k xs = position_from (λ x. same (f x) k) 0 xs

-- The place of the last line that passes a test, counted from n.
abbrev pub last_from : {L : Type 0} → (L → Bool) → ℕ → List L → Option ℕ
last_from p n [] = None
last_from p n (x ∷ xs) = option_or (last_from p (n + 1) xs) (cond (p x) (Some n) None)

-- The place of the last line with the key k.
abbrev pub last_position_of : {L K : Type 0} → (K → K → Bool) → (L → K) → K → List L → Option ℕ
last_position_of same f k xs = last_from (λ x. same (f x) k) 0 xs

-- The first line with the key k, or nothing.
abbrev pub line_with : {L K : Type 0} → (K → K → Bool) → (L → K) → K → List L → Option L
line_with same f k xs = find (λ x. same (f x) k) xs

-- The largest of some keys, or nothing where there are none.
abbrev pub largest_key : {K : Type 0} → (K → K → Ordering) → List K → Option K
largest_key o ks = reduce (λ j k. ord_max o k j) ks

-- None of some keys is above the one found.
abbrev pub NoneAbove : {K : Type 0} → (K → K → Ordering) → Option K → List K → Type 0
NoneAbove o None ks = Unit {0}
NoneAbove o (Some k) ks = AllByRecursion (λ j. is_lt (o k j) ≡ false) ks
