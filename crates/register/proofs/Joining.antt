-- Row by row, what the notes say of two transactions puts the same rows on the two lists as the table does note by note, where a
-- transaction has one row at a ground.
--   befores_same, afters_same      the bounds on the two lists
--   pushed_same                    the rows that make way
use Rattle.std.proofs.Common.{◌≡◌, ℕ, Bool, true, false, cond, ◌&&◌, ◌||◌, eqb, List, [], ◌∷◌, map, ℤ, Some, None, filter, Option, sym, refl, ap, ap₂, ◌∙◌, arith}
use Rattle.std.proofs.Math.Bool.{and-true}
use Rattle.std.proofs.lemmas.Bool.{eqb-true, and_right}
use Rattle.std.proofs.lemmas.Bool.Decides.{nat_tests}
use Rattle.std.proofs.lemmas.Map.Keys.{IsDistinct-head, IsDistinct-tail}
use Rattle.std.specs.List.{AllByRecursion, IsDistinct}
use Rattle.base.specs.Keys.{ground_of}
use Rattle.lines.specs.LineKeys.{row_key, same_row}
use Rattle.lines.specs.Locks.{row_of}
use Rattle.lines.specs.Notes.{side_of}
use Rattle.lines.specs.declared.note.Effect.{Effect}
use Rattle.lines.specs.declared.note.Note.{Note}
use Rattle.lines.specs.declared.note.Side.{Side}
use Rattle.lines.specs.declared.row.Row.{Row}
use Rattle.lines.specs.declared.row.RowKey.{RowKey}
use Rattle.protocol.specs.Among.{effect_among, effect_with, other_party, joins_among, is_before, is_after, befores_among, afters_among, pushed_by, pushed_among}
use Rattle.protocol.specs.Checks.{is_running}
use Rattle.register.specs.Relations.{said, relation_of, is_earlier, is_later, is_apart, lists_of, befores_beside, afters_beside, pushed_beside}
use Rattle.register.proofs.Bounding.{effect_said}

-- A key is the same as itself.
same_row_itself : (k : RowKey) → same_row k k ≡ true
same_row_itself k = grind (arith, nat_tests)

-- Each row is found by its own key.
all_found : (rows : List Row) → IsDistinct same_row (map row_key rows)
    → AllByRecursion (λ r. row_of rows r.transaction r.ground ≡ Some r) rows
all_found [] d = tt
all_found (x ∷ xs) d =
    (itself, later xs (IsDistinct-head same_row (row_key x) (map row_key xs) d) (all_found xs (IsDistinct-tail same_row (row_key x) (map row_key xs) d)))
  where
    itself : row_of (x ∷ xs) x.transaction x.ground ≡ Some x
    itself = let same = same_row_itself (row_key x) in rw same refl

    later : (rs : List Row) → AllByRecursion (λ j. same_row (row_key x) j ≡ false) (map row_key rs)
        → AllByRecursion (λ r. row_of xs r.transaction r.ground ≡ Some r) rs
        → AllByRecursion (λ r. row_of (x ∷ xs) r.transaction r.ground ≡ Some r) rs
    later [] h f = tt
    later (r ∷ rs) h f = let apart = h.0 in (rw apart f.0, later rs h.1 f.1)

-- Lines that pass one test pass another that comes to the same.
filter_same : {X : Type 0} (p q : X → Bool) (xs : List X) → AllByRecursion (λ x. p x ≡ q x) xs → filter p xs ≡ filter q xs
filter_same p q [] h = refl
filter_same p q (x ∷ xs) h = let later = filter_same p q xs h.1 in let here = h.0 in grind arith

map_same : {X Y : Type 0} (f k : X → Y) (xs : List X) → AllByRecursion (λ x. f x ≡ k x) xs → map f xs ≡ map k xs
map_same f k [] h = refl
map_same f k (x ∷ xs) h = ap₂ (λ y ys. y ∷ ys) h.0 (map_same f k xs h.1)

all_have : {X : Type 0} (P Q : X → Type 0) → ((x : X) → P x → Q x) → (xs : List X) → AllByRecursion P xs → AllByRecursion Q xs
all_have P Q f [] h = tt
all_have P Q f (x ∷ xs) h = (f x h.0, all_have P Q f xs h.1)

module _ (rows : List Row) (t g : ℕ) where
  -- A row that is found by its key is put on a list by the notes, one after another.
  module _ (r : Row) (at : row_of rows r.transaction r.ground ≡ Some r) where
    -- One note does so by what it says, where the row is the other party's.
    one_note : (on : Option Effect → Bool) → on None ≡ false → (n : Note)
        → (eqb r.ground g && (on (effect_among rows t g n) && eqb (other_party n t) r.transaction)) ≡ on (effect_said (said t g r n) r)
    one_note on none n =
        ap (λ b. eqb r.ground g && (on (effect_among rows t g n) && b)) (other (eqb r.transaction u) refl)
        ∙ go (eqb r.transaction u) (eqb r.ground g) (eqb (ground_of n.key) g) refl refl
      where
        u : ℕ
        u = other_party n t

        other : (b : Bool) → eqb r.transaction u ≡ b → eqb u r.transaction ≡ b
        other b e = grind (arith, nat_tests)

        apart : (H : Bool) → false ≡ on (effect_said (cond (H && false) (side_of n t) None) r)
        apart true = sym none
        apart false = sym none

        go : (T G H : Bool) → eqb r.transaction u ≡ T → eqb r.ground g ≡ G
            → (G && (on (cond H (effect_with n t (row_of rows u g)) None) && T))
            ≡ on (effect_said (cond (H && (T && G)) (side_of n t) None) r)
        go true true true e f =
            let found : row_of rows u g ≡ Some r =
            ap₂ (row_of rows) (sym (eqb-true _ _ e)) (sym (eqb-true _ _ f)) ∙ at in
            and-true _ ∙ ap (λ o. on (effect_with n t o)) found
        go true true false e f = and-true (on None)
        go true false H e f = apart H
        go false true H e f = and_right _ false refl ∙ apart H
        go false false H e f = apart H

    before_table : (s : Option Side) → is_before (effect_said s r) ≡ (is_running r.state && is_later s)
    before_table s = grind arith

    after_table : (s : Option Side) → is_after (effect_said s r) ≡ (is_running r.state && (is_earlier s || is_apart s))
    after_table s = grind arith

    before_same : (notes : List Note) → joins_among is_before rows notes t g r ≡ (lists_of (relation_of notes t g) r).before
    before_same [] = grind (arith, nat_tests)
    before_same (n ∷ ns) =
        both (eqb r.ground g) _ _ (is_running r.state) _ _ (one_note is_before refl n ∙ before_table (said t g r n)) (before_same ns)
      where
        both : (G x y R a b : Bool) → (G && x) ≡ (R && a) → (G && y) ≡ (R && b) → (G && (x || y)) ≡ (R && (a || b))
        both G x y R a b d e = grind (arith, nat_tests)

    after_same : (notes : List Note) → joins_among is_after rows notes t g r ≡ (lists_of (relation_of notes t g) r).after
    after_same [] = grind (arith, nat_tests)
    after_same (n ∷ ns) =
        all (eqb r.ground g) _ _ (is_running r.state) (is_earlier (said t g r n)) (relation_of ns t g r).earlier (is_apart (said t g r n)) (relation_of ns t g r).apart
        (one_note is_after refl n ∙ after_table (said t g r n)) (after_same ns)
      where
        all : (G x y R a b c d : Bool) → (G && x) ≡ (R && (a || c)) → (G && y) ≡ (R && (b || d)) → (G && (x || y)) ≡ (R && ((a || b) || (c || d)))
        all G x y R a b c d e f = grind (arith, nat_tests)

  module _ (notes : List Note) (d : IsDistinct same_row (map row_key rows)) where
    pub befores_same : befores_among rows notes t g ≡ befores_beside (relation_of notes t g) rows
    befores_same =
        ap (map (λ r. r.lower))
        (filter_same (joins_among is_before rows notes t g) _ rows (all_have _ _ (λ r at. before_same r at notes) rows (all_found rows d)))

    pub afters_same : afters_among rows notes t g ≡ afters_beside (relation_of notes t g) rows
    afters_same =
        ap (map (λ r. r.upper))
        (filter_same (joins_among is_after rows notes t g) _ rows (all_have _ _ (λ r at. after_same r at notes) rows (all_found rows d)))

    pub pushed_same : (range : ℤ × ℤ) → map (pushed_among rows notes t g range) rows ≡ map (pushed_beside (relation_of notes t g) range) rows
    pushed_same range =
        map_same (pushed_among rows notes t g range) (pushed_beside (relation_of notes t g) range) rows
        (all_have _ _ (λ r at. ap₂ (λ b a. pushed_by b a range r) (before_same r at notes) (after_same r at notes)) rows (all_found rows d))
