-- Row by row, what the notes say of two transactions comes to what the table says of each note, where a transaction has one row at a
-- ground.
--   effect_said                    what follows from a note that says this
--   floors_same, ceilings_same     the bounds
use Rattle.std.proofs.Common.{◌≡◌, ℕ, Bool, true, false, cond, ◌&&◌, eqb, List, [], ◌∷◌, ◌++◌, map, ℤ, Some, None, Option, fold, sym, refl, ap, ◌∙◌, arith}
use Rattle.std.proofs.lemmas.Bool.Decides.{nat_tests}
use Rattle.std.proofs.lemmas.Int.{ints, clamps}
use Rattle.std.proofs.lemmas.Map.Keys.{IsDistinct-head, IsDistinct-tail}
use Rattle.std.specs.Option.{option_and_then}
use Rattle.std.specs.List.{AllByRecursion, IsDistinct, flat_map}
use Rattle.base.specs.Keys.{ground_of}
use Rattle.lines.specs.LineKeys.{row_key, row_key_at, same_row}
use Rattle.lines.specs.Locks.{row_of}
use Rattle.lines.specs.Notes.{side_of, effect_by}
use Rattle.lines.specs.declared.note.Effect.{Effect}
use Rattle.lines.specs.declared.note.Note.{Note}
use Rattle.lines.specs.declared.note.Side.{Side}
use Rattle.lines.specs.declared.row.Row.{Row}
use Rattle.lines.specs.declared.row.RowKey.{RowKey}
use Rattle.protocol.specs.Among.{raise, lower, raised_above, lowered_below, effect_among, effect_with, effect_floor, effect_ceiling, note_floors, note_ceilings, other_party}
use Rattle.register.specs.Relations.{unrelated, relation_of, with_side, floors_by, ceilings_by, floors_beside, ceilings_beside}
use Rattle.register.specs.declared.relation.Relation.{Relation}

-- A row of the key k is the only one.
none_after : (k : RowKey) (r : Row) (rs : List Row) → same_row (row_key r) k ≡ true
    → AllByRecursion (λ j. same_row (row_key r) j ≡ false) (map row_key rs) → row_of rs k.transaction k.ground ≡ None
none_after k r [] e h = refl
none_after k r (x ∷ xs) e h = let later = none_after k r xs e h.1 in let apart = h.0 in grind (arith, nat_tests)

-- What follows from a note that says this of a transaction, where the row is the other party's.
abbrev pub effect_said : Option Side → Row → Option Effect
effect_said s r = option_and_then (λ s. effect_by s r.state r) s

-- A bound that moves by numbers one after another, in whatever order, and what of it follows from a note and from a row.
module _ (move : ℤ → ℤ → ℤ) (turns : (b x y : ℤ) → move (move b x) y ≡ move (move b y) x)
    (of_effect : Option Effect → List ℤ) (of_row : Relation → Row → List ℤ) (idle : of_effect None ≡ [])
    (unsaid : (r : Row) → of_row unrelated r ≡ [])
    (adds : (s : Option Side) (q : Relation) (r : Row) (b : ℤ)
    → fold move b (of_row (with_side s q) r) ≡ fold move (fold move b (of_effect (effect_said s r))) (of_row q r)) where
  moved_append : (b : ℤ) (xs ys : List ℤ) → fold move b (xs ++ ys) ≡ fold move (fold move b xs) ys
  moved_append b [] ys = refl
  moved_append b (x ∷ xs) ys = moved_append (move b x) xs ys

  past_one : (b x : ℤ) (ys : List ℤ) → fold move (move b x) ys ≡ move (fold move b ys) x
  past_one b x [] = refl
  past_one b x (y ∷ ys) = ap (λ d. fold move d ys) (turns b x y) ∙ past_one (move b y) x ys

  swapped : (b : ℤ) (xs ys : List ℤ) → fold move (fold move b xs) ys ≡ fold move (fold move b ys) xs
  swapped b [] ys = refl
  swapped b (x ∷ xs) ys = swapped (move b x) xs ys ∙ ap (λ d. fold move d xs) (past_one b x ys)

  module _ (t g : ℕ) where
    -- What the rows come to, and what one note comes to.
    abbrev by_rows : List Note → List Row → List ℤ
    by_rows notes rows = flat_map (λ r. of_row (relation_of notes t g r) r) rows

    abbrev by_note : Note → List Row → List ℤ
    by_note n rows = of_effect (effect_among rows t g n)

    -- Nothing follows without notes.
    no_notes : (rows : List Row) → by_rows [] rows ≡ []
    no_notes [] = refl
    no_notes (r ∷ rs) = ap (λ xs. xs ++ by_rows [] rs) (unsaid r) ∙ no_notes rs

    -- One more note, which one row at most is of.
    one_more : (n : Note) (ns : List Note) (rows : List Row) → IsDistinct same_row (map row_key rows) → (b : ℤ)
        → fold move b (by_rows (n ∷ ns) rows) ≡ fold move (fold move b (by_note n rows)) (by_rows ns rows)
    one_more n ns [] d b = ap (λ xs. fold move b xs) (sym (ap of_effect (never (eqb (ground_of n.key) g)) ∙ idle))
      where
        never : (h : Bool) → cond {A = Option Effect} h None None ≡ None
        never true = refl
        never false = refl
    one_more n ns (r ∷ rs) d b =
        moved_append b (of_row (relation_of (n ∷ ns) t g r) r) (by_rows (n ∷ ns) rs)
        ∙ (one_more n ns rs (IsDistinct-tail same_row (row_key r) (map row_key rs) d) _
        ∙ (ap (λ e. fold move e (by_rows ns rs)) (go (eqb (ground_of n.key) g) (same_row (row_key r) k) refl refl)
        ∙ sym (moved_append _ (of_row q r) (by_rows ns rs))))
      where
        k : RowKey
        k = row_key_at (other_party n t) g

        q : Relation
        q = relation_of ns t g r

        go : (G S : Bool) → eqb (ground_of n.key) g ≡ G → same_row (row_key r) k ≡ S
            → fold move (fold move b (of_row (with_side (cond (G && S) (side_of n t) None) q) r)) (of_effect (cond G (effect_with n t (row_of rs k.transaction g)) None))
            ≡ fold move (fold move b (of_effect (cond G (effect_with n t (cond S (Some r) (row_of rs k.transaction g))) None))) (of_row q r)
        go false S e h = swapped b (of_row q r) (of_effect None)
        go true true e h =
            let apart = IsDistinct-head same_row (row_key r) (map row_key rs) d in
            let found = fold move b (of_row (with_side (side_of n t) q) r) in
            ap (λ o. fold move found (of_effect (effect_with n t o))) (none_after k r rs h apart)
            ∙ (ap (λ xs. fold move found xs) idle ∙ adds (side_of n t) q r b)
        go true false e h = swapped b (of_row q r) (of_effect (effect_with n t (row_of rs k.transaction g)))

    -- All notes.
    all_notes : (notes : List Note) (rows : List Row) → IsDistinct same_row (map row_key rows) → (b : ℤ)
        → fold move b (flat_map (λ n. by_note n rows) notes) ≡ fold move b (by_rows notes rows)
    all_notes [] rows d b = ap (λ xs. fold move b xs) (sym (no_notes rows))
    all_notes (n ∷ ns) rows d b =
        moved_append b (by_note n rows) (flat_map (λ n. by_note n rows) ns)
        ∙ (all_notes ns rows d _ ∙ sym (one_more n ns rows d b))

-- The two bounds move so.
raised_is : (l : ℤ) (xs : List ℤ) → fold raise l xs ≡ raised_above l xs
raised_is l [] = refl
raised_is l (x ∷ xs) = raised_is (raise l x) xs

lowered_is : (u : ℤ) (xs : List ℤ) → fold lower u xs ≡ lowered_below u xs
lowered_is u [] = refl
lowered_is u (x ∷ xs) = lowered_is (lower u x) xs

raise_turns : (b x y : ℤ) → raise (raise b x) y ≡ raise (raise b y) x
raise_turns b x y = omega (arith, ints, clamps)

lower_turns : (b x y : ℤ) → lower (lower b x) y ≡ lower (lower b y) x
lower_turns b x y = omega (arith, ints, clamps)

floor_adds : (s : Option Side) (q : Relation) (r : Row) (b : ℤ)
    → fold raise b (floors_by (with_side s q) r) ≡ fold raise (fold raise b (effect_floor (effect_said s r))) (floors_by q r)
floor_adds s q r b = grind (arith, ints, clamps)

ceiling_adds : (s : Option Side) (q : Relation) (r : Row) (b : ℤ)
    → fold lower b (ceilings_by (with_side s q) r) ≡ fold lower (fold lower b (effect_ceiling (effect_said s r))) (ceilings_by q r)
ceiling_adds s q r b = grind (arith, ints, clamps)

module _ (notes : List Note) (t g : ℕ) (rows : List Row) (d : IsDistinct same_row (map row_key rows)) where
  pub floors_same : (l : ℤ) → raised_above l (note_floors rows notes t g) ≡ raised_above l (floors_beside (relation_of notes t g) rows)
  floors_same l =
      sym (raised_is l (note_floors rows notes t g))
      ∙ (all_notes raise raise_turns effect_floor floors_by refl (λ r. grind arith) floor_adds t g notes rows d l
      ∙ raised_is l (floors_beside (relation_of notes t g) rows))

  pub ceilings_same : (u : ℤ) → lowered_below u (note_ceilings rows notes t g) ≡ lowered_below u (ceilings_beside (relation_of notes t g) rows)
  ceilings_same u =
      sym (lowered_is u (note_ceilings rows notes t g))
      ∙ (all_notes lower lower_turns effect_ceiling ceilings_by refl (λ r. grind arith) ceiling_adds t g notes rows d u
      ∙ lowered_is u (ceilings_beside (relation_of notes t g) rows))
