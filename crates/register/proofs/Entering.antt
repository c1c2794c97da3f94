-- The entries of those whose slot is another's.
--   own_entered    one more note is said by the entry of the one that it is of
--   third_entered  those of others say what they said
--   at_place, nowhere   what is read of them
use Rattle.std.proofs.Common.{◌≡◌, ℕ, ◌<◌, ◌≤◌, Bool, true, false, cond, eqb, List, [], ◌∷◌, ◌++◌, length, nat_lt, get_or, set, Some, None, Option, sym, refl, ap, ◌∙◌, subst, arith}
use Rattle.std.proofs.lemmas.Bool.{true≢false}
use Rattle.std.proofs.lemmas.Bool.Decides.{nat_tests}
use Rattle.std.proofs.lemmas.Grind.{common_steps}
use Rattle.std.proofs.lemmas.List.Folds.{find_at, find-set, find_past, find-append}
use Rattle.std.proofs.lemmas.List.Quantifiers.{position-Some}
use Rattle.std.proofs.lemmas.List.{set-get_or, length-set}
use Rattle.std.proofs.lemmas.Option.{slice_get_past}
use Rattle.std.specs.List.{position_or_len}
use Rattle.std.specs.Option.{option_or}
use Rattle.lines.specs.declared.note.Side.{Side}
use Rattle.register.specs.Relations.{unrelated, with_side}
use Rattle.register.specs.Slots.{empty_entry, place_of, entry_of, has_room, entry_with, entered_at, entered, IsSaidBy, IsEntered}
use Rattle.register.specs.declared.relation.Relation.{Relation}
use Rattle.register.specs.declared.slots.Entry.{Entry}

or_none : (o : Option Entry) → option_or o None ≡ o
or_none None = refl
or_none (Some e) = refl

module _ (es : List Entry) (u : ℕ) where
  abbrev is_entry : Entry → Bool
  is_entry e = eqb e.of u

  first_place : (i : ℕ) → place_of es u ≡ Some i → i ≡ position_or_len is_entry es
  first_place i f = grind (arith, common_steps)

  there : (i : ℕ) → place_of es u ≡ Some i → (i < length es) × (is_entry (get_or es i empty_entry) ≡ true)
  there i f = let w = position-Some is_entry es i empty_entry f in (w.0, w.1)

  found : (i : ℕ) → place_of es u ≡ Some i → entry_of es u ≡ Some (get_or es i empty_entry)
  found i f =
      let w = there i f in
      ap (λ es. entry_of es u) (sym (set-get_or es i empty_entry)) ∙ find-set is_entry es i (get_or es i empty_entry) (first_place i f) w.0 w.1

  absent : place_of es u ≡ None → entry_of es u ≡ None
  absent f = let l : length es ≤ position_or_len is_entry es = grind (arith, common_steps) in find_at is_entry es ∙ slice_get_past es _ l

  module _ (q : Relation) where
    pub at_place : (i : ℕ) → place_of es u ≡ Some i → IsEntered es u q → q ≡ (get_or es i empty_entry).relation
    at_place i f h = subst (λ o. IsSaidBy o (has_room es) q) (found i f) h

    pub nowhere : place_of es u ≡ None → IsEntered es u q → has_room es ≡ true → q ≡ unrelated
    nowhere f h = subst (λ o. IsSaidBy o (has_room es) q) (absent f) h

    module _ (side : Side) where
      pub own_entered : IsEntered es u q → IsEntered (entered es u side) u (with_side (Some side) q)
      own_entered h = at (place_of es u) refl
        where
          itself : eqb u u ≡ true
          itself = grind (arith, nat_tests)

          at : (o : Option ℕ) → place_of es u ≡ o → IsEntered (entered_at o es u side) u (with_side (Some side) q)
          at (Some i) f =
              let entry = entry_with (get_or es i empty_entry).relation u side in
              subst (λ o. IsSaidBy o (has_room (set es i entry)) (with_side (Some side) q))
              (sym (find-set is_entry es i entry (first_place i f) (there i f).0 itself)) (ap (with_side (Some side)) (at_place i f h))
          at None f = more (has_room es) refl
            where
              entry : Entry
              entry = entry_with unrelated u side

              more : (b : Bool) → has_room es ≡ b → IsEntered (cond b (es ++ entry ∷ []) es) u (with_side (Some side) q)
              more true e =
                  subst (λ o. IsSaidBy o (has_room (es ++ entry ∷ [])) (with_side (Some side) q))
                  (sym
                  (find-append is_entry es (entry ∷ [])
                  ∙ (ap (λ o. option_or o (entry_of (entry ∷ []) u)) (absent f) ∙ ap (λ b. cond b (Some entry) None) itself)))
                  (ap (with_side (Some side)) (nowhere f h e))
              more false e =
                  subst (λ o. IsSaidBy o (has_room es) (with_side (Some side) q)) (sym (absent f)) (λ some. absurd (true≢false (sym some ∙ e)))

      pub third_entered : (v : ℕ) → eqb u v ≡ false → IsEntered es v q → IsEntered (entered es u side) v q
      third_entered v other h = at (place_of es u) refl
        where
          at : (o : Option ℕ) → place_of es u ≡ o → IsEntered (entered_at o es u side) v q
          at (Some i) f =
              let entry = entry_with (get_or es i empty_entry).relation u side in
              let own = (there i f).1 in
              let fails : eqb (get_or es i empty_entry).of v ≡ false = grind (arith, nat_tests) in
              subst (λ o. IsSaidBy o (has_room (set es i entry)) q) (sym (find_past (λ e. eqb e.of v) es i entry empty_entry fails other))
              (subst (λ m. IsSaidBy (entry_of es v) (nat_lt m 64) q) (sym (length-set es i entry)) h)
          at None f = more (has_room es) refl
            where
              entry : Entry
              entry = entry_with unrelated u side

              -- There was room before too.
              before : (o : Option Entry) (b : Bool) → has_room es ≡ true → IsSaidBy o (has_room es) q → IsSaidBy o b q
              before (Some x) b some h = h
              before None b some h = λ _. h some

              more : (b : Bool) → has_room es ≡ b → IsEntered (cond b (es ++ entry ∷ []) es) v q
              more true some =
                  subst (λ o. IsSaidBy o (has_room (es ++ entry ∷ [])) q)
                  (sym
                  (find-append (λ e. eqb e.of v) es (entry ∷ [])
                  ∙ (ap (λ b. option_or (entry_of es v) (cond b (Some entry) None)) other ∙ or_none (entry_of es v))))
                  (before (entry_of es v) _ some h)
              more false some = h
