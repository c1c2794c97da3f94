-- Rows by their transaction and ground.
--   found_key                the row that is found has the key that was sought
--   same_or_not              two keys are the same, or not; own_or_other: so what holds of one and of every other holds of each
--   own_moved, other_moved   the row that was moved, and another
--   pushed_rows, added_row   after rows make way, and after one is added
use Rattle.std.proofs.Common.{◌≡◌, ℕ, Bool, true, false, cond, ◌&&◌, eqb, ◌⊎◌, List, ◌++◌, map, ℤ, Some, None, Option, sym, refl, ap, ◌∙◌, subst, inl, inr, ⊎_elim}
use Rattle.std.proofs.lemmas.Bool.{and_left, and_right, and_parts, cases_eq, ne_eqb, eqb-true}
use Rattle.std.specs.Option.{option_map, option_or}
use Rattle.lines.proofs.Rows.{moves_owner}
use Rattle.lines.specs.LineKeys.{row_key, row_key_at, same_row}
use Rattle.lines.specs.Locks.{row_of}
use Rattle.lines.specs.Rows.{new_row, moved_row}
use Rattle.lines.specs.declared.row.Event.{Event}
use Rattle.lines.specs.declared.row.Row.{Row}
use Rattle.protocol.specs.Model.{Model}
use Rattle.protocol.specs.Noting.{row_needed}
use Rattle.protocol.specs.Validation.{pushed, row_moved}
use Rattle.serial.proofs.Lines.Found.{find_append, find_map, find_replaced, find_other}
use Rattle.serial.proofs.Lines.Kept.{line_passes}

-- Two pairs of a transaction and a ground are the same or not.
pub same_or_not : (t g u j : ℕ) → ((u ≡ t) × (j ≡ g)) ⊎ ((eqb t u && eqb g j) ≡ false)
same_or_not t g u j =
    ⊎_elim
    (λ (e : t ≡ u). ⊎_elim
    (λ (d : g ≡ j). inl (sym e, sym d))
    (λ (d : g ≡ j → ⊥). inr (and_right (eqb t u) _ (ne_eqb g j d)))
    (cases_eq g j))
    (λ (e : t ≡ u → ⊥). inr (and_left (eqb t u) _ (ne_eqb t u e)))
    (cases_eq t u)

-- What holds of one such pair, and of every other, holds of each.
pub own_or_other : (Q : ℕ → ℕ → Type 0) (t g u j : ℕ) → Q t g → ((eqb t u && eqb g j) ≡ false → Q u j) → Q u j
own_or_other Q t g u j own other =
    ⊎_elim (λ (i : (u ≡ t) × (j ≡ g)). subst (λ b. Q u b) (sym i.1) (subst (λ b. Q b g) (sym i.0) own))
    (λ (n : (eqb t u && eqb g j) ≡ false). other n) (same_or_not t g u j)

-- A row of one key has no other.
other_key : (t g u j : ℕ) → (eqb t u && eqb g j) ≡ false → (r : Row) → same_row (row_key r) (row_key_at t g) ≡ true → same_row (row_key r) (row_key_at u j) ≡ false
other_key t g u j n r e =
    let p = and_parts (eqb r.transaction t) _ e in
    let a = eqb-true _ _ p.0 in
    let b = eqb-true _ _ p.1 in
    rw (a, b) n

module _ (rows : List Row) (t g : ℕ) (r : Row) (at : row_of rows t g ≡ Some r) where
  -- A row that was found has the key that was sought.
  pub found_key : same_row (row_key r) (row_key_at t g) ≡ true
  found_key = line_passes same_row row_key (row_key_at t g) rows r at

-- The own row after an event, and the rows of other keys.
module _ (rows : List Row) (t g : ℕ) (r : Row) (e : Event) where
  pub own_moved : (x : Row) → row_of rows t g ≡ Some x → same_row (row_key r) (row_key_at t g) ≡ true
      → row_of (row_moved t g r e rows) t g ≡ Some (moved_row r e).0
  own_moved x at k =
      find_replaced same_row row_key (row_key_at t g) (moved_row r e).0 x
      (ap (λ h. same_row h (row_key_at t g)) (moves_owner r r.state e) ∙ k) rows at

  pub other_moved : (u j : ℕ) → (eqb t u && eqb g j) ≡ false → same_row (row_key r) (row_key_at t g) ≡ true
      → row_of (row_moved t g r e rows) u j ≡ row_of rows u j
  other_moved u j n k =
      find_other same_row row_key (row_key_at u j) (row_key_at t g) (moved_row r e).0
      (other_key t g u j n (moved_row r e).0 (ap (λ h. same_row h (row_key_at t g)) (moves_owner r r.state e) ∙ k))
      (λ x s. other_key t g u j n x s) rows

-- Rows that make way keep their keys.
pub pushed_rows : (m : Model) (t g : ℕ) (range : ℤ × ℤ) (rows : List Row) (u j : ℕ)
    → row_of (map (pushed m t g range) rows) u j ≡ option_map (pushed m t g range) (row_of rows u j)
pushed_rows m t g range rows u j = find_map same_row row_key (row_key_at u j) (pushed m t g range) (λ x. refl) rows

-- The row that a call adds, where there was none.
pub added_row : (rows : List Row) (t g u j : ℕ) (r : Row) → row_of (rows ++ row_needed (row_of rows t g) t g) u j ≡ Some r
    → (row_of rows u j ≡ Some r) ⊎ ((u ≡ t) × (j ≡ g) × (r ≡ new_row t g) × (row_of rows t g ≡ None))
added_row rows t g u j r e = go (row_of rows t g) refl (sym (find_append same_row row_key (row_key_at u j) rows _) ∙ e)
  where
    Added : Type 0
    Added = (u ≡ t) × (j ≡ g) × (r ≡ new_row t g) × (row_of rows t g ≡ None)

    single : (b : Bool) → (eqb t u && eqb g j) ≡ b → row_of rows t g ≡ None → cond b (Some (new_row t g)) None ≡ Some r → Added
    single true s n d =
        let p = and_parts (eqb t u) _ s in
        (sym (eqb-true _ _ p.0), sym (eqb-true _ _ p.1), cc, n)
    single false s n d = absurd cc

    first_or : (o : Option Row) → row_of rows u j ≡ o → row_of rows t g ≡ None
        → option_or o (cond (eqb t u && eqb g j) (Some (new_row t g)) None) ≡ Some r → (row_of rows u j ≡ Some r) ⊎ Added
    first_or (Some x) s n d = inl (s ∙ d)
    first_or None s n d = inr (single (eqb t u && eqb g j) refl n d)

    nothing_new : (o : Option Row) → row_of rows u j ≡ o → option_or o None ≡ Some r → row_of rows u j ≡ Some r
    nothing_new (Some x) s d = s ∙ d
    nothing_new None s d = s ∙ d

    go : (o : Option Row) → row_of rows t g ≡ o → option_or (row_of rows u j) (row_of (row_needed o t g) u j) ≡ Some r
        → (row_of rows u j ≡ Some r) ⊎ Added
    go None s d = first_or (row_of rows u j) refl s d
    go (Some x) s d = inl (nothing_new (row_of rows u j) refl d)
