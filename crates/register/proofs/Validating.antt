-- A validation, once its checks have passed: what it leaves and answers.
--   begun                            a check that also answers a place
--   meets_event                      a Running row passes, or fails
--   taken_same                       row by row the same is taken as note by note
--   validate_is                      what a validation comes to
--   with_rows_is                     a register with other rows in a book of the same room
use Rattle.std.proofs.Common.{◌≡◌, ℕ, Bool, true, false, cond, List, map, ℤ, Some, None, Ok, Option, Result, sym, refl, ap, ap₂, ◌∙◌, arith}
use Rattle.std.specs.Prelude.{int_lt}
use Rattle.std.specs.List.{IsDistinct}
use Rattle.base.specs.declared.refusal.Refusal.{Refusal}
use Rattle.lines.specs.LineKeys.{row_key, same_row}
use Rattle.lines.specs.Locks.{row_of}
use Rattle.lines.specs.Rows.{moved_row}
use Rattle.lines.specs.declared.row.Event.TheVariants.{Pass}
use Rattle.lines.specs.declared.row.Row.{Row}
use Rattle.protocol.specs.Calls.{validate, passed_with}
use Rattle.protocol.specs.Checks.{check_alone, check_open, check_running}
use Rattle.protocol.specs.Model.{Model, Chooses, with_rows}
use Rattle.protocol.specs.Among.{raised_above, lowered_below, note_floors}
use Rattle.protocol.specs.Validation.{floors, ceilings, befores, afters, failed, row_moved}
use Rattle.register.specs.Relations.{relation_of, befores_beside, afters_beside, choice, choice_beside, rows_beside, event_of}
use Rattle.register.specs.declared.relation.Relation.{Relation}
use Rattle.register.proofs.Bounding.{floors_same, ceilings_same}
use Rattle.register.proofs.Joining.{befores_same, afters_same, pushed_same}

-- A check that passed is passed by what it answers too.
pub begun : {A : Type 0} (r : Result A Refusal) (c : Result Unit Refusal) (x : A) → check_alone r ≡ c → r ≡ Ok x → c ≡ Ok tt
begun r c x e f = sym e ∙ ap check_alone f

-- A Running row passes, or fails.
pub meets_event : (r : Row) (y : Unit) (o : Option (ℤ × ℤ)) → check_running r ≡ Ok y → (moved_row r (event_of o)).1 ≡ Ok tt
meets_event r y None e = grind arith
meets_event r y (Some range) e = grind arith

module _ (P : Chooses) (m : Model) (t g : ℕ) (d : IsDistinct same_row (map row_key m.rows)) where
  abbrev q : Row → Relation
  q = relation_of m.notes t g

  -- The range that is taken is the one that the definitions take.
  pub taken_same : (l u : ℤ)
      → choice_beside q P l u m.rows
      ≡ choice P (raised_above l (note_floors m.rows m.notes t g)) (lowered_below u (ceilings m t g)) (befores m t g) (afters m t g)
  taken_same l u =
      ap₂ (λ l u. choice P l u (befores_beside q m.rows) (afters_beside q m.rows))
      (sym (floors_same m.notes t g m.rows d l)) (sym (ceilings_same m.notes t g m.rows d u))
      ∙ ap₂ (choice P (raised_above l (note_floors m.rows m.notes t g)) (lowered_below u (ceilings m t g)))
      (sym (befores_same m.rows t g m.notes d)) (sym (afters_same m.rows t g m.notes d))

  -- What the register is after a validation that took this, and what the validation answers.
  pub validate_is : (r : Row) (y : Unit) → check_open m t ≡ Ok tt → row_of m.rows t g ≡ Some r → check_running r ≡ Ok y
      → (l u : ℤ) → l ≡ raised_above r.lower (floors m t g) → u ≡ lowered_below r.upper (ceilings m t g)
      → (o : Option (ℤ × ℤ)) → o ≡ choice P l u (befores m t g) (afters m t g)
      → (with_rows m (row_moved t g r (event_of o) (rows_beside q o m.rows)), Ok o) ≡ validate P m t g
  validate_is r y open_now at run l u low high o is =
      go (int_lt u l) refl ∙ sym (rw (open_now, at, run, sym low, sym high) refl)
    where
      range : ℤ × ℤ
      range = P l u (befores m t g) (afters m t g)

      go : (b : Bool) → int_lt u l ≡ b
          → (with_rows m (row_moved t g r (event_of o) (rows_beside q o m.rows)), Ok o) ≡ cond b (failed m t g r, Ok None) (passed_with m t g r range)
      go true e = ap (λ o. (with_rows m (row_moved t g r (event_of o) (rows_beside q o m.rows)), Ok o)) (is ∙ ap (λ b. cond b None (Some range)) e)
      go false e =
          ap (λ o. (with_rows m (row_moved t g r (event_of o) (rows_beside q o m.rows)), Ok o)) (is ∙ ap (λ b. cond b None (Some range)) e)
          ∙ ap (λ rs. (with_rows m (row_moved t g r (Pass range.0 range.1) rs), Ok (Some range))) (sym (pushed_same m.rows t g m.notes d range))

pub with_rows_is : (m : Model) (rs xs : List Row) (n : ℕ) → rs ≡ xs → n ≡ m.rooms.rows
    → record m { rows = rs; rooms = record m.rooms { rows = n } } ≡ with_rows m xs
with_rows_is m rs xs n e d = rw (e, d) refl
