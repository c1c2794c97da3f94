-- Rows that make way for a validation show the fates they showed.
--   pushed_fates   what is said of the fates goes by such rows, if it went by them before
use Rattle.std.proofs.Common.{◌≡◌, ℕ, Bool, true, false, cond, ◌&&◌, eqb, List, [], ◌∷◌, map, ℤ, Some, None, Option, sym, refl, ap, ◌∙◌, subst}
use Rattle.std.proofs.Common.{option_and_then, arith}
use Rattle.std.proofs.lemmas.Bool.{and_left, and_right, and_parts, eqb-true, or_from}
use Rattle.std.specs.Option.{option_map}
use Rattle.std.specs.List.{list_any}
use Rattle.base.specs.Keys.{ground_of}
use Rattle.lines.specs.Locks.{row_of}
use Rattle.lines.specs.Notes.{side_of, effect_by}
use Rattle.lines.specs.declared.note.Effect.{Effect}
use Rattle.lines.specs.declared.note.Note.{Note}
use Rattle.lines.specs.declared.note.Side.{Side}
use Rattle.lines.specs.declared.row.Row.{Row}
use Rattle.lines.specs.declared.row.State.{State}
use Rattle.lines.specs.declared.row.State.TheVariants as state
use Rattle.protocol.specs.Model.{Model}
use Rattle.protocol.specs.Among.{is_after, is_before, effect_with, other_party}
use Rattle.protocol.specs.Validation.{joins, note_effect, pushed}
use Rattle.serial.proofs.Ledger.Fates.{Fate}
use Rattle.serial.proofs.Ledger.Linked.{fate_by, row_fate}
use Rattle.serial.proofs.Lines.RowKeys.{found_key, pushed_rows}
use Rattle.serial.proofs.Lines.ByKey.{by_test}
use Rattle.serial.proofs.Ledger.LinkedRows.{Shown}

-- A note puts no row in this state on either list.
abbrev Idle : State → Type 0
Idle s = (side : Side) (r : Row) → (is_after (effect_by side s r) ≡ false) × (is_before (effect_by side s r) ≡ false)

-- Such are Validated and Committed.
idle_validated : Idle state.Validated
idle_validated side r = (grind arith, grind arith)

idle_committed : Idle state.Committed
idle_committed side r = (grind arith, grind arith)

-- What such a row means to a note, at whichever ground the note is.
idle_noted : (on : Option Effect → Bool) (b : Bool) (n : Note) (t : ℕ) (x : Row) → on None ≡ false
    → ((side : Side) → on (effect_by side x.state x) ≡ false) → on (cond b (effect_with n t (Some x)) None) ≡ false
idle_noted on true n t x none idle = by_side (side_of n t)
  where
    by_side : (side : Option Side) → on (option_and_then (λ s. effect_by s x.state x) side) ≡ false
    by_side None = none
    by_side (Some side) = idle side
idle_noted on false n t x none idle = none

-- A test that no line passes.
any_never : {X : Type 0} (p : X → Bool) → ((x : X) → p x ≡ false) → (xs : List X) → list_any p xs ≡ false
any_never p e [] = refl
any_never p e (x ∷ xs) = or_from (p x) _ (e x) (any_never p e xs)

module _ (m : Model) (t g : ℕ) where
  -- A row in such a state joins no list.
  idle_unjoined : (on : Option Effect → Bool) → on None ≡ false → (x : Row) → row_of m.rows x.transaction x.ground ≡ Some x
      → ((side : Side) → on (effect_by side x.state x) ≡ false) → joins on m t g x ≡ false
  idle_unjoined on none x at idle = go (eqb x.ground g) refl
    where
      noted : eqb x.ground g ≡ true → (n : Note) → (on (note_effect m t g n) && eqb (other_party n t) x.transaction) ≡ false
      noted e n =
          by_test (λ b. (on (note_effect m t g n) && b) ≡ false) (eqb (other_party n t) x.transaction)
          (λ d.
          let found : row_of m.rows (other_party n t) g ≡ Some x =
          ap (λ v. row_of m.rows v g) (eqb-true _ _ d) ∙ (ap (row_of m.rows x.transaction) (sym (eqb-true _ _ e)) ∙ at) in
          and_left (on (note_effect m t g n)) true
          (rw found (idle_noted on (eqb (ground_of n.key) g) n t x none idle)))
          (λ _. and_right (on (note_effect m t g n)) false refl)

      go : (b : Bool) → eqb x.ground g ≡ b
          → (b && list_any (λ n. on (note_effect m t g n) && eqb (other_party n t) x.transaction) m.notes) ≡ false
      go true e = any_never _ (noted e) m.notes
      go false e = refl

  -- A row that makes way shows the fate it showed: only a Running one does, and that shows no bounds.
  pushed_fate : (range : ℤ × ℤ) (x : Row) → row_of m.rows x.transaction x.ground ≡ Some x
      → row_fate (Some (pushed m t g range x)) ≡ row_fate (Some x)
  pushed_fate range x at = go x.state refl
    where
      kept : (s : State) → x.state ≡ s → Idle s
          → fate_by s (pushed m t g range x).lower (pushed m t g range x).upper ≡ fate_by s x.lower x.upper
      kept s e idle =
          let still : Idle x.state = subst Idle (sym e) idle in
          let a = idle_unjoined is_after refl x at (λ side. (still side x).0) in
          let b = idle_unjoined is_before refl x at (λ side. (still side x).1) in
          rw (a, b) refl

      go : (s : State) → x.state ≡ s
          → fate_by s (pushed m t g range x).lower (pushed m t g range x).upper ≡ fate_by s x.lower x.upper
      go state.Running e = refl
      go state.Validated e = kept state.Validated e idle_validated
      go state.Committed e = kept state.Committed e idle_committed
      go state.Aborted e = refl

  -- So all fates go by the rows as they went.
  pub pushed_fates : (f : ℕ → ℕ → Fate) (range : ℤ × ℤ) → Shown f m.rows → Shown f (map (pushed m t g range) m.rows)
  pushed_fates f range shown u j = shown u j ∙ (go (row_of m.rows u j) refl ∙ ap row_fate (sym (pushed_rows m t g range m.rows u j)))
    where
      go : (o : Option Row) → row_of m.rows u j ≡ o → row_fate o ≡ row_fate (option_map (pushed m t g range) o)
      go None e = refl
      go (Some x) e =
          let p = and_parts (eqb x.transaction u) _ (found_key m.rows u j x e) in
          sym (pushed_fate range x (ap (λ v. row_of m.rows v x.ground) (eqb-true _ _ p.0)
          ∙ (ap (row_of m.rows u) (eqb-true _ _ p.1) ∙ e)))
