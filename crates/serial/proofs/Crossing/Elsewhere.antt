-- A settlement at one ground leaves every other ground, and every transaction line.
--   settled_elsewhere   the registers before and after it agree on every other ground
use Rattle.std.proofs.Common.{◌≡◌, ℕ, Bool, true, false, cond, eqb, List, [], ◌∷◌, Some, filter, sym, refl, ap, ◌∙◌, subst}
use Rattle.std.proofs.lemmas.Bool.{and_parts, eqb-true}
use Rattle.base.specs.Keys.{ground_of}
use Rattle.lines.proofs.Rows.{moves_owner}
use Rattle.lines.specs.LineKeys.{row_key, same_row, row_key_at}
use Rattle.lines.specs.Locks.{row_of}
use Rattle.lines.specs.Rows.{moved_row}
use Rattle.lines.specs.declared.row.Event.{Event}
use Rattle.lines.specs.declared.row.Event.TheVariants.{Pass, Fail, Abort, Commit}
use Rattle.lines.specs.declared.row.Row.{Row}
use Rattle.protocol.specs.Calls.{settle}
use Rattle.protocol.specs.Decisions.{cells_after}
use Rattle.protocol.specs.Model.{Model, transaction_of, with_line}
use Rattle.protocol.specs.Validation.{row_moved}
use Rattle.serial.specs.Agreement.{rows_at, Agree}
use Rattle.serial.proofs.Outcomes.AtGrounds.{settle_cases}
use Rattle.serial.proofs.Lines.RowKeys.{found_key}
use Rattle.serial.proofs.Lines.ByKey.{eqb_turned}

-- What one line's change leaves of the lines that pass a test, where no line of that key passes.
kept_past : {X K : Type 0} (p : X → Bool) (same : K → K → Bool) (f : X → K) (k : K) (x : X) → p x ≡ false
    → ((y : X) → same (f y) k ≡ true → p y ≡ false) → (xs : List X) → filter p xs ≡ filter p (with_line same f k x xs)
kept_past p same f k x e n [] = refl
kept_past p same f k x e n (y ∷ ys) = go (same (f y) k) refl (kept_past p same f k x e n ys)
  where
    go : (b : Bool) → same (f y) k ≡ b → filter p ys ≡ filter p (with_line same f k x ys)
        → filter p (y ∷ ys) ≡ filter p (cond b (x ∷ ys) (y ∷ with_line same f k x ys))
    go true q later = rw (e, n y q) refl
    go false q later = ap (λ zs. cond (p y) (y ∷ zs) zs) later

-- A settlement at one ground leaves every other ground.
pub settled_elsewhere : (m : Model) (t j g : ℕ) → eqb j g ≡ false
    → Agree g m (settle m t j).0 × ((u : ℕ) → transaction_of m u ≡ transaction_of (settle m t j).0 u)
settled_elsewhere m t j g other =
    settle_cases m t j (λ o. Agree g m o.0 × ((u : ℕ) → transaction_of m u ≡ transaction_of o.0 u))
    (λ _. (record { cells = λ _ _ _. refl; rows = refl; reads = refl; writes = refl; notes = refl }, λ _. refl))
    (λ e r _ at _. (record { cells = λ k _ i. cells e k i; rows = rows e r at; reads = refl; writes = refl; notes = refl }, λ _. refl))
  where
    not_here : (k : ℕ) → k ≡ j → eqb k g ≡ false
    not_here k i = subst (λ a. eqb a g ≡ false) (sym i) other

    here_not : (k : ℕ) → ground_of k ≡ g → eqb (ground_of k) j ≡ false
    here_not k i = eqb_turned j (ground_of k) (subst (λ a. eqb j a ≡ false) (sym i) other)

    cells : (e : Event) (k : ℕ) → ground_of k ≡ g → m.cells k ≡ cells_after m t j e k
    cells (Pass l u) k i = refl
    cells Fail k i = refl
    cells Abort k i = refl
    cells (Commit c) k i = rw (here_not k i) refl

    rows : (e : Event) (r : Row) → row_of m.rows t j ≡ Some r → rows_at g m.rows ≡ rows_at g (row_moved t j r e m.rows)
    rows e r at =
        kept_past (λ x. eqb x.ground g) same_row row_key (row_key_at t j) (moved_row r e).0
        (not_here (moved_row r e).0.ground
        (ap (λ k. k.ground) (moves_owner r r.state e) ∙ eqb-true _ _ (and_parts (eqb r.transaction t) _ (found_key m.rows t j r at)).1))
        (λ y i. not_here y.ground (eqb-true _ _ (and_parts (eqb y.transaction t) _ i).1)) m.rows
