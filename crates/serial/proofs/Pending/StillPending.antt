-- What leaves every live row pending, by how an entry of the ledger and the rows change together.
--   same_rows            the rows stay
--   new_row_pending      a call adds the row that it needs
--   moved_pending        a row was moved by an event
--   pushed_live          rows make way
--   still, refused_not   what is pending stays so, where nothing is finished; a refused call finishes nothing
--   elsewhere_not        a finish at another key is none here
use Rattle.protocol.specs.Replies.{Response}
use Rattle.std.proofs.Common.{◌≡◌, ℕ, Bool, true, false, ◌&&◌, eqb, List, ◌∷◌, ◌++◌, map, ℤ, Some, None, Option, sym, refl, ap, ◌∙◌, ⊎_elim, Err}
use Rattle.std.proofs.lemmas.Bool.{and_right, and_from, not_from_false, or_left, or_right, true≢false}
use Rattle.std.specs.Option.{option_map}
use Rattle.base.specs.declared.refusal.Refusal.{Refusal}
use Rattle.lines.specs.LineKeys.{row_key, same_row, row_key_at}
use Rattle.lines.specs.Locks.{row_of, is_live}
use Rattle.lines.specs.Rows.{new_row, moved_row}
use Rattle.lines.specs.declared.row.Event.{Event}
use Rattle.lines.specs.declared.row.Row.{Row}
use Rattle.protocol.specs.Model.{Model}
use Rattle.protocol.specs.Noting.{row_needed}
use Rattle.protocol.specs.Validation.{pushed, row_moved}
use Rattle.protocol.specs.declared.call.Call.{Call}
use Rattle.protocol.specs.declared.call.Call.TheVariants as call
use Rattle.serial.specs.Ledger.{History, is_touch, is_touched, is_finish, is_pending}
use Rattle.serial.proofs.Invariant.{LivePending}
use Rattle.serial.proofs.Lines.RowKeys.{own_moved, other_moved, pushed_rows, added_row, same_or_not}

-- What an entry that finishes nothing leaves pending stays so.
pub still : (c : Call) (a : Response) (h : History) (u j : ℕ) → is_finish u j c a ≡ false → is_pending h u j ≡ true → is_pending ((c, a) ∷ h) u j ≡ true
still c a h u j f p = and_from _ _ (not_from_false _ f) (or_left (is_pending h u j) _ p)

-- What an entry is the first to touch, and does not finish, is pending.
touched : (c : Call) (a : Response) (h : History) (u j : ℕ) → is_finish u j c a ≡ false → is_touch u j c a ≡ true → is_touched h u j ≡ false
    → is_pending ((c, a) ∷ h) u j ≡ true
touched c a h u j f p n =
    and_from _ _ (not_from_false _ f)
    (or_right (is_pending h u j) _ (and_from (is_touch u j c a) _ p (not_from_false (is_touched h u j) n)))

-- A refused call finishes nothing.
pub refused_not : (c : Call) (e : Refusal) (u j : ℕ) → is_finish u j c (Err e) ≡ false
refused_not (call.Begin t) e u j = refl
refused_not (call.Read t k) e u j = refl
refused_not (call.Prewrite t k v) e u j = refl
refused_not (call.Validate t g) e u j = and_right (eqb t u) _ (and_right (eqb g j) _ refl)
refused_not (call.Decide t) e u j = refl
refused_not (call.Withdraw t) e u j = refl
refused_not (call.Settle t g) e u j = and_right (eqb t u) _ (and_right (eqb g j) _ refl)

-- Where rows stay and nothing is finished, all stays.
pub same_rows : (c : Call) (a : Response) (rows : List Row) (h : History) → ((u j : ℕ) → is_finish u j c a ≡ false) → LivePending rows h
    → LivePending rows ((c, a) ∷ h)
same_rows c a rows h f p u j r e l = still c a h u j (f u j) (p u j r e l)

-- A new row is pending by the call that needed it.
pub new_row_pending : (c : Call) (a : Response) (rows : List Row) (h : History) (t g : ℕ) → ((u j : ℕ) → is_finish u j c a ≡ false)
    → is_touch t g c a ≡ true → (row_of rows t g ≡ None → is_touched h t g ≡ false) → LivePending rows h → LivePending (rows ++ row_needed (row_of rows t g) t g) ((c, a) ∷ h)
new_row_pending c a rows h t g f s first p u j r e l =
    ⊎_elim
    (λ (q : row_of rows u j ≡ Some r). still c a h u j (f u j) (p u j r q l))
    (λ (q : (u ≡ t) × (j ≡ g) × (r ≡ new_row t g) × (row_of rows t g ≡ None)). rw (q.0, q.1) (touched c a h t g (f t g) s (first q.3)))
    (added_row rows t g u j r e)

-- A row that was moved: its own is pending or not live any more, and the others are as before.
pub moved_pending : (c : Call) (a : Response) (rows : List Row) (h : History) (t g : ℕ) (x r : Row) (e : Event)
    → row_of rows t g ≡ Some x → same_row (row_key r) (row_key_at t g) ≡ true
    → ((u j : ℕ) → (eqb t u && eqb g j) ≡ false → is_finish u j c a ≡ false)
    → (is_live (moved_row r e).0.state ≡ true → is_pending ((c, a) ∷ h) t g ≡ true)
    → LivePending rows h → LivePending (row_moved t g r e rows) ((c, a) ∷ h)
moved_pending c a rows h t g x r e at k f own p u j y q l =
    ⊎_elim
    (λ (s : (u ≡ t) × (j ≡ g)).
    let found : Some (moved_row r e).0 ≡ Some y =
    sym (own_moved rows t g r e x at k) ∙ (ap (λ v. row_of (row_moved t g r e rows) v g) (sym s.0)
    ∙ (ap (λ i. row_of (row_moved t g r e rows) u i) (sym s.1) ∙ q)) in
    let is : y ≡ (moved_row r e).0 = cc in
    rw (s.0, s.1) (own (ap (λ z. is_live z.state) (sym is) ∙ l)))
    (λ (s : (eqb t u && eqb g j) ≡ false). still c a h u j (f u j s) (p u j y (sym (other_moved rows t g r e u j s k) ∙ q) l))
    (same_or_not t g u j)

-- A finish at another key is none here.
pub elsewhere_not : (t g u j : ℕ) (b : Bool) → (eqb t u && eqb g j) ≡ false → (eqb t u && (eqb g j && b)) ≡ false
elsewhere_not t g u j b e = go (eqb t u) (eqb g j) e
  where
    go : (x y : Bool) → (x && y) ≡ false → (x && (y && b)) ≡ false
    go true true s = absurd (true≢false s)
    go true false s = refl
    go false y s = refl

-- Rows that make way are as live as they were.
pub pushed_live : (m : Model) (t g : ℕ) (range : ℤ × ℤ) (h : History) → LivePending m.rows h
    → LivePending (map (pushed m t g range) m.rows) h
pushed_live m t g range h p u j y q l =
    go (row_of m.rows u j) refl (sym (pushed_rows m t g range m.rows u j) ∙ q)
  where
    go : (o : Option Row) → row_of m.rows u j ≡ o → option_map (pushed m t g range) o ≡ Some y → is_pending h u j ≡ true
    go None s d = absurd cc
    go (Some x) s d =
        let i : y ≡ pushed m t g range x = cc in
        p u j x s (ap (λ z. is_live z.state) (sym i) ∙ l)
