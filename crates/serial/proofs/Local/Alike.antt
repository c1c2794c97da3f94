-- Two registers that agree on a ground answer a validation there alike, and still agree.
use Rattle.std.proofs.Common.{◌≡◌, ℕ, Bool, true, false, cond, eqb, List, map, ℤ, Some, None, Ok, Err, Option, Result, sym, refl, ap, ap₂, ◌∙◌, subst, arith}
use Rattle.std.proofs.lemmas.Int.{ints}
use lib.Signed.{lt_z}
use Rattle.std.proofs.lemmas.Bool.{and_parts}
use Rattle.std.specs.Option.{ok_or}
use Rattle.std.specs.List.{AllByRecursion}
use Rattle.base.specs.Refusals.{refusal}
use Rattle.base.specs.declared.refusal.Refusal.{Refusal}
use Rattle.lines.proofs.Rows.{moves_owner}
use Rattle.lines.specs.LineKeys.{row_key, row_key_at, same_row}
use Rattle.lines.specs.Locks.{row_of}
use Rattle.lines.specs.Rows.{moved_row, IsBounded}
use Rattle.lines.specs.declared.row.Event.{Event}
use Rattle.lines.specs.declared.row.Event.TheVariants.{Pass, Fail}
use Rattle.lines.specs.declared.row.Row.{Row}
use Rattle.protocol.specs.Calls.{validate, validate_in, passed_with}
use Rattle.protocol.specs.Checks.{after_check, check_open, check_open_line, check_running}
use Rattle.protocol.specs.Model.{Model, Chooses, transaction_of, with_rows}
use Rattle.protocol.specs.Among.{raised_above, lowered_below}
use Rattle.protocol.specs.Validation.{befores, afters, pushed, row_moved, failed, passed}
use Rattle.serial.specs.Agreement.{rows_at, Agree, SamePolicy, Local}
use Rattle.serial.proofs.Lines.Kept.{kept_map, kept_replaced, line_passes}
use Rattle.serial.proofs.Lines.Found.{find_all}
use Rattle.serial.proofs.Outcomes.AtGrounds.{low_end, high_end, chosen_range}
use Rattle.serial.proofs.Outcomes.Checks.{here_some}
use Rattle.serial.proofs.Outcomes.StampRanges.{low_least, high_most}
use Rattle.serial.proofs.Local.ShortKeys.{HasShortKeys, short_keys}
use Rattle.serial.proofs.Local.Locality.{other_row, row_same, floors_same, ceilings_same, befores_same, afters_same, pushed_same, lowers_fit, uppers_fit}

-- Two outcomes with the same answer, in registers that agree.
abbrev Like : {B : Type 0} → ℕ → Model × Result B Refusal → Model × Result B Refusal → Type 0
Like g p q = (p.1 ≡ q.1) × Agree g p.0 q.0

-- A check of the same outcome goes on alike.
after_one : {A B : Type 0} (g : ℕ) (m n : Model) → Agree g m n → (x : Result A Refusal) (f h : A → Model × Result B Refusal)
    → ((y : A) → x ≡ Ok y → Like g (f y) (h y)) → Like g (after_check m x f) (after_check n x h)
after_one g m n a (Ok y) f h k = k y refl
after_one g m n a (Err e) f h k = (refl, a)

after_like : {A B : Type 0} (g : ℕ) (m n : Model) → Agree g m n → (x z : Result A Refusal) → x ≡ z
    → (f h : A → Model × Result B Refusal) → ((y : A) → x ≡ Ok y → Like g (f y) (h y)) → Like g (after_check m x f) (after_check n z h)
after_like {A} {B} g m n a x z e f h k =
    let P : Result A Refusal → Type 0 = λ w. Like g (after_check m x f) (after_check n w h) in
    subst P e (after_one g m n a x f h k)

module _ (g t : ℕ) (r : Row) (at : eqb r.ground g ≡ true) where
  -- The ground's rows after its own row was moved.
  moved_local : (e : Event) (rows : List Row) → rows_at g (row_moved t g r e rows) ≡ row_moved t g r e (rows_at g rows)
  moved_local e rows =
      kept_replaced (λ x. eqb x.ground g) same_row row_key (record { transaction = t; ground = g }) (other_row t g) (moved_row r e).0
      (ap (λ k. eqb k.ground g) (moves_owner r r.state e) ∙ at) rows

  module _ (m n : Model) (short : HasShortKeys g m) (a : Agree g m n) where
    with_same : (xs ys : List Row) → rows_at g xs ≡ rows_at g ys → Agree g (with_rows m xs) (with_rows n ys)
    with_same xs ys e = record { cells = a.cells; rows = e; reads = a.reads; writes = a.writes; notes = a.notes }

    failed_agree : Agree g (failed m t g r) (failed n t g r)
    failed_agree =
        with_same _ _ (moved_local Fail m.rows ∙ (ap (row_moved t g r Fail) a.rows ∙ sym (moved_local Fail n.rows)))

    passed_agree : (range : ℤ × ℤ) → Agree g (passed m t g r range) (passed n t g r range)
    passed_agree range =
        let e : Event = Pass range.0 range.1 in
        let local : (q : Model) → rows_at g (row_moved t g r e (map (pushed q t g range) q.rows))
        ≡ row_moved t g r e (map (pushed q t g range) (rows_at g q.rows)) =
        λ q. moved_local e (map (pushed q t g range) q.rows)
        ∙ ap (row_moved t g r e) (kept_map (λ x. eqb x.ground g) (pushed q t g range) (λ x. refl) q.rows) in
        with_same _ _ (local m ∙ (ap (λ xs. row_moved t g r e (map (pushed m t g range) xs)) a.rows
        ∙ (ap (λ f. row_moved t g r e (map f (rows_at g n.rows))) (pushed_same g m n short a t range) ∙ sym (local n))))

    module _ (P Q : Chooses) (same : SamePolicy P Q) (bounded : AllByRecursion IsBounded m.rows) (fits : IsBounded r) where
      -- Both policies choose the same range of what is left.
      range_same : lt_z (high_end m t g P r) (low_end m t g P r) ≡ false
          → chosen_range m t g P r ≡ Q (low_end m t g P r) (high_end m t g P r) (befores n t g) (afters n t g)
      range_same e =
          same (low_end m t g P r) (high_end m t g P r) (befores m t g) (afters m t g) (low_least m t g P r fits) (omega (arith, ints))
          (high_most m t g P r fits) (lowers_fit g m bounded t) (uppers_fit g m bounded t)
          ∙ ap₂ (λ bs cs. Q (low_end m t g P r) (high_end m t g P r) bs cs) (befores_same g m n short a t) (afters_same g m n short a t)

      -- So both rows fail, or both pass with that range.
      in_like : Like g (validate_in P m t g r (low_end m t g P r) (high_end m t g P r)) (validate_in Q n t g r (low_end m t g P r) (high_end m t g P r))
      in_like = go (lt_z (high_end m t g P r) (low_end m t g P r)) range_same
        where
          go : (b : Bool)
              → (b ≡ false → chosen_range m t g P r ≡ Q (low_end m t g P r) (high_end m t g P r) (befores n t g) (afters n t g))
              → Like g (cond b (failed m t g r, Ok None) (passed_with m t g r (chosen_range m t g P r)))
              (cond b (failed n t g r, Ok None) (passed_with n t g r (Q (low_end m t g P r) (high_end m t g P r) (befores n t g) (afters n t g))))
          go true e = (refl, failed_agree)
          go false e = rw (e refl) (refl, passed_agree (Q (low_end m t g P r) (high_end m t g P r) (befores n t g) (afters n t g)))

      found_like : Like g (validate_in P m t g r (low_end m t g P r) (high_end m t g P r)) (validate_in Q n t g r (low_end n t g Q r) (high_end n t g Q r))
      found_like =
          subst (λ fs. Like g (validate_in P m t g r (low_end m t g P r) (high_end m t g P r)) (validate_in Q n t g r (raised_above r.lower fs) (high_end n t g Q r)))
          (floors_same g m n short a t)
          (subst (λ cs. Like g (validate_in P m t g r (low_end m t g P r) (high_end m t g P r)) (validate_in Q n t g r (low_end m t g P r) (lowered_below r.upper cs)))
          (ceilings_same g m n short a t) in_like)

-- In registers that agree.
validate_like : (P : Chooses) (m : Model) → AllByRecursion IsBounded m.rows → (Q : Chooses) → SamePolicy P Q → (n : Model) (t g : ℕ)
    → HasShortKeys g m → Agree g m n → transaction_of m t ≡ transaction_of n t → Like g (validate P m t g) (validate Q n t g)
validate_like P m bounded Q same n t g short a line =
    after_like g m n a (check_open m t) (check_open n t) (ap check_open_line line) _ _ (λ _ _.
    after_like g m n a (ok_or (row_of m.rows t g) (refusal 6)) (ok_or (row_of n.rows t g) (refusal 6))
    (ap (λ (o : Option Row). ok_or o (refusal 6)) (row_same g m n short a t)) _ _ (λ r e.
    let here : row_of m.rows t g ≡ Some r = here_some (row_of m.rows t g) r e in
    let at = (and_parts (eqb r.transaction t) (eqb r.ground g) (line_passes same_row row_key (row_key_at t g) m.rows r here)).1 in
    let fits = find_all same_row row_key (row_key_at t g) IsBounded m.rows r bounded here in
    after_like g m n a (check_running r) (check_running r) refl _ _ (λ _ _. found_like g t r at m n short a P Q same bounded fits)))

-- So every validation is local.
pub local : Local
local P m bounded Q same n t g low a line =
    let like = validate_like P m bounded Q same n t g (short_keys g m low) a line in
    record { answer = like.0; agree = like.1 }
