-- What a decision says of each row of its transaction.
--   committed_within   the stamp of a commitment lies within every row, and no row is Aborted
--   not_running        where none of a transaction's rows is Running, the one that is found is not
use Rattle.std.proofs.Common.{◌≡◌, ℕ, min, Bool, true, false, cond, ◌&&◌, eqb, leb, List, map, ℤ, pos, negsuc, ◌≤ℤ◌, Some, None, Ok, Err, Option, Result}
use Rattle.std.proofs.Common.{refl, ap, ◌∙◌, arith}
use lib.Signed.{lt_z}
use Rattle.std.proofs.lemmas.Int.{ints}
use Rattle.std.proofs.ByRecursion.{folded_max_z_bounds, folded_min_z_bounds}
use Rattle.std.proofs.lemmas.Bool.{and_parts, leb-true, false≢true}
use Rattle.std.specs.List.{list_any}
use Rattle.base.specs.Stamps.{stamp, stamp_of_bound}
use Rattle.base.specs.declared.refusal.Refusal.{Refusal}
use Rattle.base.specs.declared.refusal.Refusal.TheVariants.{StillRunning}
use Rattle.base.specs.declared.stamp.Stamp.{Stamp}
use Rattle.lines.specs.LineKeys.{row_key, same_row, row_key_at}
use Rattle.lines.specs.Locks.{row_of}
use Rattle.lines.specs.declared.row.Row.{Row}
use Rattle.lines.specs.declared.transaction.Decision.TheVariants.{Committed, Aborted}
use Rattle.protocol.specs.Checks.{is_running, is_aborted, check_none_running}
use Rattle.protocol.specs.Decisions.{rows_of, largest_lower, smallest_upper, committed_at, decision_in, decision_of, decision_by}
use Rattle.protocol.specs.Model.{Model}
use Rattle.serial.proofs.Lines.Member.{In, in_map, in_kept, in_found, in_all, in_none}
use Rattle.serial.proofs.Lines.RowKeys.{found_key}

-- The stamp that a bound is has its number.
stamp_is : (z : ℤ) (c : Stamp) → stamp_of_bound z ≡ Some c → pos c.number ≡ z
stamp_is (pos n) c e = go (leb n 268435455) refl e
  where
    go : (b : Bool) → leb n 268435455 ≡ b → cond b (Some (stamp n)) None ≡ Some c → pos c.number ≡ pos n
    go true s d =
        let h = leb-true n 268435455 s in
        let i : c ≡ stamp n = cc in
        let f : min n 268435455 ≡ n = omega arith in
        ap (λ x. pos x.number) i ∙ ap pos f
    go false s d = absurd cc
stamp_is (negsuc n) c e = absurd cc

-- A commitment in a range is at its lower bound, and the range is not empty.
at_lower : (l u : ℤ) (c : Stamp) → decision_in l u ≡ Committed c → (pos c.number ≡ l) × (l ≤ℤ u)
at_lower l u c e = go (lt_z u l) refl e
  where
    of_stamp : (o : Option Stamp) → committed_at o ≡ Committed c → o ≡ Some c
    of_stamp None d = absurd cc
    of_stamp (Some x) d = cc

    go : (b : Bool) → lt_z u l ≡ b → cond b Aborted (committed_at (stamp_of_bound l)) ≡ Committed c → (pos c.number ≡ l) × (l ≤ℤ u)
    go true s d = absurd cc
    go false s d = (stamp_is l c (of_stamp (stamp_of_bound l) d), grind (arith, ints))

-- What a commitment says of each of the rows that it is taken of.
within_each : (rs : List Row) (c : Stamp) (r : Row) → decision_of rs ≡ Committed c → In r rs
    → (is_aborted r.state ≡ false) × (r.lower ≤ℤ pos c.number) × (pos c.number ≤ℤ r.upper)
within_each rs c r e i = go (list_any (λ x. is_aborted x.state) rs) refl e
  where
    low : r.lower ≤ℤ largest_lower rs
    low =
        in_all (λ x. x ≤ℤ largest_lower rs) r.lower (map (λ x. x.lower) rs)
        (folded_max_z_bounds (pos 0) (map (λ x. x.lower) rs) (largest_lower rs) refl).1 (in_map (λ x. x.lower) r rs i)

    high : smallest_upper rs ≤ℤ r.upper
    high =
        in_all (λ x. smallest_upper rs ≤ℤ x) r.upper (map (λ x. x.upper) rs)
        (folded_min_z_bounds (pos 268435455) (map (λ x. x.upper) rs) (smallest_upper rs) refl).1 (in_map (λ x. x.upper) r rs i)

    go : (b : Bool) → list_any (λ x. is_aborted x.state) rs ≡ b
        → cond b Aborted (decision_in (largest_lower rs) (smallest_upper rs)) ≡ Committed c
        → (is_aborted r.state ≡ false) × (r.lower ≤ℤ pos c.number) × (pos c.number ≤ℤ r.upper)
    go true s d = absurd cc
    go false s d =
        let p = at_lower (largest_lower rs) (smallest_upper rs) c d in
        let a = p.0 in
        let b = p.1 in
        let f = low in
        let h = high in
        (in_none (λ x. is_aborted x.state) r rs s i, omega (arith, ints), omega (arith, ints))

module _ (m : Model) (t g : ℕ) where
  -- A row that was found is the transaction's.
  own : (r : Row) → row_of m.rows t g ≡ Some r → eqb r.transaction t ≡ true
  own r at = (and_parts (eqb r.transaction t) _ (found_key m.rows t g r at)).0

  -- What a decision to commit at c says of each row of the transaction.
  pub committed_within : (c : Stamp) (r : Row) → decision_by m t ≡ Committed c → row_of m.rows t g ≡ Some r
      → (is_aborted r.state ≡ false) × (r.lower ≤ℤ pos c.number) × (pos c.number ≤ℤ r.upper)
  committed_within c r e at =
      within_each (rows_of m t) c r e
      (in_kept (λ x. eqb x.transaction t) r m.rows (own r at) (in_found same_row row_key (row_key_at t g) m.rows r at))

  -- None of its rows is running.
  pub not_running : (r : Row) → check_none_running m t ≡ Ok tt → row_of m.rows t g ≡ Some r → is_running r.state ≡ false
  not_running r e at = go (list_any (λ x. eqb x.transaction t && is_running x.state) m.rows) refl e
    where
      fails : (b : Bool) → b ≡ true → (b && is_running r.state) ≡ false → is_running r.state ≡ false
      fails true s f = f
      fails false s f = absurd (false≢true s)

      go : (b : Bool) → list_any (λ x. eqb x.transaction t && is_running x.state) m.rows ≡ b
          → ◌≡◌ {A = Result Unit Refusal} (cond b (Err StillRunning) (Ok tt)) (Ok tt) → is_running r.state ≡ false
      go true s d = absurd cc
      go false s d =
          fails (eqb r.transaction t) (own r at)
          (in_none (λ x. eqb x.transaction t && is_running x.state) r m.rows s
          (in_found same_row row_key (row_key_at t g) m.rows r at))
