-- Every row's bounds are within their limits.
--   bounded_step   after a call, if they were before it
use Rattle.std.proofs.Common.{◌≡◌, ℕ, Bool, true, false, cond, List, map, ℤ, pos, Some, None, Option, arith}
use Rattle.std.proofs.ByRecursion.{All-append, All-map, All-weaker}
use Rattle.std.proofs.lemmas.Int.{ints, clamps}
use Rattle.std.specs.List.{AllByRecursion}
use Rattle.base.specs.Keys.{ground_of}
use Rattle.base.specs.declared.stamp.TheConstants.{TOP}
use Rattle.lines.specs.LineKeys.{row_key, row_key_at, same_row}
use Rattle.lines.specs.Locks.{row_of}
use Rattle.lines.specs.Rows.{moved_row_in, moved_row, IsWithinLimits, IsBounded, FitsEvent}
use Rattle.lines.specs.declared.row.Event.{Event}
use Rattle.lines.specs.declared.row.Event.TheVariants.{Pass, Fail, Abort, Commit}
use Rattle.lines.specs.declared.row.Row.{Row}
use Rattle.lines.specs.declared.row.State.{State}
use Rattle.lines.specs.declared.row.State.TheVariants.{Running, Validated, Committed, Aborted}
use Rattle.policy.specs.Ranges.{Meaning, Within}
use Rattle.protocol.specs.Among.{is_before, is_after, pushed_by, raise, lower}
use Rattle.protocol.specs.Calls.{step}
use Rattle.protocol.specs.Model.{Model, Chooses, transaction_of}
use Rattle.protocol.specs.Noting.{row_needed}
use Rattle.protocol.specs.Validation.{joins, pushed, row_moved}
use Rattle.protocol.specs.declared.call.Call.{Call}
use Rattle.protocol.specs.declared.call.Call.TheVariants as call
use Rattle.serial.specs.Agreement.{IsLower, IsUpper}
use Rattle.serial.proofs.Lines.Found.{find_all, all_replaced}
use Rattle.serial.proofs.Outcomes.Accesses.{read_cases, prewrite_cases}
use Rattle.serial.proofs.Outcomes.AtGrounds.{chosen_range, validate_cases, settle_cases}
use Rattle.serial.proofs.Outcomes.Checks.{Outcome}
use Rattle.serial.proofs.Outcomes.StampRanges.{range_fits}
use Rattle.serial.proofs.Outcomes.Transactions.{begin_cases, decide_cases, withdraw_cases}
use Rattle.serial.proofs.Pending.DeadRows.{Settling, settling}

-- Two stamps are within the limits of bounds.
stamps_fit : (r : ℤ × ℤ) → Within (pos 0) (pos TOP) r → IsWithinLimits r.0 r.1
stamps_fit r w =
    let least = w.0 in
    let order = w.1 in
    let most = w.2 in
    record {
      lower_least = w.0;
      lower_most = omega (arith, ints);
      upper_least = omega (arith, ints);
      upper_most = w.2;
    }

-- So are the bounds of a row that moves.
moved_fits : (r : Row) (s : State) (e : Event) → IsBounded r → FitsEvent e → IsBounded (moved_row_in r s e).0
moved_fits r s (Pass l u) b f = grind arith
moved_fits r s Fail b f = grind arith
moved_fits r s Abort b f = grind arith
moved_fits r s (Commit c) b f = committed s
  where
    fits : IsWithinLimits (pos c.number) (pos c.number)
    fits =
        let most = c.within in
        stamps_fit (pos c.number, pos c.number) (omega (arith, ints), omega (arith, ints), omega (arith, ints))

    committed : (q : State) → IsBounded (moved_row_in r q (Commit c)).0
    committed Running = b
    committed Validated = fits
    committed Committed = b
    committed Aborted = b

-- And those of a row that makes way for a range of stamps.
pushed_fits : (before after : Bool) (range : ℤ × ℤ) → Within (pos 0) (pos TOP) range → (r : Row) → IsBounded r
    → IsBounded (pushed_by before after range r)
pushed_fits before after range w r b = record {
  lower_least = (raised after).0;
  lower_most = (raised after).1;
  upper_least = (lowered before).0;
  upper_most = (lowered before).1;
}
  where
    raised : (x : Bool) → IsLower (cond x (raise r.lower range.1) r.lower)
    raised true =
        let least = b.lower_least in
        let most = b.lower_most in
        let top = w.2 in
        (omega (arith, ints, clamps), omega (arith, ints, clamps))
    raised false = (b.lower_least, b.lower_most)

    lowered : (x : Bool) → IsUpper (cond x (lower r.upper range.0) r.upper)
    lowered true =
        let least = b.upper_least in
        let most = b.upper_most in
        let bottom = w.0 in
        (omega (arith, ints, clamps), omega (arith, ints, clamps))
    lowered false = (b.upper_least, b.upper_most)

module _ (P : Chooses) (means : Meaning P) (m : Model) (bounded : AllByRecursion IsBounded m.rows) where
  -- What is to hold of the register after a call.
  abbrev BoundedAfter : {B : Type 0} → Outcome B → Type 0
  BoundedAfter o = AllByRecursion IsBounded o.0.rows

  -- Where a row that was found moves.
  moved_bounded : (t g : ℕ) (r : Row) (e : Event) → IsBounded r → FitsEvent e → (rows : List Row) → AllByRecursion IsBounded rows
      → AllByRecursion IsBounded (row_moved t g r e rows)
  moved_bounded t g r e b f rows a =
      all_replaced same_row row_key (row_key_at t g) IsBounded (moved_row r e).0 (moved_fits r r.state e b f) rows a

  found_bounded : (t g : ℕ) (r : Row) → row_of m.rows t g ≡ Some r → IsBounded r
  found_bounded t g r at = find_all same_row row_key (row_key_at t g) IsBounded m.rows r bounded at

  -- Where a row is added.
  needed_bounded : (t g : ℕ) (o : Option Row) → AllByRecursion IsBounded (row_needed o t g)
  needed_bounded t g None = (stamps_fit (pos 0, pos TOP) (omega (arith, ints), omega (arith, ints), omega (arith, ints)), tt)
  needed_bounded t g (Some r) = tt

  -- What a settlement brings about has no range of its own.
  settled_fits : (e : Event) → Settling e → FitsEvent e
  settled_fits (Pass l u) s = absurd s
  settled_fits Fail s = tt
  settled_fits Abort s = tt
  settled_fits (Commit c) s = tt

  pub bounded_step : (c : Call) → AllByRecursion IsBounded (step P m c).0.rows
  bounded_step (call.Begin t) = begin_cases m t BoundedAfter (λ _. bounded) (λ _. bounded)
  bounded_step (call.Read t k) =
      read_cases m t k BoundedAfter (λ _. bounded) (λ _ _ _. bounded)
      (λ c _ _ _ _ _. All-append IsBounded m.rows _ bounded (needed_bounded t (ground_of k) (row_of m.rows t (ground_of k))))
  bounded_step (call.Prewrite t k v) =
      prewrite_cases m t k v BoundedAfter (λ _. bounded) (λ _ _ _ _. bounded)
      (λ c _ _ _ _. All-append IsBounded m.rows _ bounded (needed_bounded t (ground_of k) (row_of m.rows t (ground_of k))))
  bounded_step (call.Validate t g) =
      validate_cases m t g P BoundedAfter (λ _. bounded)
      (λ r _ at _ _. moved_bounded t g r Fail (found_bounded t g r at) tt m.rows bounded)
      (λ r _ at _ room.
      let range : ℤ × ℤ = chosen_range m t g P r in
      let fits : Within (pos 0) (pos TOP) range = range_fits m t g P means r (found_bounded t g r at) room in
      moved_bounded t g r (Pass range.0 range.1) (found_bounded t g r at) (stamps_fit range fits) (map (pushed m t g range) m.rows)
      (All-map IsBounded (pushed m t g range) m.rows
      (All-weaker IsBounded _ (λ x b. pushed_fits (joins is_before m t g x) (joins is_after m t g x) range fits x b) m.rows bounded)))
  bounded_step (call.Decide t) = decide_cases m t BoundedAfter (λ _. bounded) (λ _ _. bounded)
  bounded_step (call.Withdraw t) = withdraw_cases m t BoundedAfter (λ _. bounded) (λ _. bounded)
  bounded_step (call.Settle t g) =
      settle_cases m t g BoundedAfter (λ _. bounded)
      (λ e r dec at _.
      moved_bounded t g r e (found_bounded t g r at) (settled_fits e (settling (transaction_of m t) e dec)) m.rows bounded)
