-- A transaction that makes the only calls passes each validation, and its row leaves every stamp up to TOP.
--   never_fails   the range that is left is not empty
--   pass_solo     what holds of it while it is open lasts
use Rattle.std.proofs.Common.{◌≡◌, ℕ, true, false, cond, ◌&&◌, eqb, [], map, pos, ◌≤ℤ◌, Some, None, Option, sym, refl, ap, ◌∙◌, subst, ⊎_elim, arith}
use lib.Signed.{lt_z}
use Rattle.std.proofs.ByRecursion.{All-map, All-weaker}
use Rattle.std.proofs.lemmas.Int.{ints}
use Rattle.std.proofs.lemmas.Bool.{and_parts, eqb-true}
use Rattle.std.specs.Option.{option_map}
use Rattle.store.specs.Stores.{Cells}
use Rattle.lines.specs.LineKeys.{row_key, same_row, row_key_at}
use Rattle.lines.specs.Locks.{row_of, is_live}
use Rattle.lines.specs.Rows.{moved_row_in, moved_row}
use Rattle.lines.specs.declared.row.Event.TheVariants.{Pass}
use Rattle.lines.specs.declared.row.Row.{Row}
use Rattle.lines.specs.declared.row.State.TheVariants.{Running}
use Rattle.protocol.proofs.Raising.{raised_least}
use Rattle.protocol.specs.Model.{Model, Chooses}
use Rattle.protocol.specs.Among.{lowered_below, is_before, is_after, raise, lower}
use Rattle.protocol.specs.Validation.{floors, afters, passed, pushed}
use Rattle.policy.specs.Ranges.{Meaning}
use Rattle.serial.proofs.Lines.Found.{find_all, all_replaced}
use Rattle.serial.proofs.Outcomes.AtGrounds.{low_end, high_end, chosen_range}
use Rattle.serial.proofs.Alone.OwnLocks.{OnlyLive}
use Rattle.serial.proofs.Alone.Solo.{LeavesTop, Solo}
use Rattle.serial.proofs.Alone.Quiet.{no_ceilings, no_befores, no_afters, joins_none, floors_below, raised_most}
use Rattle.serial.proofs.Lines.RowKeys.{found_key, other_moved, pushed_rows, same_or_not}

module _ (t : ℕ) (found : Cells) (m : Model) (s : Solo t found m) (P : Chooses) (g : ℕ) (r : Row) (at : row_of m.rows t g ≡ Some r) where
  -- The row that is validated is fine.
  fine : LeavesTop r
  fine =
      find_all same_row row_key (row_key_at t g) _ m.rows r s.rows at
      (eqb-true _ _ (and_parts (eqb r.transaction t) _ (found_key m.rows t g r at)).0)

  -- What is left of its range reaches from a stamp up to TOP.
  high_is : high_end m t g P r ≡ pos 268435455
  high_is = ap (lowered_below r.upper) (no_ceilings m t g s.notes) ∙ fine.0

  low_most : low_end m t g P r ≤ℤ pos 268435455
  low_most = raised_most r.lower (floors m t g) fine.2 (floors_below m t g s.notes s.reads s.writes)

  low_least : pos 0 ≤ℤ low_end m t g P r
  low_least = let a = raised_least r.lower (floors m t g) in let b = fine.1 in omega (arith, ints)

  -- So it is not empty.
  pub never_fails : lt_z (high_end m t g P r) (low_end m t g P r) ≡ true → ⊥
  never_fails e = let a = high_is in let b = low_most in omega (arith, ints)

  module _ (means : Meaning P) (state : r.state ≡ Running) where
    -- The policy hands it back, since nobody is near.
    range_is : chosen_range m t g P r ≡ (low_end m t g P r, high_end m t g P r)
    range_is =
        ap (λ bs. P (low_end m t g P r) (high_end m t g P r) bs (afters m t g)) (no_befores m t g s.notes)
        ∙ (ap (λ cs. P (low_end m t g P r) (high_end m t g P r) [] cs) (no_afters m t g s.notes) ∙ means.whole _ _)

    -- Nobody makes way.
    pushed_fine : (x : Row) → (x.transaction ≡ t → LeavesTop x) → x.transaction ≡ t → LeavesTop (pushed m t g (chosen_range m t g P r) x)
    pushed_fine x f e =
        let p = f e in
        let a = joins_none m t g s.notes is_after refl x in
        let b = joins_none m t g s.notes is_before refl x in (
          ap (λ c. cond c (lower x.upper (chosen_range m t g P r).0) x.upper) b ∙ p.0,
          subst (λ c. pos 0 ≤ℤ cond c (raise x.lower (chosen_range m t g P r).1) x.lower) (sym a) p.1,
          subst (λ c. cond c (raise x.lower (chosen_range m t g P r).1) x.lower ≤ℤ pos 268435455) (sym a) p.2,
          p.3,
        )

    -- The row that passed is fine.
    moved_fine : LeavesTop (moved_row r (Pass (chosen_range m t g P r).0 (chosen_range m t g P r).1)).0
    moved_fine =
        subst (λ q. LeavesTop (moved_row_in r q (Pass (chosen_range m t g P r).0 (chosen_range m t g P r).1)).0) (sym state)
        (subst (λ c. LeavesTop (moved_row_in r Running (Pass c.0 c.1)).0) (sym range_is) (high_is, low_least, low_most, refl))

    -- No other row became live.
    passed_only : OnlyLive t (passed m t g r (chosen_range m t g P r)).rows
    passed_only u j y q l =
        ⊎_elim (λ (e : (u ≡ t) × (j ≡ g)). e.0)
        (λ (e : (eqb t u && eqb g j) ≡ false).
        go (row_of m.rows u j) refl
        (sym (pushed_rows m t g (chosen_range m t g P r) m.rows u j)
        ∙ (sym (other_moved (map (pushed m t g (chosen_range m t g P r)) m.rows) t g r
        (Pass (chosen_range m t g P r).0 (chosen_range m t g P r).1) u j e (found_key m.rows t g r at)) ∙ q)))
        (same_or_not t g u j)
      where
        go : (o : Option Row) → row_of m.rows u j ≡ o → option_map (pushed m t g (chosen_range m t g P r)) o ≡ Some y → u ≡ t
        go None d h = absurd cc
        go (Some x) d h =
            let i : y ≡ pushed m t g (chosen_range m t g P r) x = cc in
            s.only u j x d (ap (λ z. is_live z.state) (sym i) ∙ l)

    -- So what holds of t lasts.
    pub pass_solo : Solo t found (passed m t g r (chosen_range m t g P r))
    pass_solo = record {
      cells = s.cells;
      only = passed_only;
      notes = s.notes;
      rows =
          all_replaced same_row row_key (row_key_at t g) _ (moved_row r (Pass (chosen_range m t g P r).0 (chosen_range m t g P r).1)).0 (λ _. moved_fine)
          (map (pushed m t g (chosen_range m t g P r)) m.rows)
          (All-map _ (pushed m t g (chosen_range m t g P r)) m.rows (All-weaker _ _ pushed_fine m.rows s.rows));
      reads = s.reads;
      writes = s.writes;
    }
