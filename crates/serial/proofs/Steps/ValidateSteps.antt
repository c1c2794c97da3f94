-- A validation keeps the invariant, whether it fails or passes.
--   fails         one that fails does
--   passes_with   so does one that passes with the range that the policy takes
use Rattle.std.proofs.Common.{◌≡◌, ℕ, Bool, true, false, eqb, ◌⊎◌, ◌∷◌, ℤ, pos, ◌≤ℤ◌, ◌<ℤ◌, Some, Ok, sym, refl, ap, ◌∙◌, subst, inl, inr, arith}
use lib.Signed.{lt_z}
use Rattle.std.proofs.lemmas.Int.{ints}
use Rattle.store.specs.Stores.{Cells}
use Rattle.base.specs.Keys.{ground_of}
use Rattle.lines.specs.Locks.{row_of}
use Rattle.lines.specs.Rows.{is_past}
use Rattle.lines.specs.declared.note.Note.{Note}
use Rattle.lines.specs.declared.note.Order.{Order}
use Rattle.lines.specs.declared.note.Order.TheVariants.{Before, Apart}
use Rattle.lines.specs.declared.row.Row.{Row}
use Rattle.protocol.specs.Checks.{check_running}
use Rattle.protocol.specs.Model.{Model, Chooses, read_of, write_of}
use Rattle.protocol.specs.Among.{raised_above, lowered_below}
use Rattle.protocol.specs.Validation.{failed, passed, floors, ceilings}
use Rattle.protocol.specs.declared.call.Call.TheVariants as call
use Rattle.protocol.specs.declared.call.Reply.TheVariants as reply
use Rattle.policy.specs.Ranges.{Meaning}
use Rattle.serial.specs.Ledger.{History}
use Rattle.serial.proofs.Lines.ByKey.{at_key, off_key, eqb_turned}
use Rattle.serial.proofs.Steps.BoundsByLines.{above_seen, above_cell}
use Rattle.serial.proofs.Steps.BoundsByNotes.{below_later, above_earlier, above_apart}
use Rattle.serial.proofs.Ledger.Fates.{Running, Past, Gone, fate, Unsettled}
use Rattle.serial.proofs.Ledger.Linked.{Linked, row_fate}
use Rattle.serial.proofs.Lines.Member.{In}
use Rattle.serial.proofs.Outcomes.AtGrounds.{low_end, high_end, chosen_range}
use Rattle.serial.proofs.Changes.Passing.{Fits, passes}
use Rattle.serial.proofs.Ledger.Shows.{past_row, running_shown, line_there}
use Rattle.serial.proofs.Changes.Turns.{gone}
use Rattle.serial.proofs.Invariant.{Sound, view}
use Rattle.serial.proofs.Standing.{Parties}

module _ (first : Cells) (m : Model) (h : History) (L : Linked h m) (S : Sound first (view h m)) (t g : ℕ) where
  -- The fate of a row that is Running.
  running_fate : (r : Row) → row_of m.rows t g ≡ Some r → check_running r ≡ Ok tt → fate h t g ≡ Running
  running_fate r at run = L.rows t g ∙ ap row_fate at ∙ running_shown r run

  -- A validation that fails keeps the invariant.
  pub fails : (r : Row) → row_of m.rows t g ≡ Some r → check_running r ≡ Ok tt
      → Sound first (view ((call.Validate t g, (Ok reply.Aborted)) ∷ h) (failed m t g r))
  fails r at run =
      gone first (view h m) (view ((call.Validate t g, (Ok reply.Aborted)) ∷ h) (failed m t g r)) t g S
      (record {
        stays = record { others = λ u j n. off_key t g u j Gone (fate h u j) n; seen = λ u j. refl; put = λ u j. refl; notes = λ n i. i };
        cells = λ j. refl;
      }) (subst Unsettled (sym (running_fate r at run)) tt) (at_key t g Gone (fate h t g))

  -- The row of another transaction that is past.
  past_other : (a : ℕ) (b : Bool) (l u : ℤ) → fate h a g ≡ Past b l u
      → (y : Row) × (row_of m.rows a g ≡ Some y) × (is_past y.state ≡ true) × (y.lower ≡ l) × (y.upper ≡ u)
  past_other a b l u e = past_row (row_of m.rows a g) b l u (sym (L.rows a g) ∙ e)

  -- The range that a validation leaves lies where it has to.
  fitting : (x y l u : ℤ) → raised_above x (floors m t g) ≤ℤ l → u ≤ℤ lowered_below y (ceilings m t g) → Fits (view h m) t g l u
  fitting x y l u lo hi = record {
    reads = λ k s i e.
        let r = line_there (λ z. (z.value, z.seen.number)) (read_of m t k) s (sym (L.reads t k) ∙ e) in
        let b = above_seen m t g k r.0 r.1 i x in
        let w : r.0.seen.number ≡ s.1 = ap (λ p. p.1) r.2 in
        subst (λ n. pos n <ℤ l) w (omega (arith, ints));
    writes = λ k v c i e at.
        let w = line_there (λ z. z.value) (write_of m t k) v (sym (L.writes t k) ∙ e) in
        let b = above_cell m t g k w.0 c w.1 i at x in
        let p = b.0 in
        let q = b.1 in
        (omega (arith, ints), omega (arith, ints));
    later = λ a b l₁ u₁ n e o.
        let y₁ = past_other a b l₁ u₁ e in
        let d = below_later m t g o.0 a y₁.0 o.1 o.2 o.3 o.4 o.5 (eqb_turned t a n) y₁.1 y₁.2 y in
        subst (λ z. u <ℤ z) y₁.3 (omega (arith, ints));
    earlier = λ a b l₁ u₁ n e o.
        let y₁ = past_other a b l₁ u₁ e in
        let d = above_earlier m t g o.0 a y₁.0 o.1 o.2 o.3 o.4 o.5 (eqb_turned t a n) y₁.1 y₁.2 x in
        subst (λ z. z <ℤ l) y₁.4 (omega (arith, ints));
    apart = λ a b l₁ u₁ n e o. by_order a b l₁ u₁ n e o.0 o.1 o.2 o.3 o.0.order refl;
  }
    where
      by_order : (a : ℕ) (b : Bool) (l₁ u₁ : ℤ) → eqb t a ≡ false → fate h a g ≡ Past b l₁ u₁ → (n : Note) → In n m.notes
          → ground_of n.key ≡ g → Parties n t a → (o : Order) → n.order ≡ o → (u <ℤ l₁) ⊎ (u₁ <ℤ l)
      by_order a b l₁ u₁ d e n i j p Apart q =
          let y₁ = past_other a b l₁ u₁ e in
          let f = above_apart m t g n a y₁.0 i j q p (eqb_turned t a d) y₁.1 y₁.2 x in
          inr (subst (λ z. z <ℤ l) y₁.4 (omega (arith, ints)))
      by_order a b l₁ u₁ d e n i j (inl p) Before q =
          let y₁ = past_other a b l₁ u₁ e in
          let f = below_later m t g n a y₁.0 i j q p.0 p.1 (eqb_turned t a d) y₁.1 y₁.2 y in
          inl (subst (λ z. u <ℤ z) y₁.3 (omega (arith, ints)))
      by_order a b l₁ u₁ d e n i j (inr p) Before q =
          let y₁ = past_other a b l₁ u₁ e in
          let f = above_earlier m t g n a y₁.0 i j q p.0 p.1 (eqb_turned t a d) y₁.1 y₁.2 x in
          inr (subst (λ z. z <ℤ l) y₁.4 (omega (arith, ints)))

  -- A validation that passes with the range that the policy takes keeps the invariant.
  pub passes_with : (P : Chooses) → Meaning P → (r : Row) → row_of m.rows t g ≡ Some r → check_running r ≡ Ok tt
      → lt_z (high_end m t g P r) (low_end m t g P r) ≡ false
      → Sound first (view ((call.Validate t g, Ok (reply.Range (chosen_range m t g P r).0 (chosen_range m t g P r).1)) ∷ h) (passed m t g r (chosen_range m t g P r)))
  passes_with P means r at run room =
      let l : ℤ = (chosen_range m t g P r).0 in
      let u : ℤ = (chosen_range m t g P r).1 in
      let within = means.within (low_end m t g P r) (high_end m t g P r) _ _ (not_empty (low_end m t g P r) (high_end m t g P r) room) in
      passes first (view h m) (view ((call.Validate t g, Ok (reply.Range l u)) ∷ h) (passed m t g r (chosen_range m t g P r))) t g S
      (record {
        stays = record { others = λ a j n. off_key t g a j (Past false l u) (fate h a j) n; seen = λ a j. refl; put = λ a j. refl; notes = λ n i. i };
        cells = λ j. refl;
      }) l u (running_fate r at run) (at_key t g (Past false l u) (fate h t g)) (fitting r.lower r.upper l u within.0 within.2)
    where
      not_empty : (l u : ℤ) → lt_z u l ≡ false → l ≤ℤ u
      not_empty l u e = grind (arith, ints)
