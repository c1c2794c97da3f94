-- The serial law, from what holds at every moment of a day: the arrangement by rising (stamp, number) tells the day.
use Rattle.std.proofs.Common.{◌≡◌, ℕ, Bool, true, false, ℤ, pos, ◌≤ℤ◌, Some, None, Option, sym, refl, ap, ◌∙◌, subst, inl, inr, arith}
use Rattle.std.proofs.ByRecursion.{All-weaker}
use Rattle.std.proofs.lemmas.Int.{ints}
use Rattle.std.proofs.lemmas.Bool.{true≢false}
use Rattle.std.specs.Option.{option_map}
use Rattle.store.specs.Stores.{Cells}
use Rattle.store.specs.declared.cell.Cell.{Cell}
use Rattle.base.specs.Keys.{ground_of}
use Rattle.lines.specs.Locks.{row_of, is_live}
use Rattle.lines.specs.declared.row.Row.{Row}
use Rattle.lines.specs.declared.row.State.{State}
use Rattle.lines.specs.declared.row.State.TheVariants as state
use Rattle.protocol.specs.Model.{Model}
use Rattle.serial.specs.Ledger.{History, Commit, commits, reads_of, last_prewrite, is_pending, is_owed}
use Rattle.serial.specs.Arrangements.{values, serial_order}
use Rattle.serial.specs.Serial.{Tells}
use Rattle.serial.proofs.Ledger.Fates.{Past, fate}
use Rattle.serial.proofs.Order.OrderTells.{Final, untouched, written, order_tells, order_ends}
use Rattle.serial.proofs.Ledger.Linked.{fate_by, row_fate}
use Rattle.serial.proofs.Lines.Member.{In, in_none}
use Rattle.serial.proofs.Order.Writers.{PastWith, settled_commit, writer_past, reached, above_first, under_settled}
use Rattle.serial.proofs.Order.Sources.{source}
use Rattle.serial.proofs.Invariant.{Origin, CellKept, Invariant, view}
use Rattle.serial.proofs.Standing.{UpToWrite}

-- A row that shows Past and not settled is live.
validated_live : (o : Option Row) (l u : ℤ) → row_fate o ≡ Past false l u → (r : Row) × (o ≡ Some r) × (is_live r.state ≡ true)
validated_live None l u e = absurd cc
validated_live (Some r) l u e = (r, refl, go r.state e)
  where
    go : (s : State) → fate_by s r.lower r.upper ≡ Past false l u → is_live s ≡ true
    go state.Running d = refl
    go state.Validated d = refl
    go state.Committed d = let i : true ≡ false = cc in absurd (true≢false i)
    go state.Aborted d = absurd cc

-- What is not there is None.
none_there : (o : Option ℤ) → ((x : ℤ) → o ≡ Some x → ⊥) → o ≡ None
none_there None n = refl
none_there (Some x) n = absurd (n x refl)

module _ (cells : Cells) (h : History) (m : Model) (H : Invariant cells h m) where
  -- A commit that wrote k, where nothing is owed.
  module _ (d : Commit) (j : In d (commits h)) (k : ℕ) (y : ℤ) (put : last_prewrite h d.number k ≡ Some y)
      (n : is_owed h (ground_of k) ≡ false) where
    -- Its range.
    abbrev range : PastWith h d.number (ground_of k) d.stamp
    range = writer_past cells h m H d j k y put

    -- It is settled: else its row would be live, and it would be pending.
    settled_where_paid : range.settled ≡ true
    settled_where_paid = go range.settled range.at
      where
        go : (b : Bool) → fate h d.number (ground_of k) ≡ Past b range.lower range.upper → b ≡ true
        go true e = refl
        go false e =
            let s = sym (H.linked.rows d.number (ground_of k)) ∙ e in
            let r = validated_live (row_of m.rows d.number (ground_of k)) _ _ s in
            let p = H.live d.number (ground_of k) r.0 r.1 r.2 in
            absurd (true≢false (sym p ∙ in_none (λ c. is_pending h c.number (ground_of k)) d (commits h) n j))

    -- It is not above the cell's write stamp.
    under_cell : (c : Cell) → m.cells k ≡ Some c → range.upper ≤ℤ pos c.write.number
    under_cell c e = subst (UpToWrite range.upper) e (reached cells h m H d j k y put settled_where_paid)

  -- Where what is there at the end comes from, where nothing is owed.
  final : (k : ℕ) → is_owed h (ground_of k) ≡ false → Final h (values cells) k (values m.cells k)
  final k n = go (cells k) refl (m.cells k) refl (H.sound.cell k)
    where
      -- Nobody wrote above a cell that is as it was.
      unwritten : (f c : Cell) → cells k ≡ Some f → m.cells k ≡ Some c → f.write.number ≡ c.write.number
          → (d : Commit) → In d (commits h) → (y : ℤ) → last_prewrite h d.number k ≡ Some y → ⊥
      unwritten f c e s w d j y put =
          let a = above_first cells h m H d j k y put f e in
          let b = under_cell d j k y put n c s in
          let l = (writer_past cells h m H d j k y put).above in
          let u = (writer_past cells h m H d j k y put).below in
          omega (arith, ints)

      -- A cell as it was at first, or as a settled writer left it.
      from_origin : (c : Cell) → m.cells k ≡ Some c → Origin cells (view h m) k c.value c.write.number
          → Final h (values cells) k (option_map (λ x. x.value) (m.cells k))
      from_origin c s (inl (g, b, a, w)) =
          untouched (ap (option_map (λ x. x.value)) s ∙ (ap Some (sym a) ∙ sym (ap (option_map (λ x. x.value)) b)))
          (λ d j. none_there (last_prewrite h d.number k) (unwritten g c b s w d j))
      from_origin c s (inr (u, b, p)) =
          written (record { stamp = c.write.number; number = u })
          (settled_commit cells h m H u (ground_of k) c.write.number b) c.value
          (ap (option_map (λ x. x.value)) s) p
          (λ d j o y put.
          under_settled cells h m H d j k y put u c.write.number c.value o b p (under_cell d j k y put n c s))

      -- Nobody wrote where there is no cell.
      never : (d : Commit) → cells k ≡ None → (y : ℤ) → last_prewrite h d.number k ≡ Some y → ⊥
      never d e y put =
          let f = H.sound.has d.number k y put in
          let s = f.1 in
          absurd cc

      go : (a : Option Cell) → cells k ≡ a → (b : Option Cell) → m.cells k ≡ b → CellKept cells (view h m) k a b
          → Final h (values cells) k (option_map (λ x. x.value) (m.cells k))
      go None e None s q =
          untouched (ap (option_map (λ x. x.value)) (s ∙ sym e)) (λ d j. none_there (last_prewrite h d.number k) (never d e))
      go None e (Some c) s q = absurd q
      go (Some f) e None s q = absurd q
      go (Some f) e (Some c) s q = from_origin c s q.1

-- The serial order tells a day on which all of it holds.
pub law : (first : Cells) (h : History) (m : Model) → Invariant first h m → Tells first h m.cells (serial_order h)
law first h m H = record {
  reads = order_tells h (values first) H.stamped.once (λ c i.
      All-weaker _ _ (λ p s. source first h m H c i p.0 p.1 s.0 s.1)
      (reads_of h c.number) (H.alike c.number));
  ends = λ k n. sym (order_ends h (values first) H.stamped.once k (values m.cells k) (final first h m H k n));
}
