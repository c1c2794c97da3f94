-- A settlement keeps the invariant: by the event Abort, and by the event Commit.
--   settled_own, settled_others   the fates after a settlement, at the transaction's ground and everywhere else
--   settles_gone                  a transaction with no stamp is gone there
--   settles_at                    one with a stamp in its range is settled there with it
use Rattle.std.proofs.Common.{◌≡◌, ℕ, false, ◌&&◌, eqb, ◌∷◌, ℤ, pos, ◌≤ℤ◌, Some, None, Ok, sym, refl, ap, ◌∙◌, inl, inr}
use Rattle.std.specs.Option.{option_map}
use Rattle.store.specs.Stores.{Cells}
use Rattle.store.specs.declared.cell.Cell.{Cell}
use Rattle.base.specs.declared.stamp.Stamp.{Stamp}
use Rattle.lines.specs.declared.row.Event.TheVariants.{Abort, Commit}
use Rattle.lines.specs.declared.row.Row.{Row}
use Rattle.protocol.specs.Decisions.{with_settlement}
use Rattle.protocol.specs.Model.{Model, read_of, write_of}
use Rattle.protocol.specs.declared.call.Call.TheVariants as call
use Rattle.protocol.specs.declared.call.Reply.TheVariants as reply
use Rattle.serial.specs.Ledger.{History}
use Rattle.serial.proofs.Lines.ByKey.{at_key_too, off_key_too}
use Rattle.serial.proofs.Ledger.Fates.{Past, settled_fate, fate, stamp_of, Unsettled}
use Rattle.serial.proofs.Ledger.Linked.{Linked}
use Rattle.serial.proofs.Changes.Settling.{ValueFrom, settles}
use Rattle.serial.proofs.Steps.SettledCells.{From, cell_grown, read_reached, write_reached, value_from}
use Rattle.serial.proofs.Ledger.Shows.{line_there}
use Rattle.serial.proofs.Changes.Turns.{gone}
use Rattle.serial.proofs.Invariant.{Sound, view}

module _ (h : History) (t g : ℕ) where
  -- The fates after a settlement: the transaction's at the ground, and all others.
  pub settled_own : fate ((call.Settle t g, (Ok reply.Done)) ∷ h) t g ≡ settled_fate (stamp_of h t)
  settled_own = at_key_too t g (settled_fate (stamp_of h t)) (fate h t g)

  pub settled_others : (u j : ℕ) → (eqb t u && eqb g j) ≡ false → fate ((call.Settle t g, (Ok reply.Done)) ∷ h) u j ≡ fate h u j
  settled_others u j n = off_key_too t g u j (settled_fate (stamp_of h u)) (fate h u j) n

module _ (first : Cells) (m : Model) (h : History) (L : Linked h m) (S : Sound first (view h m)) (t g : ℕ) where
  -- A settlement of a transaction that has no stamp, and was not settled with one, keeps the invariant.
  pub settles_gone : (r : Row) → stamp_of h t ≡ None → Unsettled (fate h t g)
      → Sound first (view ((call.Settle t g, (Ok reply.Done)) ∷ h) (with_settlement m t g r Abort))
  settles_gone r none still =
      gone first (view h m) (view ((call.Settle t g, (Ok reply.Done)) ∷ h) (with_settlement m t g r Abort)) t g S
      (record {
        stays = record { others = settled_others h t g; seen = λ u j. refl; put = λ u j. refl; notes = λ n i. i };
        cells = λ j. refl;
      })
      still (settled_own h t g ∙ ap settled_fate none)

  -- So does a settlement of one that has a stamp in its range.
  pub settles_at : (r : Row) (c : Stamp) (l u : ℤ) → stamp_of h t ≡ Some c.number → fate h t g ≡ Past false l u
      → l ≤ℤ pos c.number → pos c.number ≤ℤ u
      → Sound first (view ((call.Settle t g, (Ok reply.Done)) ∷ h) (with_settlement m t g r (Commit c)))
  settles_at r c l u at was least most =
      settles first (view h m) (view ((call.Settle t g, (Ok reply.Done)) ∷ h) (with_settlement m t g r (Commit c))) t g c.number S
      (record {
        stays = record { others = settled_others h t g; seen = λ a j. refl; put = λ a j. refl; notes = λ n i. i };
        grown = λ k. cell_grown m t g c k;
        read_up = λ k x i e.
            let y = line_there (λ z. (z.value, z.seen.number)) (read_of m t k) x (sym (L.reads t k) ∙ e) in
            read_reached m t g c k i y.0 y.1;
        write_up = λ k x i e.
            let y = line_there (λ z. z.value) (write_of m t k) x (sym (L.writes t k) ∙ e) in
            write_reached m t g c k i y.0 y.1;
        value = λ k a b p q. from k a b (value_from m t g c k a b p q);
      }) l u was (settled_own h t g ∙ ap settled_fate at) least most
    where
      from : (k : ℕ) (a b : Cell) → From m t g c k a b → ValueFrom (view h m) t g c.number k a b
      from k a b (inl e) = inl e
      from k a b (inr e) =
          inr (e.0, L.writes t k ∙ ap (option_map (λ z. z.value)) e.1.1 ∙ ap Some e.1.2, e.1.3)
