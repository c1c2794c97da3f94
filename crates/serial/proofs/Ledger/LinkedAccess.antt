-- The ledger and the books say the same after a read and after a prewrite, if they did before it.
--   linked_read             they do after a read
--   linked_prewrite         and after a prewrite
--   LinkedAfter, refused    what is to hold after a call; it holds after a call that is refused
--   read_rows, write_rows   a read or write line has a row at its ground
use Rattle.protocol.specs.Replies.{Response}
use Rattle.std.proofs.Common.{◌≡◌, ℕ, ◌∷◌, ℤ, Some, None, Ok, Option, Result, refl, ap, ◌∙◌, Err}
use Rattle.std.specs.Option.{option_map}
use Rattle.base.specs.Keys.{ground_of}
use Rattle.base.specs.declared.refusal.Refusal.{Refusal}
use Rattle.lines.specs.Locks.{row_of}
use Rattle.lines.specs.declared.access.ReadLine.{ReadLine}
use Rattle.lines.specs.declared.access.WriteLine.{WriteLine}
use Rattle.lines.specs.declared.row.Row.{Row}
use Rattle.protocol.specs.Calls.{read, prewrite, done_response, value_response}
use Rattle.protocol.specs.Model.{Model, read_of, write_of}
use Rattle.protocol.specs.declared.call.Call.{Call}
use Rattle.protocol.specs.declared.call.Call.TheVariants as call
use Rattle.protocol.specs.declared.call.Reply.TheVariants as reply
use Rattle.serial.specs.Ledger.{History, last_prewrite}
use Rattle.serial.proofs.Ledger.Fates.{fate, sight_of}
use Rattle.serial.proofs.Ledger.Linked.{Linked}
use Rattle.serial.proofs.Ledger.LinkedLines.{first_seen, again_seen, first_put, again_put}
use Rattle.serial.proofs.Ledger.Silent.{refused_silent, silent_linked}
use Rattle.serial.proofs.Ledger.LinkedRows.{again_fates, added_fates}
use Rattle.serial.proofs.Outcomes.Checks.{Outcome}
use Rattle.serial.proofs.Outcomes.Accesses.{read_cases, prewrite_cases}
use Rattle.serial.proofs.Ledger.Untouched.{rowless_untouched, untouched}

module _ (h : History) where
  -- What is to hold of the register and the reply after a call.
  abbrev pub LinkedAfter : {B : Type 0} → Call → (Result B Refusal → Response) → Outcome B → Type 0
  LinkedAfter c f o = Linked ((c, f o.1) ∷ h) o.0

-- A row that is not missing is there.
row_there : (o : Option Row) → (o ≡ None → ⊥) → (x : Row) × (o ≡ Some x)
row_there None e = absurd (e refl)
row_there (Some x) e = (x, refl)

module _ (m : Model) (h : History) (linked : Linked h m) where
  -- A transaction that read a key has a row at its ground.
  read_rows : (t k : ℕ) (x : ReadLine) → read_of m t k ≡ Some x → row_of m.rows t (ground_of k) ≡ None → ⊥
  read_rows t k x at none =
      let a = (untouched h t k (rowless_untouched h m linked t (ground_of k) none)).0 in
      let b = linked.reads t k ∙ ap (option_map (λ y. (y.value, y.seen.number))) at in
      absurd cc

  -- One that prewrote a key too.
  write_rows : (t k : ℕ) (x : WriteLine) → write_of m t k ≡ Some x → row_of m.rows t (ground_of k) ≡ None → ⊥
  write_rows t k x at none =
      let a = (untouched h t k (rowless_untouched h m linked t (ground_of k) none)).1 in
      let b = linked.writes t k ∙ ap (option_map (λ y. y.value)) at in
      absurd cc

  -- A refused call changes nothing and says nothing.
  pub refused : (c : Call) (e : Refusal) → Linked ((c, Err e) ∷ h) m
  refused c e = silent_linked m h (c, Err e) (refused_silent h c e) linked

  -- They say the same after a read.
  pub linked_read : (t k : ℕ) → LinkedAfter h (call.Read t k) value_response (read m t k)
  linked_read t k =
      read_cases m t k (LinkedAfter h (call.Read t k) value_response) (refused (call.Read t k))
      (λ r _ at.
      let there = row_there (row_of m.rows t (ground_of k)) (read_rows t k r at) in
      record {
        rows = again_fates (fate h) m.rows t (ground_of k) linked.rows there.0 there.1;
        reads = again_seen (sight_of h) m.reads t k linked.reads r (Ok (reply.Value r.value r.seen)) at;
        writes = linked.writes;
        stamps = linked.stamps;
      })
      (λ c _ _ _ _ none. record {
        rows = added_fates (fate h) m.rows t (ground_of k) linked.rows;
        reads = first_seen (sight_of h) m.reads t k linked.reads c.value c.write none;
        writes = linked.writes;
        stamps = linked.stamps;
      })

  -- And after a prewrite.
  pub linked_prewrite : (t k : ℕ) (v : ℤ) → LinkedAfter h (call.Prewrite t k v) done_response (prewrite m t k v)
  linked_prewrite t k v =
      prewrite_cases m t k v (LinkedAfter h (call.Prewrite t k v) done_response) (refused (call.Prewrite t k v))
      (λ w _ _ at.
      let there = row_there (row_of m.rows t (ground_of k)) (write_rows t k w at) in
      record {
        rows = again_fates (fate h) m.rows t (ground_of k) linked.rows there.0 there.1;
        reads = linked.reads;
        writes = again_put (last_prewrite h) m.writes t k v linked.writes w at;
        stamps = linked.stamps;
      })
      (λ c _ _ _ none. record {
        rows = added_fates (fate h) m.rows t (ground_of k) linked.rows;
        reads = linked.reads;
        writes = first_put (last_prewrite h) m.writes t k v linked.writes none;
        stamps = linked.stamps;
      })
