-- The ledger and the books say the same.
--   Linked h m   fates are by the rows, what was seen by the read lines, what was put by the write lines, stamps by the decisions
use Rattle.std.proofs.Common.{◌≡◌, ℕ, true, false, ℤ, Some, None, Option}
use Rattle.std.specs.Option.{option_map}
use Rattle.lines.specs.Locks.{row_of}
use Rattle.lines.specs.declared.row.Row.{Row}
use Rattle.lines.specs.declared.row.State.{State}
use Rattle.lines.specs.declared.row.State.TheVariants as state
use Rattle.lines.specs.declared.transaction.Decision.{Decision}
use Rattle.lines.specs.declared.transaction.Decision.TheVariants as decision
use Rattle.lines.specs.declared.transaction.Transaction.{Transaction}
use Rattle.protocol.specs.Model.{Model, read_of, write_of, transaction_of}
use Rattle.serial.specs.Ledger.{History, last_prewrite}
use Rattle.serial.proofs.Ledger.Fates.{Fate, Away, Running, Past, Gone, fate, sight_of, stamp_of}

-- The fate that a row in a state shows.
abbrev pub fate_by : State → ℤ → ℤ → Fate
fate_by state.Running l u = Running
fate_by state.Validated l u = Past false l u
fate_by state.Committed l u = Past true l u
fate_by state.Aborted l u = Gone

-- The fate that a row shows, if there is one.
abbrev pub row_fate : Option Row → Fate
row_fate None = Away
row_fate (Some r) = fate_by r.state r.lower r.upper

-- The stamp of a decision.
abbrev pub decided_stamp : Option Decision → Option ℕ
decided_stamp None = None
decided_stamp (Some (decision.Committed c)) = Some c.number
decided_stamp (Some decision.Aborted) = None

-- The stamp of a transaction's line, if there is one.
abbrev pub line_stamp : Option Transaction → Option ℕ
line_stamp None = None
line_stamp (Some x) = decided_stamp x.decision

-- The ledger and the books say the same.
pub record Linked (h : History) (m : Model) : Type 0 where
  pub rows : (t g : ℕ) → fate h t g ≡ row_fate (row_of m.rows t g)
  pub reads : (t k : ℕ) → sight_of h t k ≡ option_map (λ x. (x.value, x.seen.number)) (read_of m t k)
  pub writes : (t k : ℕ) → last_prewrite h t k ≡ option_map (λ x. x.value) (write_of m t k)
  pub stamps : (t : ℕ) → stamp_of h t ≡ line_stamp (transaction_of m t)
