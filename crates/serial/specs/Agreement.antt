-- When two registers agree on a ground, and what that means for a validation there.
--   Agree g m n         the registers m and n agree on the ground g
--   SamePolicy P Q      the policies P and Q answer alike to all that a validation can ask
--   Alike P Q m n t g   the validation of t at g is answered alike in both registers, and they still agree on g
--   LocalAt P m         under the policy P a validation on the register m depends on its ground alone
--   Local               so does every validation
use Rattle.std.specs.Prelude.{◌≡◌, ℕ, ◌+◌, ◌<◌, ◌^◌, List, ℤ, pos, negsuc, ◌≤ℤ◌, filter, nat_eq}
use Rattle.std.specs.List.{AllByRecursion}
use Rattle.base.specs.Keys.{ground_of}
use Rattle.base.specs.declared.stamp.TheConstants.{TOP}
use Rattle.lines.specs.Rows.{IsBounded}
use Rattle.lines.specs.declared.access.ReadLine.{ReadLine}
use Rattle.lines.specs.declared.access.WriteLine.{WriteLine}
use Rattle.lines.specs.declared.note.Note.{Note}
use Rattle.lines.specs.declared.row.Row.{Row}
use Rattle.protocol.specs.Calls.{validate}
use Rattle.protocol.specs.Model.{Model, Chooses, transaction_of}

-- The rows of a ground, in their order.
abbrev pub rows_at : ℕ → List Row → List Row
rows_at g xs = filter (λ x. nat_eq x.ground g) xs

-- The read lines of a ground.
abbrev pub reads_at : ℕ → List ReadLine → List ReadLine
reads_at g xs = filter (λ x. nat_eq (ground_of x.key) g) xs

-- The write lines of a ground.
abbrev pub writes_at : ℕ → List WriteLine → List WriteLine
writes_at g xs = filter (λ x. nat_eq (ground_of x.key) g) xs

-- The notes of a ground.
abbrev pub notes_at : ℕ → List Note → List Note
notes_at g xs = filter (λ x. nat_eq (ground_of x.key) g) xs

-- The ground's cells, rows, reads, writes and notes are the same, in the same order. A key has sixteen bits.
pub record Agree (g : ℕ) (m n : Model) : Type 0 where
  pub cells : (k : ℕ) → k < 2 ^ 16 → ground_of k ≡ g → m.cells k ≡ n.cells k
  pub rows : rows_at g m.rows ≡ rows_at g n.rows
  pub reads : reads_at g m.reads ≡ reads_at g n.reads
  pub writes : writes_at g m.writes ≡ writes_at g n.writes
  pub notes : notes_at g m.notes ≡ notes_at g n.notes

-- A bound that the lower of a row can be: from 0 to TOP + 1.
abbrev pub IsLower : ℤ → Type 0
IsLower x = (pos 0 ≤ℤ x) × (x ≤ℤ pos (TOP + 1))

-- A bound that the upper of a row can be: from -1 to TOP.
abbrev pub IsUpper : ℤ → Type 0
IsUpper x = (negsuc 0 ≤ℤ x) × (x ≤ℤ pos TOP)

-- Two policies give equal answers to all that a validation can ask: a range of stamps that is not empty, and bounds that rows can have.
abbrev pub SamePolicy : Chooses → Chooses → Type 0
SamePolicy P Q =
    (l u : ℤ) (bs cs : List ℤ) → pos 0 ≤ℤ l → l ≤ℤ u → u ≤ℤ pos TOP → AllByRecursion IsLower bs → AllByRecursion IsUpper cs
    → P l u bs cs ≡ Q l u bs cs

-- A validation answers the same in both registers, and they still agree on the ground.
pub record Alike (P Q : Chooses) (m n : Model) (t g : ℕ) : Type 0 where
  pub answer : (validate P m t g).1 ≡ (validate Q n t g).1
  pub agree : Agree g (validate P m t g).0 (validate Q n t g).0

-- A register that agrees with m on a ground, 0 to 7, on a transaction's line and in policy answers its validation there alike, and still
-- agrees with it there: whatever calls each saw, and whatever their other grounds hold.
abbrev pub LocalAt : Chooses → Model → Type 0
LocalAt P m =
    (Q : Chooses) → SamePolicy P Q → (n : Model) (t g : ℕ) → g < 8 → Agree g m n
    → transaction_of m t ≡ transaction_of n t → Alike P Q m n t g

-- Of every register whose rows keep to the limits of their bounds, under every policy, also one that does not keep its meaning.
abbrev pub Local : Type 0
Local = (P : Chooses) (m : Model) → AllByRecursion IsBounded m.rows → LocalAt P m
