-- A worked case: calls on a new register, each with the reply that it should get.
--   Case                            the first cells, the rooms, the policy, the calls with their responses, and some cells at the end
--   full                            the rooms of books with all the memory that their limits allow
--   cells_at, calls_of              the cells that a list names, and the calls of a case
--   told r                          a response in full
--   outcome c, expected_outcome c   what the model makes of a case, and what the case says of it
--   IsShown c                       these are the same
use Rattle.std.specs.Prelude.{◌≡◌, ℕ, cond, List, [], ◌∷◌, map, ℤ, pos, Some, None, Ok, Err, Option, ◌==◌}
use Rattle.std.specs.Option.{option_map}
use Rattle.store.specs.Stores.{Cells}
use Rattle.store.specs.declared.cell.Cell.{Cell}
use Rattle.base.specs.declared.stamp.TheConstants.{TOP}
use Rattle.base.specs.Stamps.{stamp}
use Rattle.lines.specs.declared.access.TheConstants.{READS, WRITES}
use Rattle.lines.specs.declared.note.TheConstants.{NOTES}
use Rattle.lines.specs.declared.row.TheConstants.{ROWS}
use Rattle.lines.specs.declared.transaction.TheConstants.{TRANSACTIONS}
use Rattle.protocol.specs.Replies.{Response, reply_words, response_words}
use Rattle.protocol.specs.Calls.{responses, register_after}
use Rattle.protocol.specs.Model.{Chooses, Model, Rooms, new}
use Rattle.protocol.specs.declared.call.Call.{Call}
use Rattle.protocol.specs.declared.call.Reply.{Reply}
use Rattle.protocol.specs.declared.call.Reply.TheVariants.{Done, Value, Range, Committed, Aborted}

-- A cell's value, write stamp and read stamp as numbers.
abbrev pub Figures : Type 0
Figures = ℤ × ℕ × ℕ

-- The figures of a cell.
abbrev pub figures : Cell → Figures
figures c = (c.value, c.write.number, c.read.number)

-- A case.
pub record Case : Type 0 where
  pub cells : List (ℕ × Cell)
  pub rooms : Rooms
  pub policy : Chooses
  pub script : List (Call × Response)
  pub ends : List (ℕ × Figures)

-- The largest stamp.
abbrev pub top : ℕ
top = TOP

-- A cell by its value, write stamp and read stamp.
abbrev pub cell : ℤ → ℕ → ℕ → Cell
cell v w r = record { value = v; write = stamp w; read = stamp r }

-- The rooms of books with all the memory that their limits allow.
abbrev pub full : Rooms
full = record { transactions = TRANSACTIONS; rows = ROWS; reads = READS; writes = WRITES; notes = NOTES }

-- The reply of a call that answers no more than that it was done.
abbrev pub ok : Response
ok = Ok Done

-- The reply of a validation that failed, of a decision that aborted, and of a withdrawal.
abbrev pub abort : Response
abort = Ok Aborted

-- The reply of a read: a value and its write stamp.
abbrev pub value : ℤ → ℕ → Response
value v w = Ok (Value v (stamp w))

-- The reply of a validation that passed.
abbrev pub range : ℕ → ℕ → Response
range l u = Ok (Range (pos l) (pos u))

-- The reply of a decision that committed.
abbrev pub commit : ℕ → Response
commit c = Ok (Committed (stamp c))

-- Cells at the keys that a list names, and nothing at others.
abbrev pub cells_at : List (ℕ × Cell) → Cells
cells_at [] k = None
cells_at (p ∷ ps) k = cond (k == p.0) (Some p.1) (cells_at ps k)

-- A reply in full: its words, and the signed numbers in it as they are, of which a word has sixteen bits or the nearest stamp.
abbrev pub told_reply : Reply → List ℕ × List ℤ
told_reply Done = (reply_words 0 Done, [])
told_reply (Value v s) = (reply_words 0 (Value v s), v ∷ [])
told_reply (Range l u) = (reply_words 0 (Range l u), l ∷ u ∷ [])
told_reply (Committed s) = (reply_words 0 (Committed s), [])
told_reply Aborted = (reply_words 0 Aborted, [])

-- A response in full.
abbrev pub told : Response → List ℕ × List ℤ
told (Ok r) = told_reply r
told (Err e) = (response_words 0 (Err e), [])

-- The calls of a case.
abbrev pub calls_of : Case → List Call
calls_of c = map (λ p. p.0) c.script

-- What the model makes of a case: the responses, and the cells at the keys that the case looks at in the end.
abbrev pub outcome : Case → List (List ℕ × List ℤ) × List (Option Figures)
outcome c =
    let start : Model = new (cells_at c.cells) c.rooms in (
      map told (responses c.policy start (calls_of c)),
      map (λ p. option_map figures ((register_after c.policy start (calls_of c)).cells p.0)) c.ends,
    )

-- What the case says of it.
abbrev pub expected_outcome : Case → List (List ℕ × List ℤ) × List (Option Figures)
expected_outcome c = (map (λ p. told p.1) c.script, map (λ p. Some p.1) c.ends)

-- The model makes of a case what the case says.
abbrev pub IsShown : Case → Type 0
IsShown c = outcome c ≡ expected_outcome c
