-- The checks of the calls, each with its refusal.
--   after_check m r f    f of what the check r passed on; or its refusal, which leaves the register m as it stood
--   check_number         refusal 1: a number above all begun, up to 4,095
--   check_room           refusal 2: room for so many more lines; has_room is that of one book
--   check_open           refusals 3 and 4: a transaction that was begun and is not decided
--   event_decided        refusals 3 and 9: what the decision of one that is decided means for its rows
--   check_running        refusal 5: a row is Running; is_running, is_aborted tell of its state
--   check_not_stopped    refusal 5: there is no row yet, or it is Running
--   check_unwritten      refusal 7: the transaction has prewritten nothing
--   check_none_running   refusal 8: none of its rows is Running
--   check_alone r        the check that r makes, whatever it finds
--   is_write_of t w      w is a write line of the transaction t
--   is_own t r           r is a row of the transaction t
--   is_running_own t r   and it is Running
use Rattle.std.specs.Prelude.{ℕ, ◌+◌, Bool, true, false, cond, ◌&&◌, List, map, length, Some, None, Ok, Err, Option, Result, ◌==◌, nat_le, nat_lt}
use Rattle.std.specs.Option.{unwrap_or}
use Rattle.base.specs.declared.refusal.Refusal.{Refusal}
use Rattle.base.specs.Refusals.{refused}
use Rattle.book.specs.Books.{largest_key}
use Rattle.lines.specs.declared.access.WriteLine.{WriteLine}
use Rattle.lines.specs.declared.row.Event.{Event}
use Rattle.lines.specs.declared.row.Event.TheVariants.{Abort, Commit}
use Rattle.lines.specs.declared.row.Row.{Row}
use Rattle.lines.specs.declared.row.State.{State}
use Rattle.lines.specs.declared.row.State.TheVariants as state
use Rattle.lines.specs.declared.transaction.Decision.{Decision}
use Rattle.lines.specs.declared.transaction.TheConstants.{LAST_NUMBER}
use Rattle.lines.specs.declared.transaction.Decision.TheVariants.{Committed, Aborted}
use Rattle.lines.specs.declared.transaction.Transaction.{Transaction}
use Rattle.protocol.specs.Model.{Model, transaction_of}
use Rattle.std.specs.Ordering.{nat_cmp}
use Rattle.std.specs.List.{list_any}

-- What a check passed on goes further; a refusal leaves the register as it stood.
abbrev pub after_check : {A B : Type 0} → Model → Result A Refusal → (A → Model × Result B Refusal) → Model × Result B Refusal
after_check m (Ok x) f = f x
after_check m (Err e) f = (m, Err e)

-- A test that is refused with a number where it is false.
abbrev pub check_that : Bool → ℕ → Result Unit Refusal
check_that b n = cond b (Ok tt) (refused n)

-- The largest number begun, 0 where there is none.
abbrev pub last_begun : Model → ℕ
last_begun m = unwrap_or (largest_key nat_cmp (map (λ x. x.number) m.transactions)) 0

-- A number above all that were begun, and at most the last number there is.
abbrev pub check_number : Model → ℕ → Result Unit Refusal
check_number m t = check_that (nat_lt (last_begun m) t && nat_le t LAST_NUMBER) 1

-- Whether a decision is still to come.
abbrev pub check_open_decision : Option Decision → Result Unit Refusal
check_open_decision None = Ok tt
check_open_decision (Some d) = refused 4

-- A transaction's line, where it was begun and is not decided.
abbrev pub check_open_line : Option Transaction → Result Unit Refusal
check_open_line None = refused 3
check_open_line (Some x) = check_open_decision x.decision

-- A transaction that was begun and is not decided.
abbrev pub check_open : Model → ℕ → Result Unit Refusal
check_open m t = check_open_line (transaction_of m t)

-- What a decision that was taken means for a row: it is settled as committed or as aborted.
abbrev pub event_of : Option Decision → Result Event Refusal
event_of None = refused 9
event_of (Some (Committed c)) = Ok (Commit c)
event_of (Some Aborted) = Ok Abort

-- The same of a transaction's line, where it was begun.
abbrev pub event_of_line : Option Transaction → Result Event Refusal
event_of_line None = refused 3
event_of_line (Some x) = event_of x.decision

-- The same of a transaction.
abbrev pub event_decided : Model → ℕ → Result Event Refusal
event_decided m t = event_of_line (transaction_of m t)

-- Whether a state is Running.
abbrev pub is_running : State → Bool
is_running state.Running = true
is_running state.Validated = false
is_running state.Committed = false
is_running state.Aborted = false

-- Whether a state is Aborted.
abbrev pub is_aborted : State → Bool
is_aborted state.Running = false
is_aborted state.Validated = false
is_aborted state.Committed = false
is_aborted state.Aborted = true

-- A row that is Running.
abbrev pub check_running : Row → Result Unit Refusal
check_running r = check_that (is_running r.state) 5

-- No row yet, or one that is Running.
abbrev pub check_not_stopped : Option Row → Result Unit Refusal
check_not_stopped None = Ok tt
check_not_stopped (Some r) = check_running r

-- What a check that also finds something lets pass.
abbrev pub check_alone : {A : Type 0} → Result A Refusal → Result Unit Refusal
check_alone (Ok x) = Ok tt
check_alone (Err e) = Err e

-- A write line of a transaction.
abbrev pub is_write_of : ℕ → WriteLine → Bool
is_write_of t w = w.transaction == t

-- The transaction has no write line, at any ground.
abbrev pub check_unwritten : Model → ℕ → Result Unit Refusal
check_unwritten m t = cond (list_any (is_write_of t) m.writes) (refused 7) (Ok tt)

-- A row of the transaction.
abbrev pub is_own : ℕ → Row → Bool
is_own t r = r.transaction == t

-- A row of the transaction that is Running.
abbrev pub is_running_own : ℕ → Row → Bool
is_running_own t r = is_own t r && is_running r.state

-- No row of the transaction, at any ground, is Running.
abbrev pub check_none_running : Model → ℕ → Result Unit Refusal
check_none_running m t = cond (list_any (is_running_own t) m.rows) (refused 8) (Ok tt)

-- Room for n more lines beside those there are.
abbrev pub has_room : {L : Type 0} → List L → ℕ → ℕ → Bool
has_room xs room n = nat_le (length xs + n) room

-- Room for so many more rows, read lines, write lines and notes.
abbrev pub check_room : Model → ℕ → ℕ → ℕ → ℕ → Result Unit Refusal
check_room m rows reads writes notes =
    check_that
    (has_room m.rows m.rooms.rows rows && (has_room m.reads m.rooms.reads reads
    && (has_room m.writes m.rooms.writes writes && has_room m.notes m.rooms.notes notes)))
    2
