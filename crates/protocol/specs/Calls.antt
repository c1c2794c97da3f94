-- The seven calls: the register and the answer after each, with its checks in their order.
--   begin, read, prewrite, validate, decide, withdraw, settle
--   step P m c                  the register and the response after the call c, under the policy P
--   register_after, responses   the register after some calls, and their responses
use Rattle.std.specs.Prelude.{ℕ, cond, List, [], ◌∷◌, ◌++◌, length, ℤ, Some, None, Ok, Err, Option, Result, int_lt}
use Rattle.std.specs.Option.{ok_or}
use Rattle.store.specs.declared.cell.Cell.{Cell}
use Rattle.base.specs.Keys.{ground_of}
use Rattle.base.specs.Refusals.{refusal}
use Rattle.base.specs.declared.refusal.Refusal.{Refusal}
use Rattle.base.specs.declared.stamp.Stamp.{Stamp}
use Rattle.lines.specs.LineKeys.{write_key, same_access}
use Rattle.lines.specs.Locks.{row_of}
use Rattle.lines.specs.Rows.{moved_row}
use Rattle.lines.specs.declared.access.ReadLine.{ReadLine}
use Rattle.lines.specs.declared.access.WriteLine.{WriteLine}
use Rattle.lines.specs.declared.row.Event.{Event}
use Rattle.lines.specs.declared.row.Row.{Row}
use Rattle.lines.specs.declared.transaction.Decision.{Decision}
use Rattle.lines.specs.declared.transaction.Decision.TheVariants.{Committed, Aborted}
use Rattle.protocol.specs.Checks.{
  has_room,
  after_check,
  check_that,
  check_open,
  event_decided,
  check_running,
  check_not_stopped,
  check_unwritten,
  check_none_running,
  check_room,
  check_number,
}
use Rattle.protocol.specs.Decisions.{decision_by, with_settlement, with_decision}
use Rattle.protocol.specs.Model.{Model, Chooses, with_transactions, with_writes, read_of, write_of, with_line}
use Rattle.protocol.specs.Replies.{Response}
use Rattle.protocol.specs.Noting.{new_rows, notes_of_read, notes_of_prewrite, with_read, with_prewrite}
use Rattle.protocol.specs.Among.{raised_above, lowered_below}
use Rattle.protocol.specs.Validation.{floors, ceilings, befores, afters, failed, passed}
use Rattle.protocol.specs.declared.call.Call.{Call}
use Rattle.protocol.specs.declared.call.Call.TheVariants.{Begin, Read, Prewrite, Validate, Decide, Withdraw, Settle}
use Rattle.protocol.specs.declared.call.Reply.{Reply}
use Rattle.protocol.specs.declared.call.Reply.TheVariants as reply

-- Checks 1 and 2; then an open transaction line.
abbrev pub begin : Model → ℕ → Model × Result Unit Refusal
begin m t =
    after_check m (check_number m t) (λ _.
    after_check m (check_that (has_room m.transactions m.rooms.transactions 1) 2) (λ _.
    (with_transactions m (m.transactions ++ record { number = t; decision = None } ∷ []), Ok tt)))

-- The end of a read, by the read line that is there already: a second read answers what the first did and writes nothing.
abbrev pub read_by : Option ReadLine → Model → ℕ → ℕ → Cell → Model × Result (ℤ × Stamp) Refusal
read_by (Some r) m t k c = (m, Ok (r.value, r.seen))
read_by None m t k c =
    after_check m (check_room m (length (new_rows m t k)) 1 0 (length (notes_of_read m t k))) (λ _.
    (with_read m t k c, Ok (c.value, c.write)))

-- Checks 3, 4, 11, 5, 7 and 2; then the cell's value and write stamp.
abbrev pub read : Model → ℕ → ℕ → Model × Result (ℤ × Stamp) Refusal
read m t k =
    after_check m (check_open m t) (λ _.
    after_check m (ok_or (m.cells k) (refusal 11)) (λ c.
    after_check m (check_not_stopped (row_of m.rows t (ground_of k))) (λ _.
    after_check m (check_unwritten m t) (λ _.
    read_by (read_of m t k) m t k c))))

-- The end of a prewrite, by the write line that is there already: a second prewrite only replaces the value.
abbrev pub prewrite_by : Option WriteLine → Model → ℕ → ℕ → ℤ → Model × Result Unit Refusal
prewrite_by (Some w) m t k v = (
  with_writes m (with_line same_access write_key (record { transaction = t; key = k })
      (record { transaction = t; key = k; value = v }) m.writes),
  Ok tt,
)
prewrite_by None m t k v =
    after_check m (check_room m (length (new_rows m t k)) 0 1 (length (notes_of_prewrite m t k))) (λ _.
    (with_prewrite m t k v, Ok tt))

-- Checks 3, 4, 11, 5 and 2; then a write line.
abbrev pub prewrite : Model → ℕ → ℕ → ℤ → Model × Result Unit Refusal
prewrite m t k v =
    after_check m (check_open m t) (λ _.
    after_check m (ok_or (m.cells k) (refusal 11)) (λ _.
    after_check m (check_not_stopped (row_of m.rows t (ground_of k))) (λ _.
    prewrite_by (write_of m t k) m t k v)))

-- A validation that passed, with the range that the policy chose.
abbrev pub passed_with : Model → ℕ → ℕ → Row → ℤ × ℤ → Model × Result (Option (ℤ × ℤ)) Refusal
passed_with m t g r range = (passed m t g r range, Ok (Some range))

-- The end of a validation, once it is known what is left of the row's range.
abbrev pub validate_in : Chooses → Model → ℕ → ℕ → Row → ℤ → ℤ → Model × Result (Option (ℤ × ℤ)) Refusal
validate_in P m t g r l u =
    cond (int_lt u l) (failed m t g r, Ok None) (passed_with m t g r (P l u (befores m t g) (afters m t g)))

-- Checks 3, 4, 6 and 5; then a range, or nothing where the row is Aborted.
abbrev pub validate : Chooses → Model → ℕ → ℕ → Model × Result (Option (ℤ × ℤ)) Refusal
validate P m t g =
    after_check m (check_open m t) (λ _.
    after_check m (ok_or (row_of m.rows t g) (refusal 6)) (λ r.
    after_check m (check_running r) (λ _.
    validate_in P m t g r (raised_above r.lower (floors m t g)) (lowered_below r.upper (ceilings m t g)))))

-- Checks 3, 4 and 8; then the decision.
abbrev pub decide : Model → ℕ → Model × Result Decision Refusal
decide m t =
    after_check m (check_open m t) (λ _.
    after_check m (check_none_running m t) (λ _.
    (with_decision m t (decision_by m t), Ok (decision_by m t))))

-- Checks 3 and 4; then the decision is Aborted.
abbrev pub withdraw : Model → ℕ → Model × Result Unit Refusal
withdraw m t = after_check m (check_open m t) (λ _. (with_decision m t Aborted, Ok tt))

-- The end of a settlement, by what the row answers to its event: refusal 10 where it is finished already, and 8 where no run comes.
abbrev pub settle_by : Result Unit Refusal → Model → ℕ → ℕ → Row → Event → Model × Result Unit Refusal
settle_by (Ok u) m t g r e = (with_settlement m t g r e, Ok tt)
settle_by (Err x) m t g r e = (m, Err x)

-- Checks 3, 9, 6 and 10; then the row is finished, and a committed transaction's stamp and values go into the cells that it read and
-- wrote here, where its stamp is the larger.
abbrev pub settle : Model → ℕ → ℕ → Model × Result Unit Refusal
settle m t g =
    after_check m (event_decided m t) (λ e.
    after_check m (ok_or (row_of m.rows t g) (refusal 6)) (λ r.
    settle_by (moved_row r e).1 m t g r e))

-- An answer that is accepted is told as a reply; a refusal stays one.
abbrev pub response_by : {A : Type 0} → (A → Reply) → Result A Refusal → Response
response_by f (Ok x) = Ok (f x)
response_by f (Err e) = Err e

-- A call that answers no more than that it was done.
abbrev pub done_response : Result Unit Refusal → Response
done_response = response_by (λ _. reply.Done)

-- What a read is answered.
abbrev pub value_response : Result (ℤ × Stamp) Refusal → Response
value_response = response_by (λ p. reply.Value p.0 p.1)

-- A range, or that the row is Aborted.
abbrev pub range_reply : Option (ℤ × ℤ) → Reply
range_reply None = reply.Aborted
range_reply (Some p) = reply.Range p.0 p.1

-- What a validation is answered.
abbrev pub verdict_response : Result (Option (ℤ × ℤ)) Refusal → Response
verdict_response = response_by range_reply

-- A decision that was taken.
abbrev pub decision_reply : Decision → Reply
decision_reply (Committed c) = reply.Committed c
decision_reply Aborted = reply.Aborted

-- What a decide is answered.
abbrev pub decide_response : Result Decision Refusal → Response
decide_response = response_by decision_reply

-- What a withdrawal is answered.
abbrev pub withdraw_response : Result Unit Refusal → Response
withdraw_response = response_by (λ _. reply.Aborted)

-- The register after a call, with the call's answer as a response.
abbrev pub with_response : {A : Type 0} → (A → Response) → Model × A → Model × Response
with_response f p = (p.0, f p.1)

-- One call.
abbrev pub step : Chooses → Model → Call → Model × Response
step P m (Begin t) = with_response done_response (begin m t)
step P m (Read t k) = with_response value_response (read m t k)
step P m (Prewrite t k v) = with_response done_response (prewrite m t k v)
step P m (Validate t g) = with_response verdict_response (validate P m t g)
step P m (Decide t) = with_response decide_response (decide m t)
step P m (Withdraw t) = with_response withdraw_response (withdraw m t)
step P m (Settle t g) = with_response done_response (settle m t g)

-- The register after some calls.
abbrev pub register_after : Chooses → Model → List Call → Model
register_after P m [] = m
register_after P m (c ∷ cs) = register_after P (step P m c).0 cs

-- Their responses.
abbrev pub responses : Chooses → Model → List Call → List Response
responses P m [] = []
responses P m (c ∷ cs) = (step P m c).1 ∷ responses P (step P m c).0 cs
