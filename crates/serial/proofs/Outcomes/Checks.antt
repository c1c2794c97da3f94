-- A check of a call is refused and nothing changes, or the call goes on with what the check passed.
--   Outcome                an outcome of a call
--   after_cases            a check is refused, or goes on with what it passed
--   cell_some, here_some   the cell, and the row, that a check passes on
--   running_is             a row that passed the check is Running
use Rattle.std.proofs.Common.{◌≡◌, Some, None, Ok, Err, Option, Result, refl}
use Rattle.std.specs.Option.{ok_or}
use Rattle.base.specs.Refusals.{refusal}
use Rattle.store.specs.declared.cell.Cell.{Cell}
use Rattle.base.specs.declared.refusal.Refusal.{Refusal}
use Rattle.lines.specs.declared.row.Row.{Row}
use Rattle.lines.specs.declared.row.State.{State}
use Rattle.lines.specs.declared.row.State.TheVariants.{Running, Validated, Committed, Aborted}
use Rattle.protocol.specs.Checks.{is_running, after_check, check_that, check_running}
use Rattle.protocol.specs.Model.{Model}

-- An outcome of a call that answers a B.
abbrev pub Outcome : Type 0 → Type 0
Outcome B = Model × Result B Refusal

-- A check is refused, or goes on with what it passed.
pub after_cases : {A B : Type 0} (Q : Outcome B → Type 0) (m : Model) (x : Result A Refusal) (f : A → Outcome B)
    → ((e : Refusal) → Q (m, Err e)) → ((a : A) → x ≡ Ok a → Q (f a)) → Q (after_check m x f)
after_cases Q m (Ok a) f no_way go_on = go_on a refl
after_cases Q m (Err e) f no_way go_on = no_way e

-- The cell that the check passes on.
pub cell_some : (o : Option Cell) (c : Cell) → ok_or o (refusal 11) ≡ Ok c → o ≡ Some c
cell_some None c e = absurd cc
cell_some (Some x) c e = cc

-- The row that the check passes on.
pub here_some : (o : Option Row) (r : Row) → ok_or o (refusal 6) ≡ Ok r → o ≡ Some r
here_some None r e = absurd cc
here_some (Some x) r e = cc

-- A row that passed the check is Running.
pub running_is : (r : Row) → check_running r ≡ Ok tt → r.state ≡ Running
running_is r e = go r.state e
  where
    go : (s : State) → check_that (is_running s) 5 ≡ Ok tt → s ≡ Running
    go Running q = refl
    go Validated q = absurd cc
    go Committed q = absurd cc
    go Aborted q = absurd cc
