-- What calls through a ticket answer, as the calls themselves would.
--   begun r       a begin's answer without its ticket
--   decided r     a decide's answer without slip and ticket
--   withdrawn r   a withdrawal's answer without slip and ticket
use Rattle.std.specs.Prelude.{Ok, Err, Result}
use Rattle.base.specs.declared.refusal.Refusal.{Refusal}
use Rattle.lines.specs.declared.transaction.Decision.{Decision}
use Rattle.client.specs.declared.slip.Slip.{Slip}
use Rattle.client.specs.declared.ticket.Ticket.{Ticket}

-- That it was begun, or the refusal.
abbrev pub begun : Result Ticket Refusal → Result Unit Refusal
begun (Ok ticket) = Ok tt
begun (Err e) = Err e

-- The decision, or the refusal.
abbrev pub decided : Result (Decision × Slip) (Ticket × Refusal) → Result Decision Refusal
decided (Ok p) = Ok p.0
decided (Err p) = Err p.1

-- That it was withdrawn, or the refusal.
abbrev pub withdrawn : Result Slip (Ticket × Refusal) → Result Unit Refusal
withdrawn (Ok slip) = Ok tt
withdrawn (Err p) = Err p.1
