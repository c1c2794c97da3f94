-- The one table of refusals: each has a number and a text.
--   number_of r      the number that a refusal answers
--   refusal n        the refusal of the number n
--   refused n        what a call answers that is refused with n
--   refusal_text r   the bytes of the text that says why
use Rattle.std.specs.Prelude.{ℕ, cond, List, Err, Result, codes, ◌==◌}
use Rattle.base.specs.declared.refusal.Refusal.{Refusal}
use Rattle.base.specs.declared.refusal.Refusal.TheVariants.{
  BadNumber,
  NoRoom,
  NeverBegun,
  AlreadyDecided,
  NotRunning,
  NoRow,
  ReadAfterPrewrite,
  StillRunning,
  NotDecided,
  AlreadySettled,
  NoSuchKey,
  Malformed,
  BadStore,
}

-- The number of each refusal.
abbrev pub number_of : Refusal → ℕ
number_of BadNumber = 1
number_of NoRoom = 2
number_of NeverBegun = 3
number_of AlreadyDecided = 4
number_of NotRunning = 5
number_of NoRow = 6
number_of ReadAfterPrewrite = 7
number_of StillRunning = 8
number_of NotDecided = 9
number_of AlreadySettled = 10
number_of NoSuchKey = 11
number_of Malformed = 12
number_of BadStore = 13

-- The refusal of a number from 1 to 13, by which promises name it.
abbrev pub refusal : ℕ → Refusal
refusal n =
    cond (n == 1) BadNumber
    (cond (n == 2) NoRoom
    (cond (n == 3) NeverBegun
    (cond (n == 4) AlreadyDecided
    (cond (n == 5) NotRunning
    (cond (n == 6) NoRow
    (cond (n == 7) ReadAfterPrewrite
    (cond (n == 8) StillRunning
    (cond (n == 9) NotDecided
    (cond (n == 10) AlreadySettled
    (cond (n == 11) NoSuchKey
    (cond (n == 12) Malformed BadStore)))))))))))

-- Refused with a number.
abbrev pub refused : {A : Type 0} → ℕ → Result A Refusal
refused n = Err (refusal n)

-- What each refusal says.
abbrev pub refusal_text : Refusal → List ℕ
refusal_text BadNumber = codes "the number is not from 1 to 4,095, or not above every number begun before"
refusal_text NoRoom = codes "a book cannot take all the lines that the call would write"
refusal_text NeverBegun = codes "the transaction was never begun"
refusal_text AlreadyDecided = codes "the transaction is decided already"
refusal_text NotRunning = codes "the transaction has a row at this ground that is not Running"
refusal_text NoRow = codes "the transaction has no row at this ground"
refusal_text ReadAfterPrewrite = codes "the transaction has prewritten before"
refusal_text StillRunning = codes "a row of the transaction is still Running"
refusal_text NotDecided = codes "the transaction is not decided yet"
refusal_text AlreadySettled = codes "the row is Committed or Aborted already"
refusal_text NoSuchKey = codes "the store has no such key"
refusal_text Malformed = codes "the words begin with no message"
refusal_text BadStore = codes "this makes no good store"
