-- Days that meet every refusal that a call can give, each in its place among the checks; the answers are worked out by hand.
use Rattle.std.specs.Prelude.{List, [], ◌∷◌, pos}
use Rattle.policy.specs.Ranges.{whole_range, near_range}
use Rattle.base.specs.Refusals.{refused}
use Rattle.protocol.specs.declared.call.Call.TheVariants.{Begin, Read, Prewrite, Validate, Decide, Withdraw, Settle}
use Rattle.protocol.specs.Cases.{Case, cell, full, top, value, range, commit, abort, ok}

-- Numbers rise, from 1 to 4,095.
abbrev pub numbers : Case
numbers = record {
  cells = [];
  rooms = full;
  policy = whole_range;
  script =
      (Begin 0, refused 1) ∷ (Begin 5, ok) ∷ (Begin 5, refused 1) ∷ (Begin 3, refused 1) ∷
      (Begin 4096, refused 1) ∷ (Begin 4095, ok) ∷ (Begin 4095, refused 1) ∷ [];
  ends = [];
}

-- No call but begin knows a transaction that was never begun.
abbrev pub never_begun : Case
never_begun = record {
  cells = (0, cell (pos 0) 0 0) ∷ [];
  rooms = full;
  policy = whole_range;
  script =
      (Begin 2, ok) ∷ (Read 1 0, refused 3) ∷ (Prewrite 1 0 (pos 1), refused 3) ∷
      (Validate 1 0, refused 3) ∷ (Decide 1, refused 3) ∷ (Withdraw 1, refused 3) ∷
      (Settle 1 0, refused 3) ∷ (Decide 2, commit 0) ∷ (Read 2 0, refused 4) ∷
      (Prewrite 2 0 (pos 1), refused 4) ∷ (Validate 2 0, refused 4) ∷
      (Decide 2, refused 4) ∷ (Withdraw 2, refused 4) ∷ (Settle 2 0, refused 6) ∷ [];
  ends = [];
}

-- A key outside the store is met before a row that is not Running, and that before an earlier prewrite.
abbrev pub order_of_checks : Case
order_of_checks = record {
  cells = (0, cell (pos 0) 0 0) ∷ (4, cell (pos 0) 0 0) ∷ (8192, cell (pos 0) 0 0) ∷ [];
  rooms = full;
  policy = whole_range;
  script =
      (Begin 1, ok) ∷ (Read 1 8, refused 11) ∷ (Prewrite 1 8 (pos 1), refused 11) ∷
      (Validate 1 0, refused 6) ∷ (Settle 1 0, refused 9) ∷ (Prewrite 1 0 (pos 1), ok) ∷
      (Read 1 8192, refused 7) ∷ (Validate 1 8, refused 6) ∷ (Decide 1, refused 8) ∷
      (Validate 1 0, range 1 top) ∷ (Read 1 8, refused 11) ∷ (Prewrite 1 8 (pos 1), refused 11) ∷
      (Read 1 4, refused 5) ∷ (Prewrite 1 4 (pos 1), refused 5) ∷ (Validate 1 0, refused 5) ∷
      (Read 1 8192, refused 7) ∷ (Settle 1 0, refused 9) ∷ (Decide 1, commit 1) ∷
      (Settle 1 1, refused 6) ∷ (Settle 1 0, ok) ∷ (Settle 1 0, refused 10) ∷
      (Settle 1 7, refused 6) ∷ [];
  ends = (0, ((pos 1), 1, 0)) ∷ (4, ((pos 0), 0, 0)) ∷ [];
}

-- Where two checks fail, the earlier one answers: 1, 3, 4, 5, 7 and 11 before there is no room.
abbrev pub earlier_check : Case
earlier_check = record {
  cells = (0, cell (pos 0) 0 0) ∷ (4, cell (pos 0) 0 0) ∷ [];
  rooms = record { transactions = 2; rows = 1; reads = 1; writes = 1; notes = 0 };
  policy = whole_range;
  script =
      (Read 1 8, refused 3) ∷ (Prewrite 1 8 (pos 1), refused 3) ∷ (Begin 1, ok) ∷ (Begin 2, ok) ∷
      (Begin 2, refused 1) ∷ (Begin 3, refused 2) ∷ (Read 1 0, value (pos 0) 0) ∷ (Read 2 8, refused 11) ∷
      (Read 2 0, refused 2) ∷ (Prewrite 1 0 (pos 5), ok) ∷ (Read 1 4, refused 7) ∷
      (Prewrite 1 4 (pos 6), refused 2) ∷ (Validate 1 0, range 1 top) ∷ (Read 1 4, refused 5) ∷
      (Prewrite 1 4 (pos 6), refused 5) ∷ (Prewrite 2 8 (pos 1), refused 11) ∷
      (Prewrite 2 0 (pos 1), refused 2) ∷ (Withdraw 1, abort) ∷ (Read 1 8, refused 4) ∷
      (Prewrite 1 8 (pos 1), refused 4) ∷ (Settle 1 0, ok) ∷ (Decide 2, commit 0) ∷ [];
  ends = (0, ((pos 0), 0, 0)) ∷ [];
}

-- A row that its validation made Aborted takes no access and no settlement; the decision waits for the other row all the same.
abbrev pub one_row_aborted : Case
one_row_aborted = record {
  cells = (0, cell (pos 0) top 0) ∷ (8192, cell (pos 0) 0 0) ∷ [];
  rooms = full;
  policy = whole_range;
  script =
      (Begin 1, ok) ∷ (Read 1 0, value (pos 0) top) ∷ (Read 1 8192, value (pos 0) 0) ∷ (Validate 1 0, abort) ∷
      (Read 1 0, refused 5) ∷ (Prewrite 1 0 (pos 1), refused 5) ∷ (Validate 1 0, refused 5) ∷
      (Settle 1 0, refused 9) ∷ (Decide 1, refused 8) ∷ (Validate 1 1, range 1 top) ∷ (Decide 1, abort) ∷
      (Settle 1 0, refused 10) ∷ (Settle 1 1, ok) ∷ [];
  ends = (0, ((pos 0), top, 0)) ∷ (8192, ((pos 0), 0, 0)) ∷ [];
}

-- A second read answers what the first did, though the cell has changed; after a prewrite anywhere it is refused.
abbrev pub read_again : Case
read_again = record {
  cells = (0, cell (pos 0) 0 0) ∷ (8192, cell (pos 0) 0 0) ∷ [];
  rooms = full;
  policy = near_range;
  script =
      (Begin 1, ok) ∷ (Read 1 0, value (pos 0) 0) ∷ (Begin 2, ok) ∷ (Prewrite 2 0 (pos 50), ok) ∷
      (Validate 2 0, range 1 1024) ∷ (Decide 2, commit 1) ∷ (Settle 2 0, ok) ∷ (Read 1 0, value (pos 0) 0) ∷
      (Prewrite 1 8192 (pos 5), ok) ∷ (Read 1 0, refused 7) ∷ (Validate 1 0, abort) ∷
      (Validate 1 1, range 1 top) ∷ (Decide 1, abort) ∷ (Settle 1 0, refused 10) ∷ (Settle 1 1, ok) ∷ [];
  ends = (0, ((pos 50), 1, 0)) ∷ (8192, ((pos 0), 0, 0)) ∷ [];
}

-- A second prewrite of a key replaces the value and writes no note: the first writer's cell has the later value.
abbrev pub prewrite_replaced : Case
prewrite_replaced = record {
  cells = (0, cell (pos 0) 0 0) ∷ [];
  rooms = full;
  policy = near_range;
  script =
      (Begin 1, ok) ∷ (Begin 2, ok) ∷ (Prewrite 1 0 (pos 10), ok) ∷ (Prewrite 2 0 (pos 20), ok) ∷
      (Prewrite 1 0 (pos 11), ok) ∷ (Validate 1 0, range 1 1024) ∷ (Validate 2 0, range 1025 top) ∷
      (Decide 2, commit 1025) ∷ (Decide 1, commit 1) ∷ (Settle 1 0, ok) ∷ [];
  ends = (0, ((pos 11), 1, 0)) ∷ [];
}

-- The same day to its end: the second writer settles, and its stamp is larger.
abbrev pub prewrite_again : Case
prewrite_again = record {
  cells = (0, cell (pos 0) 0 0) ∷ [];
  rooms = full;
  policy = near_range;
  script =
      (Begin 1, ok) ∷ (Begin 2, ok) ∷ (Prewrite 1 0 (pos 10), ok) ∷ (Prewrite 2 0 (pos 20), ok) ∷
      (Prewrite 1 0 (pos 11), ok) ∷ (Validate 1 0, range 1 1024) ∷ (Validate 2 0, range 1025 top) ∷
      (Decide 2, commit 1025) ∷ (Decide 1, commit 1) ∷ (Settle 1 0, ok) ∷ (Settle 2 0, ok) ∷ [];
  ends = (0, ((pos 20), 1025, 0)) ∷ [];
}

-- A book without room refuses before anything is written; a second read or prewrite needs no line.
abbrev pub little_room : Case
little_room = record {
  cells = (0, cell (pos 0) 0 0) ∷ (4, cell (pos 0) 0 0) ∷ [];
  rooms = record { transactions = 2; rows = 2; reads = 1; writes = 1; notes = 0 };
  policy = whole_range;
  script =
      (Begin 1, ok) ∷ (Begin 2, ok) ∷ (Begin 3, refused 2) ∷ (Read 1 0, value (pos 0) 0) ∷
      (Read 1 0, value (pos 0) 0) ∷ (Read 1 4, refused 2) ∷ (Prewrite 2 0 (pos 5), refused 2) ∷
      (Prewrite 2 4 (pos 5), ok) ∷ (Prewrite 2 4 (pos 6), ok) ∷ (Prewrite 1 4 (pos 7), refused 2) ∷
      (Validate 1 0, range 1 top) ∷ (Validate 2 0, range 1 top) ∷ (Decide 1, commit 1) ∷ (Decide 2, commit 1) ∷
      (Settle 2 0, ok) ∷ (Settle 1 0, ok) ∷ [];
  ends = (0, ((pos 0), 0, 1)) ∷ (4, ((pos 6), 1, 0)) ∷ [];
}

-- The row book alone refuses, then the book of notes alone, while other calls still find room; a lock that fell needs no note.
abbrev pub room_of_each_book : Case
room_of_each_book = record {
  cells = (0, cell (pos 0) 0 0) ∷ (4, cell (pos 0) 0 0) ∷ (8192, cell (pos 0) 0 0) ∷ [];
  rooms = record { transactions = 3; rows = 3; reads = 9; writes = 9; notes = 2 };
  policy = near_range;
  script =
      (Begin 1, ok) ∷ (Begin 2, ok) ∷ (Begin 3, ok) ∷ (Prewrite 1 0 (pos 10), ok) ∷ (Prewrite 2 0 (pos 20), ok) ∷
      (Read 3 4, value (pos 0) 0) ∷ (Read 3 8192, refused 2) ∷ (Prewrite 1 8192 (pos 11), refused 2) ∷
      (Read 3 0, refused 2) ∷ (Prewrite 3 0 (pos 30), refused 2) ∷ (Withdraw 1, abort) ∷ (Settle 1 0, ok) ∷
      (Read 3 0, value (pos 0) 0) ∷ (Validate 2 0, range 1 1024) ∷ (Validate 3 0, abort) ∷ (Decide 2, commit 1) ∷
      (Settle 2 0, ok) ∷ [];
  ends = (0, ((pos 20), 1, 0)) ∷ (8192, ((pos 0), 0, 0)) ∷ [];
}

-- All of them.
abbrev pub refused_calls : List Case
refused_calls =
    numbers ∷ never_begun ∷ order_of_checks ∷ earlier_check ∷ one_row_aborted ∷
    read_again ∷ prewrite_replaced ∷ prewrite_again ∷ little_room ∷ room_of_each_book ∷ []
