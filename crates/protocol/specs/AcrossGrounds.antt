-- Days that cross grounds and settle late; the answers are worked out by hand.
use Rattle.std.specs.Prelude.{List, [], ◌∷◌, pos, negsuc}
use Rattle.policy.specs.Ranges.{whole_range, near_range}
use Rattle.protocol.specs.declared.call.Call.TheVariants.{Begin, Read, Prewrite, Validate, Decide, Settle}
use Rattle.protocol.specs.Cases.{Case, cell, full, top, value, range, commit, abort, ok}

-- A settlement that comes late at one ground: a reader there commits below the writer that is not settled yet.
abbrev pub late_settlement : Case
late_settlement = record {
  cells = (0, cell (pos 7) 50 0) ∷ (8192, cell (pos 9) 0 80) ∷ [];
  rooms = full;
  policy = whole_range;
  script =
      (Begin 1, ok) ∷ (Read 1 0, value (pos 7) 50) ∷ (Prewrite 1 8192 (pos 5), ok) ∷
      (Validate 1 0, range 51 top) ∷ (Validate 1 1, range 81 top) ∷ (Decide 1, commit 81) ∷ (Settle 1 0, ok) ∷
      (Begin 2, ok) ∷ (Read 2 8192, value (pos 9) 0) ∷ (Validate 2 1, range 1 80) ∷ (Decide 2, commit 1) ∷
      (Settle 2 1, ok) ∷ (Settle 1 1, ok) ∷ [];
  ends = (0, ((pos 7), 50, 81)) ∷ (8192, ((pos 5), 81, 80)) ∷ [];
}

-- Two transactions cross two grounds, one settles late, and a third reads between them.
abbrev pub third_between : Case
third_between = record {
  cells = (0, cell (pos 1) 10 10) ∷ (8192, cell (pos 2) 20 20) ∷ [];
  rooms = full;
  policy = near_range;
  script =
      (Begin 1, ok) ∷ (Begin 2, ok) ∷ (Prewrite 1 0 (pos 11), ok) ∷ (Prewrite 1 8192 (pos 12), ok) ∷
      (Validate 1 0, range 11 top) ∷ (Validate 1 1, range 21 top) ∷ (Decide 1, commit 21) ∷ (Settle 1 0, ok) ∷
      (Begin 3, ok) ∷ (Read 3 0, value (pos 11) 21) ∷ (Read 3 8192, value (pos 2) 20) ∷
      (Validate 3 0, range 22 top) ∷ (Validate 3 1, abort) ∷ (Decide 3, abort) ∷ (Settle 3 0, ok) ∷
      (Prewrite 2 8192 (pos 13), ok) ∷ (Prewrite 2 0 (pos 14), ok) ∷ (Validate 2 0, range 22 top) ∷
      (Settle 1 1, ok) ∷ (Validate 2 1, range 22 top) ∷ (Decide 2, commit 22) ∷ (Settle 2 1, ok) ∷
      (Settle 2 0, ok) ∷ [];
  ends = (0, ((pos 14), 22, 10)) ∷ (8192, ((pos 13), 22, 20)) ∷ [];
}

-- Key 0 is at ground 0, key 8,192 at ground 1. Transactions 1 and 2 write both; between them 3 reads what 1 wrote at ground 0. At
-- ground 1 transaction 1 is settled late, after 3 has read, committed and been settled.
abbrev pub crossing : Case
crossing = record {
  cells = (0, cell (pos 0) 0 0) ∷ (8192, cell (pos 0) 0 0) ∷ [];
  rooms = full;
  policy = near_range;
  script =
      (Begin 1, ok) ∷ (Begin 2, ok) ∷ (Prewrite 1 0 (pos 10), ok) ∷ (Prewrite 1 8192 (negsuc 10), ok) ∷
      (Validate 1 0, range 1 top) ∷ (Validate 1 1, range 1 top) ∷ (Decide 1, commit 1) ∷ (Settle 1 0, ok) ∷ (Begin 3, ok) ∷
      (Read 3 0, value (pos 10) 1) ∷ (Validate 3 0, range 2 top) ∷ (Decide 3, commit 2) ∷ (Settle 3 0, ok) ∷
      (Prewrite 2 0 (pos 20), ok) ∷ (Prewrite 2 8192 (pos 21), ok) ∷ (Settle 1 1, ok) ∷ (Validate 2 0, range 3 top) ∷
      (Validate 2 1, range 2 top) ∷ (Decide 2, commit 3) ∷ (Settle 2 0, ok) ∷ (Settle 2 1, ok) ∷ [];
  ends = (0, ((pos 20), 3, 2)) ∷ (8192, ((pos 21), 3, 0)) ∷ [];
}

-- A transaction that touches all eight grounds.
abbrev pub all_grounds : Case
all_grounds = record {
  cells =
      (0, cell (pos 0) 0 0) ∷ (8192, cell (pos 1) 1 0) ∷ (16384, cell (pos 2) 2 0) ∷ (24576, cell (pos 3) 3 0) ∷
      (32768, cell (pos 4) 4 0) ∷ (40960, cell (pos 5) 5 0) ∷ (49152, cell (pos 6) 6 0) ∷ (57344, cell (pos 7) 7 0) ∷ [];
  rooms = full;
  policy = near_range;
  script =
      (Begin 1, ok) ∷ (Read 1 0, value (pos 0) 0) ∷ (Read 1 8192, value (pos 1) 1) ∷
      (Read 1 16384, value (pos 2) 2) ∷ (Read 1 24576, value (pos 3) 3) ∷ (Read 1 32768, value (pos 4) 4) ∷
      (Read 1 40960, value (pos 5) 5) ∷ (Read 1 49152, value (pos 6) 6) ∷ (Read 1 57344, value (pos 7) 7) ∷
      (Validate 1 0, range 1 top) ∷ (Validate 1 1, range 2 top) ∷ (Validate 1 2, range 3 top) ∷
      (Validate 1 3, range 4 top) ∷ (Validate 1 4, range 5 top) ∷ (Validate 1 5, range 6 top) ∷
      (Validate 1 6, range 7 top) ∷ (Validate 1 7, range 8 top) ∷ (Decide 1, commit 8) ∷ (Settle 1 0, ok) ∷
      (Settle 1 1, ok) ∷ (Settle 1 2, ok) ∷ (Settle 1 3, ok) ∷ (Settle 1 4, ok) ∷ (Settle 1 5, ok) ∷
      (Settle 1 6, ok) ∷ (Settle 1 7, ok) ∷ [];
  ends = (0, ((pos 0), 0, 8)) ∷ (57344, ((pos 7), 7, 8)) ∷ [];
}

-- Two transactions that share no cell commit at one stamp.
abbrev pub equal_stamps : Case
equal_stamps = record {
  cells = (0, cell (pos 0) 4 0) ∷ (8192, cell (pos 0) 4 0) ∷ [];
  rooms = full;
  policy = whole_range;
  script =
      (Begin 1, ok) ∷ (Begin 2, ok) ∷ (Prewrite 2 8192 (pos 22), ok) ∷ (Prewrite 1 0 (pos 11), ok) ∷
      (Validate 1 0, range 5 top) ∷ (Validate 2 1, range 5 top) ∷ (Decide 2, commit 5) ∷ (Decide 1, commit 5) ∷
      (Settle 1 0, ok) ∷ (Settle 2 1, ok) ∷ [];
  ends = (0, ((pos 11), 5, 0)) ∷ (8192, ((pos 22), 5, 0)) ∷ [];
}

-- All of them.
abbrev pub across_grounds : List Case
across_grounds =
    late_settlement ∷ third_between ∷ crossing ∷ all_grounds ∷ equal_stamps ∷ []
