-- The worked cases of docs/cases.md, as calls with the responses that were worked out by hand.
use Rattle.std.specs.Prelude.{List, [], ◌∷◌, pos, negsuc}
use Rattle.policy.specs.Ranges.{whole_range, near_range}
use Rattle.protocol.specs.declared.call.Call.TheVariants.{Begin, Read, Prewrite, Validate, Decide, Settle}
use Rattle.protocol.specs.Cases.{Case, cell, full, top, value, range, commit, abort, ok}

-- A reader alone: 1 to TOP, commit at 1.
abbrev pub reader_alone : Case
reader_alone = record {
  cells = (0, cell (pos 0) 0 0) ∷ [];
  rooms = full;
  policy = whole_range;
  script =
      (Begin 1, ok) ∷ (Read 1 0, value (pos 0) 0) ∷ (Validate 1 0, range 1 top) ∷ (Decide 1, commit 1) ∷ [];
  ends = [];
}

-- That settled, a second transaction writes -7: 2 to TOP, commit at 2.
abbrev pub writer_after : Case
writer_after = record {
  cells = (0, cell (pos 0) 0 0) ∷ [];
  rooms = full;
  policy = whole_range;
  script =
      (Begin 1, ok) ∷ (Read 1 0, value (pos 0) 0) ∷ (Validate 1 0, range 1 top) ∷ (Decide 1, commit 1) ∷
      (Settle 1 0, ok) ∷ (Begin 2, ok) ∷ (Prewrite 2 0 (negsuc 6), ok) ∷ (Validate 2 0, range 2 top) ∷
      (Decide 2, commit 2) ∷ (Settle 2 0, ok) ∷ [];
  ends = (0, ((negsuc 6), 2, 1)) ∷ [];
}

-- A reader beside a Validated writer at 124 to 140, on a cell with write stamp 101: 102 to 123.
abbrev pub beside_validated : Case
beside_validated = record {
  cells = (0, cell (pos 8) 101 123) ∷ (4, cell (pos 0) 0 140) ∷ [];
  rooms = full;
  policy = whole_range;
  script =
      (Begin 1, ok) ∷ (Prewrite 1 4 (pos 5), ok) ∷ (Validate 1 0, range 141 top) ∷ (Begin 2, ok) ∷
      (Read 2 4, value (pos 0) 0) ∷ (Prewrite 2 0 (pos 9), ok) ∷ (Validate 2 0, range 124 140) ∷ (Begin 3, ok) ∷
      (Read 3 0, value (pos 8) 101) ∷ (Validate 3 0, range 102 123) ∷ [];
  ends = [];
}

-- Read stamp 74 and write stamp 70: the lower of a writer is 75.
abbrev pub writer_after_readers : Case
writer_after_readers = record {
  cells = (0, cell (pos 0) 70 74) ∷ [];
  rooms = full;
  policy = whole_range;
  script =
      (Begin 1, ok) ∷ (Prewrite 1 0 (pos 5), ok) ∷ (Validate 1 0, range 75 top) ∷ [];
  ends = [];
}

-- A reader and a writer at once, under Whole: the writer is Aborted.
abbrev pub reader_writer_whole : Case
reader_writer_whole = record {
  cells = (0, cell (pos 0) 0 0) ∷ [];
  rooms = full;
  policy = whole_range;
  script =
      (Begin 1, ok) ∷ (Begin 2, ok) ∷ (Read 1 0, value (pos 0) 0) ∷ (Prewrite 2 0 (pos 7), ok) ∷
      (Validate 1 0, range 1 top) ∷ (Validate 2 0, abort) ∷ [];
  ends = [];
}

-- The same under Near: 1 to 1,024 and 1,025 to TOP.
abbrev pub reader_writer_near : Case
reader_writer_near = record {
  cells = (0, cell (pos 0) 0 0) ∷ [];
  rooms = full;
  policy = near_range;
  script =
      (Begin 1, ok) ∷ (Begin 2, ok) ∷ (Read 1 0, value (pos 0) 0) ∷ (Prewrite 2 0 (pos 7), ok) ∷
      (Validate 1 0, range 1 1024) ∷ (Validate 2 0, range 1025 top) ∷ [];
  ends = [];
}

-- Two writers under Near, settled the other way round: the larger stamp keeps its value.
abbrev pub two_writers : Case
two_writers = record {
  cells = (0, cell (pos 0) 0 0) ∷ [];
  rooms = full;
  policy = near_range;
  script =
      (Begin 1, ok) ∷ (Begin 2, ok) ∷ (Prewrite 1 0 (pos 10), ok) ∷ (Prewrite 2 0 (pos 20), ok) ∷
      (Validate 2 0, range 1 1024) ∷ (Validate 1 0, range 1025 top) ∷ (Decide 1, commit 1025) ∷ (Decide 2, commit 1) ∷
      (Settle 1 0, ok) ∷ (Settle 2 0, ok) ∷ [];
  ends = (0, ((pos 10), 1025, 0)) ∷ [];
}

-- Ranges at two grounds that do not meet: decide aborts.
abbrev pub ranges_apart : Case
ranges_apart = record {
  cells = (0, cell (pos 0) 0 0) ∷ (8192, cell (pos 0) 0 0) ∷ [];
  rooms = full;
  policy = near_range;
  script =
      (Begin 1, ok) ∷ (Begin 2, ok) ∷ (Read 1 0, value (pos 0) 0) ∷ (Read 2 8192, value (pos 0) 0) ∷
      (Prewrite 1 8192 (pos 5), ok) ∷ (Prewrite 2 0 (pos 6), ok) ∷ (Validate 1 0, range 1 1024) ∷
      (Validate 2 1, range 1 1024) ∷ (Validate 1 1, range 1025 top) ∷ (Decide 1, abort) ∷ [];
  ends = [];
}

-- Write stamp TOP: a reader is Aborted.
abbrev pub last_stamp_taken : Case
last_stamp_taken = record {
  cells = (0, cell (pos 3) top 0) ∷ [];
  rooms = full;
  policy = whole_range;
  script =
      (Begin 1, ok) ∷ (Read 1 0, value (pos 3) top) ∷ (Validate 1 0, abort) ∷ (Decide 1, abort) ∷ [];
  ends = [];
}

-- Write stamp TOP - 1: a reader gets TOP to TOP.
abbrev pub last_stamp_left : Case
last_stamp_left = record {
  cells = (0, cell (pos 3) 268435454 0) ∷ [];
  rooms = full;
  policy = whole_range;
  script =
      (Begin 1, ok) ∷ (Read 1 0, value (pos 3) 268435454) ∷ (Validate 1 0, range top top) ∷ (Decide 1, commit top) ∷ [];
  ends = [];
}

-- All of these days.
abbrev pub worked_days : List Case
worked_days =
    reader_alone ∷ writer_after ∷ beside_validated ∷ writer_after_readers ∷ reader_writer_whole ∷ reader_writer_near ∷
    two_writers ∷ ranges_apart ∷ last_stamp_taken ∷ last_stamp_left ∷ []
