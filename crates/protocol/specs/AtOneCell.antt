-- Days on which transactions meet at one cell; the answers are worked out by hand.
use Rattle.std.specs.Prelude.{List, [], ◌∷◌, pos}
use Rattle.policy.specs.Ranges.{whole_range, near_range}
use Rattle.base.specs.Refusals.{refused}
use Rattle.protocol.specs.declared.call.Call.TheVariants.{Begin, Read, Prewrite, Validate, Decide, Withdraw, Settle}
use Rattle.protocol.specs.Cases.{Case, cell, full, top, value, range, commit, abort, ok}

-- A transaction reads a cell and writes it: its own lock causes no note.
abbrev pub read_then_written : Case
read_then_written = record {
  cells = (0, cell (pos 0) 0 0) ∷ [];
  rooms = full;
  policy = near_range;
  script =
      (Begin 1, ok) ∷ (Read 1 0, value (pos 0) 0) ∷ (Prewrite 1 0 (pos 5), ok) ∷ (Validate 1 0, range 1 top) ∷
      (Decide 1, commit 1) ∷ (Settle 1 0, ok) ∷ [];
  ends = (0, ((pos 5), 1, 1)) ∷ [];
}

-- A reader that passed with every stamp to TOP leaves none to a writer that comes later.
abbrev pub after_a_reader : Case
after_a_reader = record {
  cells = (0, cell (pos 0) 0 0) ∷ [];
  rooms = full;
  policy = whole_range;
  script =
      (Begin 1, ok) ∷ (Read 1 0, value (pos 0) 0) ∷ (Validate 1 0, range 1 top) ∷ (Begin 2, ok) ∷
      (Prewrite 2 0 (pos 5), ok) ∷ (Validate 2 0, abort) ∷ [];
  ends = (0, ((pos 0), 0, 0)) ∷ [];
}

-- So does a writer.
abbrev pub after_a_writer : Case
after_a_writer = record {
  cells = (0, cell (pos 0) 0 0) ∷ [];
  rooms = full;
  policy = whole_range;
  script =
      (Begin 1, ok) ∷ (Prewrite 1 0 (pos 4), ok) ∷ (Validate 1 0, range 1 top) ∷ (Begin 2, ok) ∷
      (Prewrite 2 0 (pos 5), ok) ∷ (Validate 2 0, abort) ∷ [];
  ends = (0, ((pos 0), 0, 0)) ∷ [];
}

-- Under Near a writer takes its range beside a reader that comes before it; the reader then finds none left.
abbrev pub before_rows : Case
before_rows = record {
  cells = (0, cell (pos 0) 9 0) ∷ [];
  rooms = full;
  policy = near_range;
  script =
      (Begin 1, ok) ∷ (Begin 2, ok) ∷ (Read 1 0, value (pos 0) 9) ∷ (Prewrite 2 0 (pos 3), ok) ∷
      (Validate 2 0, range 10 1033) ∷ (Validate 1 0, abort) ∷ (Decide 2, commit 10) ∷ (Decide 1, abort) ∷
      (Settle 2 0, ok) ∷ [];
  ends = (0, ((pos 3), 10, 0)) ∷ [];
}

-- A writer that passed raised the lower bound of the writer beside it, which stays raised though the first is withdrawn.
abbrev pub pushed_up : Case
pushed_up = record {
  cells = (0, cell (pos 0) 0 0) ∷ [];
  rooms = full;
  policy = near_range;
  script =
      (Begin 1, ok) ∷ (Begin 2, ok) ∷ (Prewrite 1 0 (pos 10), ok) ∷ (Prewrite 2 0 (pos 20), ok) ∷
      (Validate 1 0, range 1 1024) ∷ (Withdraw 1, abort) ∷ (Settle 1 0, ok) ∷ (Validate 2 0, range 1025 top) ∷ [];
  ends = (0, ((pos 0), 0, 0)) ∷ [];
}

-- A writer that passed lowered the upper bound of the reader before it, which stays lowered too.
abbrev pub pushed_down : Case
pushed_down = record {
  cells = (0, cell (pos 0) 0 0) ∷ [];
  rooms = full;
  policy = near_range;
  script =
      (Begin 1, ok) ∷ (Begin 2, ok) ∷ (Read 1 0, value (pos 0) 0) ∷ (Prewrite 2 0 (pos 20), ok) ∷
      (Validate 2 0, range 1 1024) ∷ (Withdraw 2, abort) ∷ (Settle 2 0, ok) ∷ (Validate 1 0, abort) ∷ [];
  ends = (0, ((pos 0), 0, 0)) ∷ [];
}

-- A validation passes over a neighbour that was aborted.
abbrev pub aborted_ignored : Case
aborted_ignored = record {
  cells = (0, cell (pos 0) 0 0) ∷ [];
  rooms = full;
  policy = near_range;
  script =
      (Begin 1, ok) ∷ (Begin 2, ok) ∷ (Prewrite 1 0 (pos 10), ok) ∷ (Prewrite 2 0 (pos 20), ok) ∷
      (Withdraw 1, abort) ∷ (Settle 1 0, ok) ∷ (Validate 2 0, range 1 top) ∷ (Decide 2, commit 1) ∷
      (Settle 2 0, ok) ∷ [];
  ends = (0, ((pos 20), 1, 0)) ∷ [];
}

-- A withdrawn transaction is validated no more, and ignored once it is settled.
abbrev pub withdrawn : Case
withdrawn = record {
  cells = (0, cell (pos 0) 0 0) ∷ [];
  rooms = full;
  policy = whole_range;
  script =
      (Begin 1, ok) ∷ (Prewrite 1 0 (pos 5), ok) ∷ (Withdraw 1, abort) ∷
      (Validate 1 0, refused 4) ∷ (Begin 2, ok) ∷ (Read 2 0, value (pos 0) 0) ∷ (Begin 3, ok) ∷
      (Prewrite 3 0 (pos 6), ok) ∷ (Validate 3 0, range 1 top) ∷ (Validate 2 0, abort) ∷ (Settle 1 0, ok) ∷
      (Settle 1 0, refused 10) ∷ (Decide 2, abort) ∷ (Decide 3, commit 1) ∷ (Settle 3 0, ok) ∷
      (Begin 4, ok) ∷ (Prewrite 4 0 (pos 7), ok) ∷ (Validate 4 0, range 2 top) ∷ [];
  ends = (0, ((pos 6), 1, 0)) ∷ [];
}

-- A withdrawn transaction keeps its lock until it is settled, so 2 takes a part of the range beside it; then it is ignored.
abbrev pub withdrawn_beside : Case
withdrawn_beside = record {
  cells = (0, cell (pos 0) 0 0) ∷ [];
  rooms = full;
  policy = near_range;
  script =
      (Begin 1, ok) ∷ (Prewrite 1 0 (pos 5), ok) ∷ (Withdraw 1, abort) ∷
      (Validate 1 0, refused 4) ∷ (Begin 2, ok) ∷ (Prewrite 2 0 (pos 6), ok) ∷
      (Validate 2 0, range 1 1024) ∷ (Settle 1 0, ok) ∷ (Settle 1 0, refused 10) ∷ (Decide 2, commit 1) ∷
      (Settle 2 0, ok) ∷ (Begin 4, ok) ∷ (Prewrite 4 0 (pos 7), ok) ∷ (Validate 4 0, range 2 top) ∷ [];
  ends = (0, ((pos 6), 1, 0)) ∷ [];
}

-- A read is held to the stamp that it saw, though the cell has a larger one when it validates.
abbrev pub seen_then : Case
seen_then = record {
  cells = (0, cell (pos 9) 0 80) ∷ [];
  rooms = full;
  policy = whole_range;
  script =
      (Begin 1, ok) ∷ (Begin 2, ok) ∷ (Prewrite 1 0 (pos 3), ok) ∷ (Validate 1 0, range 81 top) ∷
      (Read 2 0, value (pos 9) 0) ∷ (Decide 1, commit 81) ∷ (Settle 1 0, ok) ∷ (Validate 2 0, range 1 80) ∷
      (Decide 2, commit 1) ∷ (Settle 2 0, ok) ∷ [];
  ends = (0, ((pos 3), 81, 80)) ∷ [];
}

-- All of them.
abbrev pub at_one_cell : List Case
at_one_cell =
    read_then_written ∷ after_a_reader ∷ after_a_writer ∷ before_rows ∷
    pushed_up ∷ pushed_down ∷ aborted_ignored ∷ withdrawn ∷ withdrawn_beside ∷ seen_then ∷ []
