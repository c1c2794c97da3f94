-- The stamps that are left to a transaction at a ground.
--   range_of row             those that a row leaves to its transaction
--   within r row             those of the range r that the row allows too
--   above r x, below r x     those of the range r that lie above x, or below x
--   above_all r xs, below_all r xs   those that lie above each of some numbers, or below each
--   line_floors m t g        what the read and write lines of the transaction t at the ground g have it lie above
use Rattle.std.specs.Prelude.{ℕ, List, ◌++◌, ℤ}
use Rattle.std.specs.Int.{int_max, int_min}
use Rattle.std.specs.List.{flat_map}
use Rattle.lines.specs.declared.row.Row.{Row}
use Rattle.protocol.specs.Among.{raise, lower, raised_above, lowered_below}
use Rattle.protocol.specs.Model.{Model}
use Rattle.protocol.specs.Validation.{read_floor, write_floor}
use Rattle.register.specs.declared.range.Range.{Range}

-- From its lower to its upper bound.
abbrev pub range_of : Row → Range
range_of r = record { lower = r.lower; upper = r.upper }

-- The larger lower bound and the smaller upper bound hold of both.
abbrev pub within : Range → Row → Range
within r row = record { lower = int_max r.lower row.lower; upper = int_min r.upper row.upper }

-- The lower bound is raised above x.
abbrev pub above : Range → ℤ → Range
above r x = record r { lower = raise r.lower x }

-- The upper bound is lowered below x.
abbrev pub below : Range → ℤ → Range
below r x = record r { upper = lower r.upper x }

-- The lower bound is raised above each of some numbers.
abbrev pub above_all : Range → List ℤ → Range
above_all r xs = record r { lower = raised_above r.lower xs }

-- The upper bound is lowered below each of some numbers.
abbrev pub below_all : Range → List ℤ → Range
below_all r xs = record r { upper = lowered_below r.upper xs }

-- The stamps that were seen at its reads, and those that the cells of its writes have now.
abbrev pub line_floors : Model → ℕ → ℕ → List ℤ
line_floors m t g = flat_map (read_floor t g) m.reads ++ flat_map (write_floor m.cells t g) m.writes
