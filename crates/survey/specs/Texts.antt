-- What is printed of plots.
--   offset_text o    what an offset says
--   listing_text l   the line of a plot
--   counts_text c    the line of counts
--   refusal_line f   the line that says why an image is refused
use Rattle.std.specs.Prelude.{ℕ, ◌-◌, ◌*◌, List, ◌++◌, ℤ, Some, None, Option, codes}
use Rattle.std.specs.Fmt.{decimal, signed_decimal}
use Rattle.std.specs.Option.{option_map}
use Rattle.base.specs.Refusals.{number_of, refusal_text}
use Rattle.image.specs.declared.fault.Fault.{Fault}
use Rattle.image.specs.Faults.{fault_text, refusal_of}
use Rattle.survey.specs.declared.counts.Counts.{Counts}
use Rattle.survey.specs.declared.listing.Listing.{Listing}
use Rattle.survey.specs.declared.offset.Direction.TheVariants.{East, West, North, South}
use Rattle.survey.specs.declared.offset.Offset.{Offset}
use Rattle.survey.specs.Columns.{at_left, at_right}
use Rattle.survey.specs.Offsets.{direction_name, offset_of}

-- Metres in four places, decimetres, and the direction in five.
abbrev pub offset_text : Offset → List ℕ
offset_text o =
    at_right 4 (decimal o.metres) ++ codes "." ++ decimal o.decimetres ++ codes " m " ++ at_left 5 (direction_name o.direction)

-- An offset, or what stands there where it is missing, in a column of fourteen places.
abbrev pub offset_column : List ℕ → Option Offset → List ℕ
offset_column missing None = codes "  " ++ at_left 14 missing
offset_column missing (Some o) = codes "  " ++ offset_text o

-- A number's column of seven places after its name.
abbrev pub number_column : List ℕ → Option ℤ → List ℕ
number_column name None = codes "  " ++ name ++ codes " missing"
number_column name (Some z) = codes "  " ++ name ++ codes " " ++ at_right 7 (signed_decimal z)

-- A plot's line: its ground and number, then its four fields in their columns.
abbrev pub listing_text : Listing → List ℕ
listing_text l =
    codes "ground " ++ decimal l.burial_ground ++ codes "  plot " ++ at_right 4 (decimal l.number)
    ++ offset_column (codes "east missing") (option_map (offset_of East West) l.plot.east)
    ++ offset_column (codes "north missing") (option_map (offset_of North South) l.plot.north)
    ++ number_column (codes "holder") l.plot.holder
    ++ number_column (codes "status") l.plot.status
    ++ codes "\n"

-- The line of counts; four fields a plot, less those that are there, are missing.
abbrev pub counts_text : Counts → List ℕ
counts_text c =
    codes "plots " ++ decimal c.plots ++ codes ", grounds " ++ decimal c.grounds ++ codes ", fields " ++ decimal c.fields
    ++ codes ", missing " ++ decimal (4 * c.plots - c.fields) ++ codes "\n"

-- The line that says why an image is refused: the refusal's number and text, and the fault.
abbrev pub refusal_line : Fault → List ℕ
refusal_line f =
    codes "refusal " ++ decimal (number_of (refusal_of f)) ++ codes ", " ++ refusal_text (refusal_of f) ++ codes ": " ++ fault_text f
    ++ codes "\n"
