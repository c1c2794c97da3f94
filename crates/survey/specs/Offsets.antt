-- An offset as it is said aloud.
--   offset_of a b v      the value v in decimetres: in the direction a, or in b where it is negative
--   offset_value o       the value that an offset stands for
--   direction_name d     the word for a direction
use Rattle.std.specs.Prelude.{ℕ, suc, ◌+◌, ◌*◌, ◌/◌, ◌%◌, List, ℤ, pos, negsuc, neg_ℤ, codes}
use Rattle.survey.specs.declared.offset.Direction.{Direction}
use Rattle.survey.specs.declared.offset.Direction.TheVariants.{East, West, North, South}
use Rattle.survey.specs.declared.offset.Offset.{Offset}

-- A number of decimetres in a direction.
abbrev pub offset_in : Direction → ℕ → Offset
offset_in d n = record { direction = d; metres = n / 10; decimetres = n % 10 }

-- A value in one of two opposite directions (negsuc n is -1 - n).
abbrev pub offset_of : Direction → Direction → ℤ → Offset
offset_of ahead behind (pos n) = offset_in ahead n
offset_of ahead behind (negsuc n) = offset_in behind (suc n)

-- A number of decimetres, negative where it is west or south.
abbrev pub signed_value : Direction → ℕ → ℤ
signed_value East n = pos n
signed_value West n = neg_ℤ (pos n)
signed_value North n = pos n
signed_value South n = neg_ℤ (pos n)

-- The value that an offset stands for.
abbrev pub offset_value : Offset → ℤ
offset_value o = signed_value o.direction (10 * o.metres + o.decimetres)

-- The word for each direction.
abbrev pub direction_name : Direction → List ℕ
direction_name East = codes "east"
direction_name West = codes "west"
direction_name North = codes "north"
direction_name South = codes "south"
