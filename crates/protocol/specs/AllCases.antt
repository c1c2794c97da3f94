-- What was worked out by hand is what the definitions say.
--   Example         a day, or a word with the value that it stands for
--   IsWorkedOut e   the definitions say the same of the example e
--   worked          the worked cases of docs/cases.md
--   all_cases       the days among them, and the longer ones
--   CasesHold       all of these, and what some of them leave in the books
use Rattle.std.specs.Prelude.{◌≡◌, ℕ, ◌%◌, ◌^◌, List, [], ◌∷◌, ◌++◌, map, ℤ, pos, negsuc}
use Rattle.std.specs.List.{AllByRecursion}
use Rattle.base.specs.Values.{value_of}
use Rattle.base.specs.Words.{value_word}
use Rattle.protocol.specs.Cases.{Case, IsShown}
use Rattle.protocol.specs.AcrossGrounds.{across_grounds}
use Rattle.protocol.specs.AtOneCell.{at_one_cell}
use Rattle.protocol.specs.BooksLeft.{BooksLeft}
use Rattle.protocol.specs.RefusedCalls.{refused_calls}
use Rattle.protocol.specs.Worked.{worked_days}

-- A day with its answers, or a value word with its value.
pub data Example : Type 0 where
  day : Case → Example
  word : ℕ → ℤ → Example

-- A day comes out as told; a word's low sixteen bits are read as the value, and it is written for the value.
abbrev pub IsWorkedOut : Example → Type 0
IsWorkedOut (day c) = IsShown c
IsWorkedOut (word w v) = (value_of (w % 2 ^ 16) ≡ v) × (value_word v ≡ w)

-- The worked cases: the days, and the two extreme values.
abbrev pub worked : List Example
worked = map day worked_days ++ word 0x9000_8000 (negsuc 32767) ∷ word 0x9000_7FFF (pos 32767) ∷ []

-- The longer days.
abbrev pub longer_days : List Case
longer_days = refused_calls ++ at_one_cell ++ across_grounds

-- Every day.
abbrev pub all_cases : List Case
all_cases = worked_days ++ longer_days

-- All that was worked out.
pub record CasesHold : Type 0 where
  pub examples : AllByRecursion IsWorkedOut (worked ++ map day longer_days)
  pub books : BooksLeft
