-- The serial run of the worked days.
--   DaysAreSerial   on each of them the serial order tells every committed reader what it was answered, and, where nothing is owed,
--                   ends with the values that the day's cells were worked out to hold
use Rattle.std.specs.Prelude.{◌≡◌, ℕ, Bool, true, not, ◌&&◌, ◌||◌, List, [], ◌∷◌, reverse}
use Rattle.std.specs.List.{list_all, list_any}
use Rattle.protocol.specs.Cases.{Case, Figures, cells_at}
use Rattle.protocol.specs.AllCases.{all_cases}
use Rattle.serial.specs.Ledger.{History, is_owed}
use Rattle.serial.specs.Arrangements.{Values, values, serial_order, reads_found, is_found, values_after}

-- The eight grounds.
abbrev pub grounds : List ℕ
grounds = 0 ∷ 1 ∷ 2 ∷ 3 ∷ 4 ∷ 5 ∷ 6 ∷ 7 ∷ []

-- No committed transaction is owed a settlement.
abbrev pub is_paid : History → Bool
is_paid h = not (list_any (is_owed h) grounds)

-- The history of a case.
abbrev pub history_of : Case → History
history_of c = reverse c.script

-- The cells of a case end with the values of the run.
abbrev pub is_end : Values → List (ℕ × Figures) → Bool
is_end vs ps = list_all (λ p. is_found (vs p.0) p.1.0) ps

-- The serial order tells the day.
abbrev pub is_told : Case → Bool
is_told c =
    reads_found (history_of c) (serial_order (history_of c)) (values (cells_at c.cells))
    && (not (is_paid (history_of c))
    || is_end (values_after (history_of c) (serial_order (history_of c)) (values (cells_at c.cells))) c.ends)

-- It tells every worked case and every longer day.
abbrev pub DaysAreSerial : Type 0
DaysAreSerial = list_all is_told all_cases ≡ true
