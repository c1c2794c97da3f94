-- A day on which two transactions cross two grounds, one settles late and a third reads between them; and what is promised of it.
--   morning, morning_register           the cells and the register that the day begins with
--   owing_history, owing_register       the history and the register while transaction 1 is still to be settled at ground 1
--   evening_history, evening_register   the history and the register at the end
--   CrossingSays                        what is promised of the day
use Rattle.std.specs.Prelude.{◌≡◌, true, false, List, [], ◌∷◌, pos, reverse, take}
use Rattle.store.specs.Stores.{Cells}
use Rattle.policy.specs.Ranges.{near_range}
use Rattle.protocol.specs.AcrossGrounds.{crossing}
use Rattle.protocol.specs.Calls.{step, register_after}
use Rattle.protocol.specs.Cases.{cells_at, calls_of, full}
use Rattle.protocol.specs.Model.{Model, new}
use Rattle.protocol.specs.declared.call.Call.{Call}
use Rattle.protocol.specs.declared.call.Call.TheVariants.{Begin, Read, Prewrite, Validate, Decide, Settle}
use Rattle.serial.specs.Agreement.{Alike}
use Rattle.serial.specs.Alone.{NonePending, Commits}
use Rattle.serial.specs.Arrangements.{values, serial_order, reads_found}
use Rattle.serial.specs.Days.{IsDay, history_after}
use Rattle.serial.specs.Ledger.{History, is_owed}
use Rattle.serial.specs.Serial.{Tells, IsSerial}

-- The cells that the day begins with.
abbrev pub morning : Cells
morning = cells_at crossing.cells

-- The register that it begins with.
abbrev pub morning_register : Model
morning_register = new morning full

-- The history while transaction 1 is still to be settled at ground 1.
abbrev pub owing_history : History
owing_history = history_after near_range morning_register [] (take 15 (calls_of crossing))

-- The register then.
abbrev pub owing_register : Model
owing_register = register_after near_range morning_register (take 15 (calls_of crossing))

-- The history at the end.
abbrev pub evening_history : History
evening_history = history_after near_range morning_register [] (calls_of crossing)

-- The register then.
abbrev pub evening_register : Model
evening_register = register_after near_range morning_register (calls_of crossing)

-- A transaction begins in the evening, while none is pending, and these are the only calls until its decide.
abbrev pub own_calls : List Call
own_calls = Read 4 0 ∷ Read 4 8192 ∷ Prewrite 4 0 (pos 40) ∷ Validate 4 0 ∷ Validate 4 1 ∷ []

-- What is promised says this of the day.
--   day, as_worked             it is one, with the answers that were worked out by hand
--   order, tells, otherwise    transactions 1, 3 and 2 tell it in this order, and not in that of their numbers
--   owed_late, owed_no_more    whether a settlement is owed at ground 1
--   serial                     every read was answered, and every cell ends, as in the serial run
--   quiet, alone               none is pending when transaction 4 begins, so it commits
--   local                      2 validates at ground 0 alike before and after 1 is settled at ground 1
pub record CrossingSays : Type 0 where
  pub day : IsDay near_range morning full evening_history evening_register
  pub as_worked : evening_history ≡ reverse crossing.script
  pub order : serial_order evening_history ≡ 1 ∷ 3 ∷ 2 ∷ []
  pub tells : Tells morning evening_history evening_register.cells (1 ∷ 3 ∷ 2 ∷ [])
  pub otherwise : reads_found evening_history (1 ∷ 2 ∷ 3 ∷ []) (values morning) ≡ false
  pub owed_late : is_owed owing_history 1 ≡ true
  pub owed_no_more : is_owed evening_history 1 ≡ false
  pub serial : IsSerial morning evening_history evening_register.cells
  pub quiet : NonePending evening_history
  pub alone : Commits (step near_range (register_after near_range evening_register (Begin 4 ∷ own_calls)) (Decide 4)).1
  pub local : Alike near_range near_range owing_register (step near_range owing_register (Settle 1 1)).0 2 0
