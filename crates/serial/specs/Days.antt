-- A day: the calls that were made on a register since it was new, each with its answer.
--   IsDay P first rooms h m   the history h leads from a new register, with the cells first and these rooms, to the register m
--   history_after P m h cs    the history h with the calls cs, made on the register m, and their answers
--   DaysAreCalls              any calls make a day, and its history leads to one register
use Rattle.std.specs.Prelude.{◌≡◌, List, [], ◌∷◌}
use Rattle.store.specs.Stores.{Cells}
use Rattle.protocol.specs.Calls.{step, register_after}
use Rattle.protocol.specs.Model.{Model, Chooses, Rooms, new}
use Rattle.protocol.specs.declared.call.Call.{Call}
use Rattle.serial.specs.Ledger.{History}

-- No call has been made, and the register is new; or the newest call was made on the register that the others lead to: it was
-- answered, and left what there is, as its definition says.
abbrev pub IsDay : Chooses → Cells → Rooms → History → Model → Type 0
IsDay P first rooms [] m = m ≡ new first rooms
IsDay P first rooms (e ∷ h) m = (before : Model) × IsDay P first rooms h before × ((m, e.1) ≡ step P before e.0)

-- A history after some more calls, made in their order.
abbrev pub history_after : Chooses → Model → History → List Call → History
history_after P m h [] = h
history_after P m h (c ∷ cs) = history_after P (step P m c).0 ((c, (step P m c).1) ∷ h) cs

-- Any calls on a new register make a day; and the history of a day leads to one register.
pub record DaysAreCalls : Type 0 where
  pub any_calls : (P : Chooses) (first : Cells) (rooms : Rooms) (calls : List Call)
      → IsDay P first rooms (history_after P (new first rooms) [] calls) (register_after P (new first rooms) calls)
  pub one_register : (P : Chooses) (first : Cells) (rooms : Rooms) (h : History) (m n : Model)
      → IsDay P first rooms h m → IsDay P first rooms h n → m ≡ n
