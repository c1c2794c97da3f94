-- The whole promise.
--   LocalThroughout P first rooms h   a validation depends on its ground alone, wherever in the history h of a day
--   Promised P first rooms h m        a day, whose history h led from the first cells to the register m, and what is promised of it
--   Promise                           it is promised of every day, under any policy that keeps its meaning
use Rattle.std.specs.Prelude.{◌≡◌, ◌++◌}
use Rattle.store.specs.Stores.{Cells}
use Rattle.policy.specs.Ranges.{Meaning}
use Rattle.protocol.specs.Model.{Model, Chooses, Rooms}
use Rattle.serial.specs.Agreement.{LocalAt}
use Rattle.serial.specs.Alone.{Alone}
use Rattle.serial.specs.Arrangements.{serial_order}
use Rattle.serial.specs.Days.{IsDay}
use Rattle.serial.specs.Ledger.{History}
use Rattle.serial.specs.Serial.{Tells, IsSerial}

-- A validation on the register that any earlier part of the history led to depends on its ground alone.
abbrev pub LocalThroughout : Chooses → Cells → Rooms → History → Type 0
LocalThroughout P first rooms h =
    (later earlier : History) → h ≡ later ++ earlier → (found : Model) → IsDay P first rooms earlier found → LocalAt P found

-- The history is that of a day. Committed transactions are serial in the order of (stamp, number), ground by ground, and so in all; a transaction alone commits while
-- stamps last; every validation, and one that comes next, depends on its ground alone.
pub record Promised (P : Chooses) (first : Cells) (rooms : Rooms) (h : History) (m : Model) : Type 0 where
  pub day : IsDay P first rooms h m
  pub tells : Tells first h m.cells (serial_order h)
  pub serial : IsSerial first h m.cells
  pub alone : Alone P first rooms h
  pub local : LocalThroughout P first rooms h

-- Of any first cells, rooms and history, and any policy that keeps its meaning.
abbrev pub Promise : Type 0
Promise =
    (P : Chooses) → Meaning P → (first : Cells) (rooms : Rooms) (h : History) (m : Model) → IsDay P first rooms h m
    → Promised P first rooms h m
