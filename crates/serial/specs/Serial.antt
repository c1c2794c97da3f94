-- Committed transactions are serial in the order of (stamp, number).
--   Tells first h now ts   the arrangement ts tells the history h, from the first cells to those there are now
--   IsSerial first h now   the serial run answers every accepted read of a committed transaction, and ends with the cells there are now
use Rattle.std.specs.Prelude.{◌≡◌, ℕ, true, false, List, ℤ, Some, Ok, Contains}
use Rattle.store.specs.Stores.{Cells}
use Rattle.base.specs.Keys.{ground_of}
use Rattle.base.specs.declared.stamp.Stamp.{Stamp}
use Rattle.protocol.specs.declared.call.Call.TheVariants.{Read, Decide}
use Rattle.protocol.specs.declared.call.Reply.TheVariants.{Value, Committed}
use Rattle.serial.specs.Ledger.{History, is_owed}
use Rattle.serial.specs.Arrangements.{values, serial_order, reads_found, values_before, values_after}

-- Each accepted read of an arranged transaction was answered the value that it finds there; of others nothing is said. On a ground
-- where nothing is owed every cell holds the value at the arrangement's end.
pub record Tells (first : Cells) (h : History) (now : Cells) (ts : List ℕ) : Type 0 where
  pub reads : reads_found h ts (values first) ≡ true
  pub ends : (k : ℕ) → is_owed h (ground_of k) ≡ false → values now k ≡ values_after h ts (values first) k

-- What follows for the serial run, in plain words. Every accepted read of a committed transaction answered the value that its read of
-- that key finds in the run. Once no committed transaction is owed a settlement at any ground, every cell holds the value that it has
-- at the run's end.
pub record IsSerial (first : Cells) (h : History) (now : Cells) : Type 0 where
  pub reads : (t k : ℕ) (v : ℤ) (seen c : Stamp) → Contains h (Read t k, Ok (Value v seen)) → Contains h (Decide t, Ok (Committed c))
      → values_before h (serial_order h) t (values first) k ≡ Some v
  pub ends : ((g : ℕ) → is_owed h g ≡ false) → (k : ℕ) → values now k ≡ values_after h (serial_order h) (values first) k
