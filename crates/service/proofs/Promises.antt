-- What is promised under one policy is promised under the same one.
use Rattle.std.proofs.Common.{◌≡◌, subst}
use Rattle.store.specs.Stores.{Cells}
use Rattle.protocol.specs.Model.{Model, Chooses, Rooms}
use Rattle.serial.specs.Ledger.{History}
use Rattle.serial.specs.Promise.{Promised}

pub promised_under : (P Q : Chooses) (first : Cells) (rooms : Rooms) (h : History) (m : Model) → Q ≡ P → Promised Q first rooms h m
    → Promised P first rooms h m
promised_under P Q first rooms h m same p = subst (λ R. Promised R first rooms h m) same p
