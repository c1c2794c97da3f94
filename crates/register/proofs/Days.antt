-- A day that goes on with a call of a register, whose policy stays.
--   day_kept       it leads to the register after the call
--   promise_kept   and the promise holds of it
use Rattle.std.proofs.Common.{◌≡◌, ◌∷◌, sym, subst}
use Rattle.store.specs.Stores.{Cells}
use Rattle.policy.specs.Ranges.{Meaning}
use Rattle.protocol.specs.Calls.{step}
use Rattle.protocol.specs.Model.{Model, Chooses, Rooms}
use Rattle.protocol.specs.Replies.{Response}
use Rattle.protocol.specs.declared.call.Call.{Call}
use Rattle.serial.specs.Days.{IsDay}
use Rattle.serial.specs.Ledger.{History}
use Rattle.serial.specs.Promise.{Promised}
use Rattle.serial.proofs.Days.{goes_on}
use Rattle.serial.proofs.Promised.{promise}

module _ (P Q : Chooses) (same : Q ≡ P) (first : Cells) (rooms : Rooms) (h : History) (m n : Model) (c : Call) (a : Response)
    (day : IsDay P first rooms h m) (made : (n, a) ≡ step P m c) where
  pub day_kept : IsDay Q first rooms ((c, a) ∷ h) n
  day_kept = subst (λ R. IsDay R first rooms ((c, a) ∷ h) n) (sym same) (goes_on P first rooms h m n c a day made)

  pub promise_kept : Meaning P → Promised Q first rooms ((c, a) ∷ h) n
  promise_kept means =
      subst (λ R. Promised R first rooms ((c, a) ∷ h) n) (sym same)
      (promise P means first rooms ((c, a) ∷ h) n (goes_on P first rooms h m n c a day made))
