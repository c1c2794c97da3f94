-- All that holds at every moment of a day, by the history that led there.
--   invariant_day   it holds of the register that a history leads to
use Rattle.std.proofs.Common.{[], ◌∷◌, sym, subst}
use Rattle.store.specs.Stores.{Cells}
use Rattle.policy.specs.Ranges.{Meaning}
use Rattle.protocol.specs.Model.{Model, Chooses, Rooms}
use Rattle.protocol.specs.Replies.{Response}
use Rattle.serial.specs.Days.{IsDay}
use Rattle.serial.specs.Ledger.{History}
use Rattle.serial.proofs.Steps.AllSteps.{invariant_new, invariant_step}
use Rattle.serial.proofs.Invariant.{Invariant}

pub invariant_day : (P : Chooses) → Meaning P → (first : Cells) (rooms : Rooms) (h : History) (m : Model) → IsDay P first rooms h m
    → Invariant first h m
invariant_day P means first rooms [] m i = subst (Invariant first []) (sym i) (invariant_new first rooms)
invariant_day P means first rooms (e ∷ h) m (w, i, p) =
    subst (λ (x : Model × Response). Invariant first ((e.0, x.1) ∷ h) x.0) (sym p)
    (invariant_step first P means w h (invariant_day P means first rooms h w i) e.0)
