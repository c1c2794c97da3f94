-- Days: how one begins and goes on, and that its history determines it.
--   begins        a new register is where the empty history leads
--   goes_on       a day goes on with one more call
--   same_day      a history leads to one register
--   earlier_day   the front part of a day is a day
--   day_after     a day goes on with any calls
use Rattle.std.proofs.Common.{◌≡◌, List, [], ◌∷◌, ◌++◌, refl, sym, ap, ◌∙◌}
use Rattle.store.specs.Stores.{Cells}
use Rattle.protocol.specs.Calls.{step, register_after}
use Rattle.protocol.specs.Model.{Model, Chooses, Rooms, new}
use Rattle.protocol.specs.Replies.{Response}
use Rattle.protocol.specs.declared.call.Call.{Call}
use Rattle.serial.specs.Days.{IsDay, history_after}
use Rattle.serial.specs.Ledger.{History}

module _ (P : Chooses) (first : Cells) (rooms : Rooms) where
  pub begins : IsDay P first rooms [] (new first rooms)
  begins = refl

  pub goes_on : (h : History) (m n : Model) (c : Call) (r : Response) → IsDay P first rooms h m → (n, r) ≡ step P m c
      → IsDay P first rooms ((c, r) ∷ h) n
  goes_on h m n c r day e = (m, day, e)

  pub same_day : (h : History) (m n : Model) → IsDay P first rooms h m → IsDay P first rooms h n → m ≡ n
  same_day [] m n i j = i ∙ sym j
  same_day (e ∷ h) m n (v, i, p) (w, j, q) =
      ap (λ (x : Model × Response). x.0) (p ∙ (ap (λ b. step P b e.0) (same_day h v w i j) ∙ sym q))

  pub earlier_day : (later h : History) (m : Model) → IsDay P first rooms (later ++ h) m → (w : Model) × IsDay P first rooms h w
  earlier_day [] h m i = (m, i)
  earlier_day (e ∷ later) h m (w, i, p) = earlier_day later h w i

  pub day_after : (cs : List Call) (h : History) (m : Model) → IsDay P first rooms h m
      → IsDay P first rooms (history_after P m h cs) (register_after P m cs)
  day_after [] h m i = i
  day_after (c ∷ cs) h m i = day_after cs ((c, (step P m c).1) ∷ h) (step P m c).0 (m, i, refl)
