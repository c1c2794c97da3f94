-- What a fate shows of the row that it is linked to, and what the ledger shows of a line.
--   live_row, past_row   a live fate, or one that is past, has a row, in that state and with those bounds
--   running_shown        a row that is Running has a fate that is
--   free_shown           no row, or one that is Running: a fate that is away or Running
--   line_there           what the ledger shows of a line that is there
use Rattle.std.proofs.Common.{◌≡◌, Bool, true, ◌⊎◌, ℤ, Some, None, Ok, Option, refl, ap, inl, inr}
use Rattle.std.specs.Option.{option_map}
use Rattle.lines.specs.Locks.{is_live}
use Rattle.lines.specs.Rows.{is_past}
use Rattle.lines.specs.declared.row.Row.{Row}
use Rattle.lines.specs.declared.row.State.{State}
use Rattle.lines.specs.declared.row.State.TheVariants as state
use Rattle.protocol.specs.Checks.{check_running, check_not_stopped}
use Rattle.serial.proofs.Ledger.Fates.{Away, Running, Past, Live}
use Rattle.serial.proofs.Ledger.Linked.{fate_by, row_fate}
use Rattle.serial.proofs.Outcomes.Checks.{running_is}

-- A fate whose locks stand shows a live row.
pub live_row : (o : Option Row) → Live (row_fate o) → (r : Row) × (o ≡ Some r) × (is_live r.state ≡ true)
live_row None l = absurd l
live_row (Some r) l = (r, refl, go r.state l)
  where
    go : (s : State) → Live (fate_by s r.lower r.upper) → is_live s ≡ true
    go state.Running i = refl
    go state.Validated i = refl
    go state.Committed i = absurd i
    go state.Aborted i = absurd i

-- A fate that is past shows a row that passed, with its bounds.
pub past_row : (o : Option Row) (b : Bool) (l u : ℤ) → row_fate o ≡ Past b l u
    → (r : Row) × (o ≡ Some r) × (is_past r.state ≡ true) × (r.lower ≡ l) × (r.upper ≡ u)
past_row None b l u e = absurd cc
past_row (Some r) b l u e = let p = go r.state e in (r, refl, p.0, p.1, p.2)
  where
    go : (s : State) → fate_by s r.lower r.upper ≡ Past b l u → (is_past s ≡ true) × (r.lower ≡ l) × (r.upper ≡ u)
    go state.Running i = absurd cc
    go state.Validated i = (refl, cc, cc)
    go state.Committed i = (refl, cc, cc)
    go state.Aborted i = absurd cc

-- A row that is Running shows that.
pub running_shown : (r : Row) → check_running r ≡ Ok tt → row_fate (Some r) ≡ Running
running_shown r e = ap (λ s. fate_by s r.lower r.upper) (running_is r e)

-- Where there is no row, or one that is Running, the transaction is away or Running.
pub free_shown : (o : Option Row) → check_not_stopped o ≡ Ok tt → (row_fate o ≡ Away) ⊎ (row_fate o ≡ Running)
free_shown None e = inl refl
free_shown (Some r) e = inr (running_shown r e)

-- A line that the ledger speaks of is there.
pub line_there : {X Y : Type 0} (f : X → Y) (o : Option X) (y : Y) → option_map f o ≡ Some y → (x : X) × (o ≡ Some x) × (f x ≡ y)
line_there f None y e = absurd cc
line_there f (Some x) y e = (x, refl, cc)
