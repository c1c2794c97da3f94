-- A transaction that has the register to itself commits while stamps last.
--   NonePending h           no transaction is pending at any ground
--   caller c                the transaction that makes the call c
--   keys_of h t             the keys of t's accepted reads and prewrites
--   IsFresh cells k         both stamps of the cell at k, if there is one, are below TOP
--   Commits r               the response r is a decision that commits
--   IsAlone t ..            t begins while none is pending and makes the only calls until its decide
--   Alone P first rooms h   wherever in the history h a transaction is alone, it commits
use Rattle.protocol.specs.Replies.{Response}
use Rattle.std.specs.Prelude.{◌≡◌, ℕ, ◌<◌, true, false, cond, ◌&&◌, List, [], ◌∷◌, ◌++◌, Some, None, Option, ◌==◌, Ok}
use Rattle.std.specs.List.{flat_map, AllByRecursion}
use Rattle.store.specs.Stores.{Cells}
use Rattle.store.specs.declared.cell.Cell.{Cell}
use Rattle.base.specs.declared.stamp.Stamp.{Stamp}
use Rattle.base.specs.declared.stamp.TheConstants.{TOP}
use Rattle.protocol.specs.Model.{Model, Chooses, Rooms}
use Rattle.protocol.specs.declared.call.Call.{Call}
use Rattle.protocol.specs.declared.call.Call.TheVariants.{Begin, Read, Prewrite, Validate, Decide, Withdraw, Settle}
use Rattle.protocol.specs.declared.call.Reply.TheVariants.{Committed}
use Rattle.serial.specs.Days.{IsDay}
use Rattle.serial.specs.Ledger.{History, is_accepted, is_pending}

-- No transaction is pending anywhere.
abbrev pub NonePending : History → Type 0
NonePending h = (t g : ℕ) → is_pending h t g ≡ false

-- The transaction that makes a call.
abbrev pub caller : Call → ℕ
caller (Begin t) = t
caller (Read t k) = t
caller (Prewrite t k v) = t
caller (Validate t g) = t
caller (Decide t) = t
caller (Withdraw t) = t
caller (Settle t g) = t

-- The key that one entry says t read or prewrote.
abbrev pub key_in : ℕ → Call → Response → List ℕ
key_in t (Begin u) r = []
key_in t (Read u k) r = cond (u == t && is_accepted r) (k ∷ []) []
key_in t (Prewrite u k v) r = cond (u == t && is_accepted r) (k ∷ []) []
key_in t (Validate u g) r = []
key_in t (Decide u) r = []
key_in t (Withdraw u) r = []
key_in t (Settle u g) r = []

-- The keys of t's accepted reads and prewrites.
abbrev pub keys_of : History → ℕ → List ℕ
keys_of h t = flat_map (λ e. key_in t e.0 e.1) h

-- Both stamps of a cell are below TOP.
abbrev pub IsFreshCell : Option Cell → Type 0
IsFreshCell None = Unit {0}
IsFreshCell (Some c) = (c.write.number < TOP) × (c.read.number < TOP)

-- Both stamps of the cell at a key are below TOP.
abbrev pub IsFresh : Cells → ℕ → Type 0
IsFresh cells k = IsFreshCell (cells k)

-- A decision that commits.
abbrev pub Commits : Response → Type 0
Commits r = (c : Stamp) × (r ≡ Ok (Committed c))

-- In a history, t begins while none is pending and then makes the only calls, until a decide of its is accepted.
--   earlier   all that was before its begin
--   begun     what its begin was answered
--   own       its calls between the two, accepted or refused, with their answers
--   decided   what its decide was answered
pub record IsAlone (t : ℕ) (earlier : History) (begun : Response) (own : History) (decided : Response) : Type 0 where
  pub quiet : NonePending earlier
  pub begins : is_accepted begun ≡ true
  pub only : AllByRecursion (λ e. caller e.0 ≡ t) own
  pub decides : is_accepted decided ≡ true

-- Wherever in the history of a day a transaction is alone from its begin to its decide, that decide commits it, if every stamp in its
-- cells, as its begin finds them, is below TOP. The register that its begin finds is the one that the earlier history leads to.
abbrev pub Alone : Chooses → Cells → Rooms → History → Type 0
Alone P first rooms h =
    (t : ℕ) (later : History) (decided : Response) (own : History) (begun : Response) (earlier : History)
    → h ≡ later ++ (Decide t, decided) ∷ own ++ (Begin t, begun) ∷ earlier
    → IsAlone t earlier begun own decided
    → (found : Model) → IsDay P first rooms earlier found
    → AllByRecursion (IsFresh found.cells) (keys_of own t)
    → Commits decided
