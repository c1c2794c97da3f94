-- What the ledger says of a transaction: how far it has come at each ground, what it saw at each key, and its stamp.
--   fate h t g        how far t has come at the ground g
--   Unsettled, Live   a fate that is not settled with a stamp; one whose soft locks stand
--   sight_of h t k    the value and the stamp that the first accepted read of k by t was answered
--   stamp_of h t      the stamp at which t committed
use Rattle.protocol.specs.Replies.{Response}
use Rattle.std.proofs.Common.{ℕ, Bool, true, false, cond, ◌&&◌, eqb, List, [], ◌∷◌, ℤ, pos, Some, None, Option, Ok, Err}
use Rattle.protocol.specs.declared.call.Call.{Call}
use Rattle.protocol.specs.declared.call.Call.TheVariants.{Begin, Read, Prewrite, Validate, Decide, Withdraw, Settle}
use Rattle.protocol.specs.declared.call.Reply.TheVariants.{Done, Value, Range, Committed, Aborted}
use Rattle.serial.specs.Ledger.{History, stamp_in, is_accepted, is_touch}

-- How far a transaction has come at a ground. Past: its validation answered this range; or, once it is settled, its commit stamp is
-- both bounds. Gone: its validation failed, or it was settled without a stamp.
pub data Fate : Type 0 where
  Away : Fate
  Running : Fate
  Past : Bool → ℤ → ℤ → Fate
  Gone : Fate

-- A fate that is not settled with a stamp.
abbrev pub Unsettled : Fate → Type 0
Unsettled Away = Unit {0}
Unsettled Running = Unit {0}
Unsettled (Past true l u) = ⊥
Unsettled (Past false l u) = Unit {0}
Unsettled Gone = Unit {0}

-- A fate whose soft locks stand.
abbrev pub Live : Fate → Type 0
Live Away = ⊥
Live Running = Unit {0}
Live (Past true l u) = ⊥
Live (Past false l u) = Unit {0}
Live Gone = ⊥

-- The stamp in a reply to a decide, else the stamp there was.
abbrev pub stamp_or : List ℕ → Option ℕ → Option ℕ
stamp_or [] before = before
stamp_or (c ∷ cs) before = Some c

-- What one entry says of t's stamp.
abbrev pub stamp_from : ℕ → Call → Response → Option ℕ → Option ℕ
stamp_from t (Begin u) r before = before
stamp_from t (Read u k) r before = before
stamp_from t (Prewrite u k v) r before = before
stamp_from t (Validate u g) r before = before
stamp_from t (Decide u) r before = cond (eqb u t) (stamp_or (stamp_in r) before) before
stamp_from t (Withdraw u) r before = before
stamp_from t (Settle u g) r before = before

-- The stamp at which a transaction committed.
abbrev pub stamp_of : History → ℕ → Option ℕ
stamp_of [] t = None
stamp_of (e ∷ h) t = stamp_from t e.0 e.1 (stamp_of h t)

-- What the first accepted read was answered.
abbrev pub sight_or : Option (ℤ × ℕ) → Response → Option (ℤ × ℕ)
sight_or (Some x) r = Some x
sight_or None (Ok Done) = None
sight_or None (Ok (Value v s)) = Some (v, s.number)
sight_or None (Ok (Range l u)) = None
sight_or None (Ok (Committed s)) = None
sight_or None (Ok Aborted) = None
sight_or None (Err e) = None

-- What one entry says that t saw at k.
abbrev pub sight_in : ℕ → ℕ → Call → Response → Option (ℤ × ℕ) → Option (ℤ × ℕ)
sight_in t k (Begin u) r before = before
sight_in t k (Read u j) r before = cond (eqb u t && eqb j k) (sight_or before r) before
sight_in t k (Prewrite u j v) r before = before
sight_in t k (Validate u g) r before = before
sight_in t k (Decide u) r before = before
sight_in t k (Withdraw u) r before = before
sight_in t k (Settle u g) r before = before

-- The value and the stamp that the first accepted read of k by t was answered.
abbrev pub sight_of : History → ℕ → ℕ → Option (ℤ × ℕ)
sight_of [] t k = None
sight_of (e ∷ h) t k = sight_in t k e.0 e.1 (sight_of h t k)

-- An accepted read or prewrite.
abbrev pub fate_begun : Fate → Fate
fate_begun Away = Running
fate_begun Running = Running
fate_begun (Past b l u) = Past b l u
fate_begun Gone = Gone

-- A validation.
abbrev pub fate_judged : Response → Fate → Fate
fate_judged (Ok Done) before = before
fate_judged (Ok (Value v s)) before = before
fate_judged (Ok (Range l u)) before = Past false l u
fate_judged (Ok (Committed s)) before = before
fate_judged (Ok Aborted) before = Gone
fate_judged (Err e) before = before

-- A settlement of a transaction that committed at a stamp, or did not.
abbrev pub settled_fate : Option ℕ → Fate
settled_fate None = Gone
settled_fate (Some c) = Past true (pos c) (pos c)

-- What one entry says of t at g, where t's stamp is as given.
abbrev pub fate_in : ℕ → ℕ → Call → Response → Option ℕ → Fate → Fate
fate_in t g (Begin u) r c before = before
fate_in t g (Read u k) r c before = cond (is_touch t g (Read u k) r) (fate_begun before) before
fate_in t g (Prewrite u k v) r c before = cond (is_touch t g (Prewrite u k v) r) (fate_begun before) before
fate_in t g (Validate u j) r c before = cond (eqb u t && eqb j g) (fate_judged r before) before
fate_in t g (Decide u) r c before = before
fate_in t g (Withdraw u) r c before = before
fate_in t g (Settle u j) r c before = cond (eqb u t && (eqb j g && is_accepted r)) (settled_fate c) before

-- How far t has come at g.
abbrev pub fate : History → ℕ → ℕ → Fate
fate [] t g = Away
fate (e ∷ h) t g = fate_in t g e.0 e.1 (stamp_of h t) (fate h t g)
