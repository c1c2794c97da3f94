-- The ledger: what the calls of a day and their responses alone say. A history has its newest entry first.
--   History               calls with their responses
--   is_accepted r         the response r is a reply
--   reads_of h t          the keys and values of t's accepted reads
--   last_prewrite h t k   the value of t's last accepted prewrite of k, or nothing
--   commits h             who committed, and at which stamp (Commit)
--   is_touched h t g      a read or a prewrite of t at the ground g was accepted
--   is_pending h t g      one was, and since the first of them t has neither failed its validation at g nor been settled there
--   is_owed h g           a committed transaction is pending at the ground g
use Rattle.protocol.specs.Replies.{Response}
use Rattle.std.specs.Prelude.{ℕ, Bool, true, false, cond, not, ◌&&◌, ◌||◌, List, [], ◌∷◌, map, ℤ, Some, None, Ok, Err, Option, ◌==◌}
use Rattle.std.specs.List.{flat_map, list_any}
use Rattle.base.specs.Keys.{ground_of}
use Rattle.protocol.specs.declared.call.Call.{Call}
use Rattle.protocol.specs.declared.call.Call.TheVariants.{Begin, Read, Prewrite, Validate, Decide, Withdraw, Settle}
use Rattle.protocol.specs.declared.call.Reply.TheVariants.{Done, Value, Range, Committed, Aborted}

-- A history: calls with their responses, the newest first.
abbrev pub History : Type 0
History = List (Call × Response)

-- A transaction that committed, and its stamp.
pub record Commit : Type 0 where
  pub stamp : ℕ
  pub number : ℕ

-- The value in the reply of a read.
abbrev pub value_in : Response → List ℤ
value_in (Ok Done) = []
value_in (Ok (Value v s)) = v ∷ []
value_in (Ok (Range l u)) = []
value_in (Ok (Committed s)) = []
value_in (Ok Aborted) = []
value_in (Err e) = []

-- The stamp in the reply of a decision.
abbrev pub stamp_in : Response → List ℕ
stamp_in (Ok Done) = []
stamp_in (Ok (Value v s)) = []
stamp_in (Ok (Range l u)) = []
stamp_in (Ok (Committed s)) = s.number ∷ []
stamp_in (Ok Aborted) = []
stamp_in (Err e) = []

-- A call that was not refused.
abbrev pub is_accepted : Response → Bool
is_accepted (Ok r) = true
is_accepted (Err e) = false

-- A reply that says Aborted.
abbrev pub is_aborted_reply : Response → Bool
is_aborted_reply (Ok Done) = false
is_aborted_reply (Ok (Value v s)) = false
is_aborted_reply (Ok (Range l u)) = false
is_aborted_reply (Ok (Committed s)) = false
is_aborted_reply (Ok Aborted) = true
is_aborted_reply (Err e) = false

-- The keys and values that one entry says t read.
abbrev pub reads_in : ℕ → Call → Response → List (ℕ × ℤ)
reads_in t (Begin u) r = []
reads_in t (Read u k) r = cond (u == t) (map (λ v. (k, v)) (value_in r)) []
reads_in t (Prewrite u k v) r = []
reads_in t (Validate u g) r = []
reads_in t (Decide u) r = []
reads_in t (Withdraw u) r = []
reads_in t (Settle u g) r = []

-- All that t read, each time it was accepted.
abbrev pub reads_of : History → ℕ → List (ℕ × ℤ)
reads_of h t = flat_map (λ e. reads_in t e.0 e.1) h

-- The value that one entry says t put at k; else what was said before.
abbrev pub prewrite_in : ℕ → ℕ → Call → Response → Option ℤ → Option ℤ
prewrite_in t k (Begin u) r before = before
prewrite_in t k (Read u j) r before = before
prewrite_in t k (Prewrite u j v) r before = cond (u == t && (j == k && is_accepted r)) (Some v) before
prewrite_in t k (Validate u g) r before = before
prewrite_in t k (Decide u) r before = before
prewrite_in t k (Withdraw u) r before = before
prewrite_in t k (Settle u g) r before = before

-- The value of t's last accepted prewrite of k.
abbrev pub last_prewrite : History → ℕ → ℕ → Option ℤ
last_prewrite [] t k = None
last_prewrite (e ∷ h) t k = prewrite_in t k e.0 e.1 (last_prewrite h t k)

-- Who one entry says committed.
abbrev pub commit_in : Call → Response → List Commit
commit_in (Begin u) r = []
commit_in (Read u k) r = []
commit_in (Prewrite u k v) r = []
commit_in (Validate u g) r = []
commit_in (Decide u) r = map (λ c. record { stamp = c; number = u }) (stamp_in r)
commit_in (Withdraw u) r = []
commit_in (Settle u g) r = []

-- All who committed.
abbrev pub commits : History → List Commit
commits h = flat_map (λ e. commit_in e.0 e.1) h

-- An accepted read or prewrite of t at the ground g.
abbrev pub is_touch : ℕ → ℕ → Call → Response → Bool
is_touch t g (Begin u) r = false
is_touch t g (Read u k) r = u == t && (ground_of k == g && is_accepted r)
is_touch t g (Prewrite u k v) r = u == t && (ground_of k == g && is_accepted r)
is_touch t g (Validate u j) r = false
is_touch t g (Decide u) r = false
is_touch t g (Withdraw u) r = false
is_touch t g (Settle u j) r = false

-- A validation of t at g that answered Aborted, or an accepted settlement there.
abbrev pub is_finish : ℕ → ℕ → Call → Response → Bool
is_finish t g (Begin u) r = false
is_finish t g (Read u k) r = false
is_finish t g (Prewrite u k v) r = false
is_finish t g (Validate u j) r = u == t && (j == g && is_aborted_reply r)
is_finish t g (Decide u) r = false
is_finish t g (Withdraw u) r = false
is_finish t g (Settle u j) r = u == t && (j == g && is_accepted r)

-- Whether t has touched the ground g.
abbrev pub is_touched : History → ℕ → ℕ → Bool
is_touched h t g = list_any (λ e. is_touch t g e.0 e.1) h

-- From the first accepted read or prewrite at a ground until the validation there answers Aborted or the settlement there is accepted.
-- No later access makes it pending again.
abbrev pub is_pending : History → ℕ → ℕ → Bool
is_pending [] t g = false
is_pending (e ∷ h) t g =
    not (is_finish t g e.0 e.1) && (is_pending h t g || (is_touch t g e.0 e.1 && not (is_touched h t g)))

-- A committed transaction is pending at a ground. Where this is false of every ground, no transaction is owed a settlement.
abbrev pub is_owed : History → ℕ → Bool
is_owed h g = list_any (λ c. is_pending h c.number g) (commits h)
