-- A ground that a transaction never touched.
--   rowless_untouched   one where it has no row
--   unseen              a refused read shows nothing
--   untouched           nothing was seen and nothing was put at a key of one
use Rattle.protocol.specs.Replies.{Response}
use Rattle.std.proofs.Common.{◌≡◌, ℕ, Bool, true, false, cond, ◌&&◌, eqb, [], ◌∷◌, ℤ, Some, None, Option, sym, refl, ap, ◌∙◌, Ok, Err}
use Rattle.std.proofs.lemmas.Bool.{eq-eqb, or_from, or_parts, true≢false}
use Rattle.base.specs.Keys.{ground_of}
use Rattle.lines.specs.Locks.{row_of}
use Rattle.protocol.specs.Model.{Model}
use Rattle.protocol.specs.declared.call.Call.{Call}
use Rattle.protocol.specs.declared.call.Call.TheVariants as call
use Rattle.protocol.specs.declared.call.Reply.TheVariants as reply
use Rattle.serial.specs.Ledger.{History, last_prewrite, is_accepted, is_touch, is_touched, prewrite_in}
use Rattle.serial.proofs.Ledger.Fates.{Fate, Away, Running, Past, Gone, fate_begun, fate_judged, settled_fate, sight_or, sight_in, fate_in, fate, sight_of, stamp_of}
use Rattle.serial.proofs.Ledger.Linked.{Linked, row_fate}
use Rattle.serial.proofs.Lines.ByKey.{by_key}

-- A refused read shows nothing.
pub unseen : (o : Option (ℤ × ℕ)) (r : Response) → is_accepted r ≡ false → sight_or o r ≡ o
unseen (Some x) r e = refl
unseen None (Ok reply.Done) e = absurd (true≢false e)
unseen None (Ok (reply.Value v s)) e = absurd (true≢false e)
unseen None (Ok (reply.Range l u)) e = absurd (true≢false e)
unseen None (Ok (reply.Committed s)) e = absurd (true≢false e)
unseen None (Ok reply.Aborted) e = absurd (true≢false e)
unseen None (Err x) e = refl

-- A transaction that has begun at a ground is not away.
begun_there : (f : Fate) → fate_begun f ≡ Away → ⊥
begun_there Away e = absurd cc
begun_there Running e = absurd cc
begun_there (Past b l u) e = absurd cc
begun_there Gone e = absurd cc

-- One that is away after a validation was before it.
judged_away : (r : Response) (f : Fate) → fate_judged r f ≡ Away → f ≡ Away
judged_away (Ok reply.Done) f e = e
judged_away (Ok (reply.Value v s)) f e = e
judged_away (Ok (reply.Range l u)) f e = absurd cc
judged_away (Ok (reply.Committed s)) f e = e
judged_away (Ok reply.Aborted) f e = absurd cc
judged_away (Err x) f e = e

settled_there : (o : Option ℕ) → settled_fate o ≡ Away → ⊥
settled_there None e = absurd cc
settled_there (Some c) e = absurd cc

-- After an entry that may have begun it there.
away_still : (b : Bool) (f : Fate) → cond b (fate_begun f) f ≡ Away → (b ≡ false) × (f ≡ Away)
away_still true f e = absurd (begun_there f e)
away_still false f e = (refl, e)

-- An entry after which a transaction is away did not touch the ground, and the transaction was away before it.
entry_away : (t g : ℕ) (c : Call) (r : Response) (s : Option ℕ) (f : Fate) → fate_in t g c r s f ≡ Away
    → (is_touch t g c r ≡ false) × (f ≡ Away)
entry_away t g (call.Begin u) r s f e = (refl, e)
entry_away t g (call.Read u k) r s f e = away_still _ f e
entry_away t g (call.Prewrite u k v) r s f e = away_still _ f e
entry_away t g (call.Validate u j) r s f e = (refl, go (eqb u t && eqb j g) e)
  where
    go : (b : Bool) → cond b (fate_judged r f) f ≡ Away → f ≡ Away
    go true q = judged_away r f q
    go false q = q
entry_away t g (call.Decide u) r s f e = (refl, e)
entry_away t g (call.Withdraw u) r s f e = (refl, e)
entry_away t g (call.Settle u j) r s f e = (refl, go (eqb u t && (eqb j g && is_accepted r)) e)
  where
    go : (b : Bool) → cond b (settled_fate s) f ≡ Away → f ≡ Away
    go true q = absurd (settled_there s q)
    go false q = q

-- A ground from which a transaction is away was never touched.
away_untouched : (h : History) (t g : ℕ) → fate h t g ≡ Away → is_touched h t g ≡ false
away_untouched [] t g e = refl
away_untouched (x ∷ h) t g e =
    let a = entry_away t g x.0 x.1 (stamp_of h t) (fate h t g) e in
    or_from (is_touch t g x.0 x.1) _ a.0 (away_untouched h t g a.1)

-- So is one where it has no row, while the ledger and the books say the same.
pub rowless_untouched : (h : History) (m : Model) → Linked h m → (t g : ℕ) → row_of m.rows t g ≡ None → is_touched h t g ≡ false
rowless_untouched h m linked t g e = away_untouched h t g (linked.rows t g ∙ ap row_fate e)

-- Two tests and a third.
and_assoc : (x y b : Bool) → (x && (y && b)) ≡ ((x && y) && b)
and_assoc true y b = refl
and_assoc false y b = refl

-- An entry of a transaction at its own ground.
own_test : (t g : ℕ) (b : Bool) → (eqb t t && (eqb g g && b)) ≡ b
own_test t g b = rw (eq-eqb t t refl, eq-eqb g g refl) refl

-- Nothing was seen and nothing was put.
abbrev NothingSaid : Option (ℤ × ℕ) → Option ℤ → Type 0
NothingSaid o p = (o ≡ None) × (p ≡ None)

-- After an entry that does not touch the ground of a key this lasts.
entry_silent : (t k : ℕ) (c : Call) (r : Response) (o : Option (ℤ × ℕ)) (p : Option ℤ) → NothingSaid o p
    → is_touch t (ground_of k) c r ≡ false → NothingSaid (sight_in t k c r o) (prewrite_in t k c r p)
entry_silent t k (call.Begin u) r o p none e = none
entry_silent t k (call.Read u j) r o p none e = (
  by_key (λ v i b. (eqb u v && (eqb (ground_of j) (ground_of i) && is_accepted r)) ≡ false → cond b (sight_or o r) o ≡ None) u j t k
      (λ n. unseen o r (sym (own_test u (ground_of j) (is_accepted r)) ∙ n) ∙ none.0) (λ _ _. none.0) e,
  none.1,
)
entry_silent t k (call.Prewrite u j v) r o p none e = (
  none.0,
  rw (and_assoc (eqb u t) (eqb j k) (is_accepted r))
      (by_key (λ x i b. (eqb u x && (eqb (ground_of j) (ground_of i) && is_accepted r)) ≡ false
      → cond (b && is_accepted r) (Some v) p ≡ None) u j t k
      (λ n. let q = sym (own_test u (ground_of j) (is_accepted r)) ∙ n in rw q none.1) (λ _ _. none.1) e),
)
entry_silent t k (call.Validate u g) r o p none e = none
entry_silent t k (call.Decide u) r o p none e = none
entry_silent t k (call.Withdraw u) r o p none e = none
entry_silent t k (call.Settle u g) r o p none e = none

-- Nothing was seen and nothing was put at a key of a ground that was never touched.
pub untouched : (h : History) (t k : ℕ) → is_touched h t (ground_of k) ≡ false → NothingSaid (sight_of h t k) (last_prewrite h t k)
untouched [] t k e = (refl, refl)
untouched (x ∷ h) t k e =
    let n = or_parts (is_touch t (ground_of k) x.0 x.1) _ e in
    entry_silent t k x.0 x.1 (sight_of h t k) (last_prewrite h t k) (untouched h t k n.1) n.0
