-- Nobody is pending after a history, if none of those is who accessed a ground in it.
--   none_pending   where nobody who accessed a ground is pending there, nobody is pending at all
use Rattle.protocol.specs.Replies.{Response}
use Rattle.std.proofs.Common.{◌≡◌, ℕ, Bool, true, false, ◌&&◌, ◌||◌, eqb, List, [], ◌∷◌, not, sym, ◌∙◌, ap₂, inl, ⊎_elim}
use Rattle.std.proofs.lemmas.Bool.{and_parts, cases_Bool, eqb-true, false≢true, or_cases, true≢false}
use Rattle.std.specs.List.{flat_map, list_any}
use Rattle.base.specs.Keys.{ground_of}
use Rattle.protocol.specs.declared.call.Call.{Call}
use Rattle.protocol.specs.declared.call.Call.TheVariants.{Begin, Read, Prewrite, Validate, Decide, Withdraw, Settle}
use Rattle.serial.specs.Alone.{NonePending}
use Rattle.serial.specs.Ledger.{History, is_accepted, is_touch, is_touched, is_finish, is_pending}
use Rattle.serial.proofs.Lines.Member.{In, in_left, in_right, in_none}

-- Who accesses which ground by a call.
abbrev access_of : Call → List (ℕ × ℕ)
access_of (Begin t) = []
access_of (Read t k) = (t, ground_of k) ∷ []
access_of (Prewrite t k v) = (t, ground_of k) ∷ []
access_of (Validate t g) = []
access_of (Decide t) = []
access_of (Withdraw t) = []
access_of (Settle t g) = []

-- Who accesses which ground by the calls of a history.
abbrev accesses : History → List (ℕ × ℕ)
accesses h = flat_map (λ e. access_of e.0) h

-- A pair that is the same as another by the tests is in the list of that other.
one_listed : (u j t g : ℕ) (b : Bool) → (eqb u t && (eqb j g && b)) ≡ true → In {X = ℕ × ℕ} (t, g) ((u, j) ∷ [])
one_listed u j t g b q =
    let p = and_parts (eqb u t) _ q in
    let s = and_parts (eqb j g) _ p.1 in
    inl (ap₂ (λ (x y : ℕ). (x, y)) (eqb-true u t p.0) (eqb-true j g s.0))

-- A touch is an access.
touch_listed : (c : Call) (r : Response) (t g : ℕ) → is_touch t g c r ≡ true → In (t, g) (access_of c)
touch_listed (Begin u) r t g e = absurd (false≢true e)
touch_listed (Read u k) r t g e = one_listed u (ground_of k) t g (is_accepted r) e
touch_listed (Prewrite u k v) r t g e = one_listed u (ground_of k) t g (is_accepted r) e
touch_listed (Validate u j) r t g e = absurd (false≢true e)
touch_listed (Decide u) r t g e = absurd (false≢true e)
touch_listed (Withdraw u) r t g e = absurd (false≢true e)
touch_listed (Settle u j) r t g e = absurd (false≢true e)

-- Whoever is pending at a ground made an access there.
pending_listed : (h : History) (t g : ℕ) → is_pending h t g ≡ true → In (t, g) (accesses h)
pending_listed [] t g e = absurd (false≢true e)
pending_listed (x ∷ h) t g e =
    ⊎_elim
    (λ (a : is_pending h t g ≡ true). in_right (t, g) (access_of x.0) (accesses h) (pending_listed h t g a))
    (λ (a : (is_touch t g x.0 x.1 && not (is_touched h t g)) ≡ true).
    in_left (t, g) (access_of x.0) (accesses h) (touch_listed x.0 x.1 t g (and_parts (is_touch t g x.0 x.1) _ a).0))
    (or_cases (is_pending h t g) _
    (and_parts (not (is_finish t g x.0 x.1)) (is_pending h t g || (is_touch t g x.0 x.1 && not (is_touched h t g))) e).1)

-- So where none of those is pending, nobody is.
pub none_pending : (h : History) → list_any (λ p. is_pending h p.0 p.1) (accesses h) ≡ false → NonePending h
none_pending h e t g =
    ⊎_elim
    (λ (p : is_pending h t g ≡ true).
    absurd (true≢false (sym p ∙ in_none (λ (q : ℕ × ℕ). is_pending h q.0 q.1) (t, g) (accesses h) e (pending_listed h t g p))))
    (λ (p : is_pending h t g ≡ false). p)
    (cases_Bool (is_pending h t g))
