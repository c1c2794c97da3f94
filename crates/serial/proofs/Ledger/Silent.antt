-- An entry of the ledger that says nothing new.
--   Silent h e       with the entry e the history h says what it said without
--   refused_silent   that of a refused call does not
--   silent_linked    what held of the books holds still
use Rattle.protocol.specs.Replies.{Response}
use Rattle.std.proofs.Common.{◌≡◌, ℕ, Bool, true, false, cond, ◌&&◌, eqb, ◌∷◌, refl, ◌∙◌, Err}
use Rattle.std.proofs.lemmas.Bool.{and_right}
use Rattle.base.specs.Keys.{ground_of}
use Rattle.base.specs.declared.refusal.Refusal.{Refusal}
use Rattle.protocol.specs.Model.{Model}
use Rattle.protocol.specs.declared.call.Call.{Call}
use Rattle.protocol.specs.declared.call.Call.TheVariants as call
use Rattle.serial.specs.Ledger.{History, last_prewrite, prewrite_in}
use Rattle.serial.proofs.Ledger.Fates.{sight_in, stamp_from, fate_in, fate, sight_of, stamp_of}
use Rattle.serial.proofs.Ledger.Linked.{Linked}
use Rattle.serial.proofs.Ledger.Untouched.{unseen}

-- The same whether a test passes or not.
pub either : {A : Type 0} (b : Bool) (x y : A) → x ≡ y → cond b x y ≡ y
either true x y e = e
either false x y e = refl

-- A test that a refusal fails.
refused_test : {A : Type 0} (b c : Bool) (x y : A) → cond (b && (c && false)) x y ≡ y
refused_test b c x y = rw (and_right b (c && false) (and_right c false refl)) refl

-- With one more entry the ledger says what it said.
pub record Silent (h : History) (e : Call × Response) : Type 0 where
  pub fates : (t g : ℕ) → fate (e ∷ h) t g ≡ fate h t g
  pub sights : (t k : ℕ) → sight_of (e ∷ h) t k ≡ sight_of h t k
  pub puts : (t k : ℕ) → last_prewrite (e ∷ h) t k ≡ last_prewrite h t k
  pub stamps : (t : ℕ) → stamp_of (e ∷ h) t ≡ stamp_of h t

-- The ledger and the books still say the same.
pub silent_linked : (m : Model) (h : History) (e : Call × Response) → Silent h e → Linked h m → Linked (e ∷ h) m
silent_linked m h e s linked = record {
  rows = λ t g. s.fates t g ∙ linked.rows t g;
  reads = λ t k. s.sights t k ∙ linked.reads t k;
  writes = λ t k. s.puts t k ∙ linked.writes t k;
  stamps = λ t. s.stamps t ∙ linked.stamps t;
}

-- A refused call says nothing new.
pub refused_silent : (h : History) (c : Call) (e : Refusal) → Silent h (c, Err e)
refused_silent h c e =
    record { fates = λ t g. fates t g c; sights = λ t k. sights t k c; puts = λ t k. puts t k c; stamps = λ t. stamp t c }
  where
    fates : (t g : ℕ) (d : Call) → fate_in t g d (Err e) (stamp_of h t) (fate h t g) ≡ fate h t g
    fates t g (call.Begin u) = refl
    fates t g (call.Read u k) = refused_test (eqb u t) (eqb (ground_of k) g) _ _
    fates t g (call.Prewrite u k v) = refused_test (eqb u t) (eqb (ground_of k) g) _ _
    fates t g (call.Validate u j) = either (eqb u t && eqb j g) _ _ refl
    fates t g (call.Decide u) = refl
    fates t g (call.Withdraw u) = refl
    fates t g (call.Settle u j) = refused_test (eqb u t) (eqb j g) _ _

    sights : (t k : ℕ) (d : Call) → sight_in t k d (Err e) (sight_of h t k) ≡ sight_of h t k
    sights t k (call.Begin u) = refl
    sights t k (call.Read u j) = either (eqb u t && eqb j k) _ _ (unseen (sight_of h t k) (Err e) refl)
    sights t k (call.Prewrite u j v) = refl
    sights t k (call.Validate u g) = refl
    sights t k (call.Decide u) = refl
    sights t k (call.Withdraw u) = refl
    sights t k (call.Settle u g) = refl

    puts : (t k : ℕ) (d : Call) → prewrite_in t k d (Err e) (last_prewrite h t k) ≡ last_prewrite h t k
    puts t k (call.Begin u) = refl
    puts t k (call.Read u j) = refl
    puts t k (call.Prewrite u j v) = refused_test (eqb u t) (eqb j k) _ _
    puts t k (call.Validate u g) = refl
    puts t k (call.Decide u) = refl
    puts t k (call.Withdraw u) = refl
    puts t k (call.Settle u g) = refl

    stamp : (t : ℕ) (d : Call) → stamp_from t d (Err e) (stamp_of h t) ≡ stamp_of h t
    stamp t (call.Begin u) = refl
    stamp t (call.Read u k) = refl
    stamp t (call.Prewrite u k v) = refl
    stamp t (call.Validate u g) = refl
    stamp t (call.Decide u) = either (eqb u t) _ _ refl
    stamp t (call.Withdraw u) = refl
    stamp t (call.Settle u g) = refl
