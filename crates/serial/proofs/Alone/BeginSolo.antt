-- A transaction that begins while none is pending is alone.
--   begun_solo   a begin that is accepted then leaves it alone
use Rattle.std.proofs.Common.{◌≡◌, ℕ, ◌<◌, ◌≤◌, Bool, true, false, cond, ◌&&◌, ltb, leb, List, Ok, Err, Result, sym, refl, ◌∙◌, inr, arith}
use Rattle.std.proofs.ByRecursion.{All-weaker}
use Rattle.std.proofs.lemmas.Bool.{and_parts, ltb-true, ne_eqb, true≢false, false≢true}
use Rattle.base.specs.declared.refusal.Refusal.{Refusal}
use Rattle.base.specs.declared.refusal.Refusal.TheVariants.{BadNumber}
use Rattle.lines.specs.declared.transaction.Transaction.{Transaction}
use Rattle.protocol.specs.Calls.{step, done_response}
use Rattle.protocol.specs.Checks.{last_begun, check_number}
use Rattle.protocol.specs.Model.{Model, Chooses, with_transactions}
use Rattle.protocol.specs.declared.call.Call.TheVariants as call
use Rattle.serial.specs.Alone.{NonePending}
use Rattle.serial.specs.Ledger.{History, is_accepted}
use Rattle.serial.proofs.Numbers.Known.{known_begun}
use Rattle.serial.proofs.Outcomes.Transactions.{begin_cases}
use Rattle.serial.proofs.Alone.Quiet.{Unnamed}
use Rattle.serial.proofs.Alone.Solo.{Solo}
use Rattle.serial.proofs.Alone.SoloStep.{SoloOrDecided}
use Rattle.serial.proofs.Invariant.{LivePending, Known}

-- A number above all in the books is none of them.
above_not : (n t u : ℕ) → n < t → u ≤ n → u ≡ t → ⊥
above_not n t u a b e = omega arith

-- A number that was accepted is above all that were begun.
new_above : (m : Model) (t : ℕ) → check_number m t ≡ Ok tt → last_begun m < t
new_above m t e = go (ltb (last_begun m) t && leb t 4095) refl e
  where
    go : (b : Bool) → (ltb (last_begun m) t && leb t 4095) ≡ b → ◌≡◌ {A = Result Unit Refusal} (cond b (Ok tt) (Err BadNumber)) (Ok tt)
        → last_begun m < t
    go true s q = ltb-true _ _ (and_parts (ltb (last_begun m) t) _ s).0
    go false s q = absurd cc

-- A transaction that begins while none is pending is alone.
begin_solo : (m : Model) (h : History) (t : ℕ) (xs : List Transaction) → Known m → LivePending m.rows h → NonePending h
    → last_begun m < t → Solo t m.cells (with_transactions m xs)
begin_solo m h t xs known lives none new =
    let b = known_begun m known in
    record {
      cells = refl;
      only = λ u j r at l. absurd (true≢false (sym (lives u j r at l) ∙ none u j));
      notes =
          All-weaker _ (Unnamed t)
          (λ n q. (ne_eqb _ _ (above_not (last_begun m) t n.first new q.0), ne_eqb _ _ (above_not (last_begun m) t n.second new q.1)))
          m.notes b.3;
      rows = All-weaker _ _ (λ r q e. absurd (above_not (last_begun m) t r.transaction new q e)) m.rows b.0;
      reads = All-weaker _ _ (λ r q e. absurd (above_not (last_begun m) t r.transaction new q e)) m.reads b.1;
      writes = All-weaker _ _ (λ r q e. absurd (above_not (last_begun m) t r.transaction new q e)) m.writes b.2;
    }

-- A begin that is accepted leaves its transaction alone.
pub begun_solo : (P : Chooses) (m : Model) (h : History) (t : ℕ) → Known m → LivePending m.rows h → NonePending h
    → is_accepted (step P m (call.Begin t)).1 ≡ true → SoloOrDecided t m.cells (step P m (call.Begin t)).0
begun_solo P m h t known lives none =
    begin_cases m t (λ o. is_accepted (done_response o.1) ≡ true → SoloOrDecided t m.cells o.0)
    (λ e q. absurd (false≢true q))
    (λ new _. inr (begin_solo m h t _ known lives none (new_above m t new)))
