-- Every accepted read of a key by one transaction is answered alike.
--   alike_step   what was answered alike before a call is so after it
use Rattle.protocol.specs.Replies.{Response}
use Rattle.std.proofs.Common.{◌≡◌, ℕ, Bool, true, false, cond, ◌&&◌, eqb, List, [], ◌∷◌, map, ℤ, Some, refl, ap, ◌∙◌, subst, Ok, Err}
use Rattle.std.proofs.ByRecursion.{All-append, All-weaker}
use Rattle.std.proofs.lemmas.Bool.{eqb-true}
use Rattle.std.specs.Option.{option_map}
use Rattle.std.specs.List.{AllByRecursion}
use Rattle.protocol.specs.Calls.{step, value_response}
use Rattle.protocol.specs.Model.{Model, Chooses}
use Rattle.protocol.specs.declared.call.Call.{Call}
use Rattle.protocol.specs.declared.call.Call.TheVariants as call
use Rattle.protocol.specs.declared.call.Reply.TheVariants as reply
use Rattle.serial.specs.Ledger.{History, value_in, reads_of}
use Rattle.serial.proofs.Lines.ByKey.{at_key}
use Rattle.serial.proofs.Ledger.Fates.{sight_or, sight_of}
use Rattle.serial.proofs.Ledger.Linked.{Linked}
use Rattle.serial.proofs.Ledger.Silent.{either}
use Rattle.serial.proofs.Outcomes.Accesses.{read_cases}
use Rattle.serial.proofs.Invariant.{Saw, AlikeReads}

-- What was seen stays seen.
seen_kept : (h : History) (t k u j : ℕ) (r : Response) (x : ℤ × ℕ) → sight_of h u j ≡ Some x → sight_of ((call.Read t k, r) ∷ h) u j ≡ Some x
seen_kept h t k u j r x e = ap (λ o. cond (eqb t u && eqb k j) (sight_or o r) o) e ∙ either (eqb t u && eqb k j) (Some x) (Some x) refl

-- A read whose value is what was seen.
read_alike : (h : History) (t k : ℕ) (r : Response) → AlikeReads h
    → AllByRecursion (λ v. Saw ((call.Read t k, r) ∷ h) t (k, v)) (value_in r) → AlikeReads ((call.Read t k, r) ∷ h)
read_alike h t k r old now u =
    All-append (Saw ((call.Read t k, r) ∷ h) u) (cond (eqb t u) (map (λ v. (k, v)) (value_in r)) []) (reads_of h u)
    (own (eqb t u) refl)
    (All-weaker (Saw h u) (Saw ((call.Read t k, r) ∷ h) u) (λ p q. (q.0, seen_kept h t k u p.0 r (p.1, q.0) q.1)) (reads_of h u) (old u))
  where
    each : (vs : List ℤ) → AllByRecursion (λ v. Saw ((call.Read t k, r) ∷ h) t (k, v)) vs
        → AllByRecursion (Saw ((call.Read t k, r) ∷ h) t) (map (λ v. (k, v)) vs)
    each [] a = tt
    each (v ∷ vs) a = (a.0, each vs a.1)

    own : (b : Bool) → eqb t u ≡ b → AllByRecursion (Saw ((call.Read t k, r) ∷ h) u) (cond b (map (λ v. (k, v)) (value_in r)) [])
    own true e =
        subst (λ a. AllByRecursion (Saw ((call.Read t k, r) ∷ h) a) (map (λ v. (k, v)) (value_in r)))
        (eqb-true t u e) (each (value_in r) now)
    own false e = tt

-- The calls that are no reads answer no value.
pub alike_step : (P : Chooses) (m : Model) (h : History) → Linked h m → AlikeReads h → (c : Call) → AlikeReads ((c, (step P m c).1) ∷ h)
alike_step P m h L a (call.Begin t) = a
alike_step P m h L a (call.Read t k) =
    read_cases m t k (λ o. AlikeReads ((call.Read t k, value_response o.1) ∷ h))
    (λ e. read_alike h t k (Err e) a tt)
    (λ r _ at.
    let s = L.reads t k ∙ ap (option_map (λ x. (x.value, x.seen.number))) at in
    read_alike h t k (Ok (reply.Value r.value r.seen)) a ((r.seen.number, seen_kept h t k t k (Ok (reply.Value r.value r.seen)) _ s), tt))
    (λ c _ _ _ _ none.
    let s = L.reads t k ∙ ap (option_map (λ x. (x.value, x.seen.number))) none in
    read_alike h t k (Ok (reply.Value c.value c.write)) a
    ((c.write.number, at_key t k _ (sight_of h t k) ∙ ap (λ o. sight_or o (Ok (reply.Value c.value c.write))) s), tt))
alike_step P m h L a (call.Prewrite t k v) = a
alike_step P m h L a (call.Validate t g) = a
alike_step P m h L a (call.Decide t) = a
alike_step P m h L a (call.Withdraw t) = a
alike_step P m h L a (call.Settle t g) = a
