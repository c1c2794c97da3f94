-- What was seen, put and decided, by the lines of a register: how the lines and what the ledger says of them change together.
--   first_seen, again_seen   a read that adds a line, and one that was answered before
--   first_put, again_put     a prewrite that adds a line, and one that replaces a value
--   begun_stamps             a transaction that begins has no stamp
--   decided_stamps           one that is decided has the stamp of its decision
use Rattle.protocol.specs.Replies.{Response}
use Rattle.std.proofs.Common.{◌≡◌, ℕ, Bool, true, false, cond, ◌&&◌, eqb, List, [], ◌∷◌, ◌++◌, ℤ, Some, None, Ok, Option, sym, refl, ap, ◌∙◌, subst}
use Rattle.std.proofs.lemmas.Bool.{and_parts, eqb-true, eq-eqb}
use Rattle.std.specs.Option.{option_map, option_or}
use Rattle.base.specs.declared.stamp.Stamp.{Stamp}
use Rattle.book.specs.Books.{line_with}
use Rattle.lines.specs.LineKeys.{read_key, write_key, same_access}
use Rattle.lines.specs.declared.access.AccessKey.{AccessKey}
use Rattle.lines.specs.declared.access.ReadLine.{ReadLine}
use Rattle.lines.specs.declared.access.WriteLine.{WriteLine}
use Rattle.lines.specs.declared.transaction.Decision.{Decision}
use Rattle.lines.specs.declared.transaction.Transaction.{Transaction}
use Rattle.protocol.specs.Checks.{check_open_line, check_open_decision}
use Rattle.protocol.specs.Model.{with_line}
use Rattle.protocol.specs.declared.call.Reply.TheVariants as reply
use Rattle.serial.proofs.Ledger.Fates.{sight_or}
use Rattle.serial.proofs.Lines.Found.{find_append, find_replaced, find_other, or_none}
use Rattle.serial.proofs.Ledger.Linked.{decided_stamp, line_stamp}
use Rattle.serial.proofs.Lines.ByKey.{by_test, by_key, and_true, own_key}

-- The key of a line.
abbrev access : ℕ → ℕ → AccessKey
access t k = record { transaction = t; key = k }

-- A line of one key has no other.
other_access : (t k u j : ℕ) → (eqb t u && eqb k j) ≡ false → (x : AccessKey) → same_access x (access t k) ≡ true
    → same_access x (access u j) ≡ false
other_access t k u j n x e =
    let p = and_parts (eqb x.transaction t) _ e in
    let a = eqb-true _ _ p.0 in
    let b = eqb-true _ _ p.1 in
    rw (a, b) n

-- What a read line says was seen.
abbrev sight_in_line : ReadLine → ℤ × ℕ
sight_in_line x = (x.value, x.seen.number)

module _ (f : ℕ → ℕ → Option (ℤ × ℕ)) (xs : List ReadLine) (t k : ℕ)
    (shown : (u j : ℕ) → f u j ≡ option_map sight_in_line (line_with same_access read_key (access u j) xs)) where
  -- A read that was answered before.
  pub again_seen : (x : ReadLine) (r : Response) → line_with same_access read_key (access t k) xs ≡ Some x → (u j : ℕ)
      → cond (eqb t u && eqb k j) (sight_or (f u j) r) (f u j) ≡ option_map sight_in_line (line_with same_access read_key (access u j) xs)
  again_seen x r at u j =
      by_key (λ v i b. cond b (sight_or (f v i) r) (f v i) ≡ option_map sight_in_line (line_with same_access read_key (access v i) xs)) t k u j
      (rw (shown t k, at) refl) (λ _. shown u j)

  -- A first read.
  pub first_seen : (value : ℤ) (s : Stamp) → line_with same_access read_key (access t k) xs ≡ None → (u j : ℕ)
      → cond (eqb t u && eqb k j) (sight_or (f u j) (Ok (reply.Value value s))) (f u j)
      ≡ option_map sight_in_line (line_with same_access read_key (access u j)
      (xs ++ record { transaction = t; key = k; value = value; seen = s } ∷ []))
  first_seen value s at u j =
      rw (find_append same_access read_key (access u j) xs (record { transaction = t; key = k; value = value; seen = s } ∷ []))
      (by_key (λ v i b. cond b (sight_or (f v i) (Ok (reply.Value value s))) (f v i)
      ≡ option_map sight_in_line (option_or (line_with same_access read_key (access v i) xs)
      (cond b (Some (record { transaction = t; key = k; value = value; seen = s })) None))) t k u j
      (rw (shown t k, at) refl) (λ _. rw (or_none (line_with same_access read_key (access u j) xs)) (shown u j)))

-- What a write line says was put.
abbrev value_in_line : WriteLine → ℤ
value_in_line x = x.value

module _ (f : ℕ → ℕ → Option ℤ) (xs : List WriteLine) (t k : ℕ) (value : ℤ)
    (shown : (u j : ℕ) → f u j ≡ option_map value_in_line (line_with same_access write_key (access u j) xs)) where
  abbrev line : WriteLine
  line = record { transaction = t; key = k; value = value }

  -- A prewrite that replaces a value.
  pub again_put : (x : WriteLine) → line_with same_access write_key (access t k) xs ≡ Some x → (u j : ℕ)
      → cond (eqb t u && (eqb k j && true)) (Some value) (f u j)
      ≡ option_map value_in_line (line_with same_access write_key (access u j) (with_line same_access write_key (access t k) line xs))
  again_put x at u j =
      rw (and_true (eqb t u) (eqb k j))
      (by_key (λ v i b. cond b (Some value) (f v i)
      ≡ option_map value_in_line (line_with same_access write_key (access v i) (with_line same_access write_key (access t k) line xs))) t k u j
      (ap (option_map value_in_line) (sym (find_replaced same_access write_key (access t k) line x (own_key t k) xs at)))
      (λ n. shown u j ∙ ap (option_map value_in_line) (sym (find_other same_access write_key (access u j) (access t k) line n
      (λ y. other_access t k u j n (write_key y)) xs))))

  -- A first prewrite.
  pub first_put : line_with same_access write_key (access t k) xs ≡ None → (u j : ℕ)
      → cond (eqb t u && (eqb k j && true)) (Some value) (f u j)
      ≡ option_map value_in_line (line_with same_access write_key (access u j) (xs ++ line ∷ []))
  first_put at u j =
      rw (and_true (eqb t u) (eqb k j), find_append same_access write_key (access u j) xs (line ∷ []))
      (by_key (λ v i b. cond b (Some value) (f v i)
      ≡ option_map value_in_line (option_or (line_with same_access write_key (access v i) xs) (cond b (Some line) None))) t k u j
      (rw at refl) (λ _. rw (or_none (line_with same_access write_key (access u j) xs)) (shown u j)))

-- The line of a transaction among some.
abbrev number_in : List Transaction → ℕ → Option Transaction
number_in xs u = line_with eqb (λ x. x.number) u xs

-- The lines with a decision.
abbrev lines_decided : ℕ → Decision → List Transaction → List Transaction
lines_decided t d xs = with_line eqb (λ x. x.number) t (record { number = t; decision = Some d }) xs

-- An open transaction has a line, and no stamp.
pub open_stamp : (o : Option Transaction) → check_open_line o ≡ Ok tt → line_stamp o ≡ None
open_stamp None e = refl
open_stamp (Some x) e = go x.decision e
  where
    go : (d : Option Decision) → check_open_decision d ≡ Ok tt → decided_stamp d ≡ None
    go None q = refl
    go (Some d) q = absurd cc

module _ (f : ℕ → Option ℕ) (xs : List Transaction) (t : ℕ) (shown : (u : ℕ) → f u ≡ line_stamp (number_in xs u)) where
  -- A transaction that begins has no stamp.
  pub begun_stamps : (u : ℕ) → f u ≡ line_stamp (number_in (xs ++ record { number = t; decision = None } ∷ []) u)
  begun_stamps u =
      rw (find_append eqb (λ x. x.number) u xs (record { number = t; decision = None } ∷ []))
      (shown u ∙ go (number_in xs u) (eqb t u))
    where
      go : (o : Option Transaction) (b : Bool)
          → line_stamp o ≡ line_stamp (option_or o (cond b (Some (record { number = t; decision = None })) None))
      go (Some x) b = refl
      go None true = refl
      go None false = refl

  -- A transaction that is decided has the stamp of its decision.
  pub decided_stamps : (a : ℕ → Option ℕ) (d : Decision) → check_open_line (number_in xs t) ≡ Ok tt → a t ≡ decided_stamp (Some d) → (u : ℕ)
      → cond (eqb t u) (a u) (f u) ≡ line_stamp (number_in (lines_decided t d xs) u)
  decided_stamps a d fate_begun own u =
      by_test (λ b. cond b (a u) (f u) ≡ line_stamp (number_in (lines_decided t d xs) u)) (eqb t u)
      (λ e. subst (λ v. a v ≡ line_stamp (number_in (lines_decided t d xs) v)) (eqb-true _ _ e)
      (own ∙ here (number_in xs t) refl fate_begun))
      (λ n. shown u ∙ ap line_stamp (sym (find_other eqb (λ x. x.number) u t (record { number = t; decision = Some d }) n
      (λ x s. ap (λ v. eqb v u) (eqb-true _ _ s) ∙ n) xs)))
    where
      here : (o : Option Transaction) → number_in xs t ≡ o → check_open_line o ≡ Ok tt
          → decided_stamp (Some d) ≡ line_stamp (number_in (lines_decided t d xs) t)
      here None e q = absurd cc
      here (Some x) e q =
          ap line_stamp (sym (find_replaced eqb (λ y. y.number) t (record { number = t; decision = Some d }) x (eq-eqb t t refl) xs e))
