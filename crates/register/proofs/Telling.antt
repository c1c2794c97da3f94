-- What notes say, note by note, in slots and entries.
--   told_none    before any note no slot is taken, and nothing is said
--   told_same    a note that says nothing of the transaction changes nothing
--   told_slot, told_entered   one that says something goes into the other's slot, or into the entries where that is another's
--   told_by      told by what equals them
--   at_slot      what a slot says of a row that it is for
--   at_entries   that the entries say it where it is for another
--   same_relation   that two relations are the same has one proof
--   no_note      what a read of notes has as its default
use Rattle.std.proofs.Common.{◌≡◌, ℕ, ◌%◌, Bool, true, false, ◌||◌, eqb, List, [], ◌∷◌, ◌++◌, length, get_or, set, replicate, Some, None, Option, sym, refl, ap, ◌∙◌, subst, arith}
use Rattle.std.proofs.Math.Bool.{Bool-set}
use Rattle.std.proofs.Math.Logic.{∥∥₁_elim}
use Rattle.std.proofs.lemmas.Bool.{eqb-true, eqb-false, true≢false}
use Rattle.std.proofs.lemmas.Bool.Decides.{nat_tests}
use Rattle.std.proofs.lemmas.List.Folds.{list_any-append}
use Rattle.std.specs.List.{list_any}
use Rattle.std.proofs.lemmas.List.{get_or-set_same, get_or-set_other, get_or-replicate}
use Rattle.lines.specs.declared.note.Note.{Note}
use Rattle.lines.specs.declared.note.Order.TheVariants.{Before}
use Rattle.lines.specs.declared.note.Side.{Side}
use Rattle.lines.specs.declared.row.Row.{Row}
use Rattle.lines.specs.declared.row.RowKey.{RowKey}
use Rattle.protocol.specs.Among.{other_party}
use Rattle.register.specs.Relations.{said, with_side, relation_of, is_earlier, is_later, is_apart}
use Rattle.register.specs.Slots.{side_at, is_of, is_own, is_for, slot_with, empty_slot, entered, IsEntered, IsSaid, AreTold}
use Rattle.register.specs.declared.relation.Relation.{Relation}
use Rattle.register.specs.declared.slots.Entry.{Entry}
use Rattle.register.specs.declared.slots.Slot.{Slot}
use Rattle.register.proofs.Entering.{own_entered, third_entered}

-- What a note says of a row that is the other party's, and of one that is not.
said_of_other : (t g : ℕ) (r : Row) (n : Note) → r.ground ≡ g → r.transaction ≡ other_party n t → said t g r n ≡ side_at n t g
said_of_other t g r n e f = grind (arith, nat_tests)

said_of_third : (t g : ℕ) (r : Row) (n : Note) → eqb r.transaction (other_party n t) ≡ false → said t g r n ≡ None
said_of_third t g r n e = grind (arith, nat_tests)

said_unsided : (t g : ℕ) (r : Row) (n : Note) → side_at n t g ≡ None → said t g r n ≡ None
said_unsided t g r n e = grind (arith, nat_tests)

-- What a read of notes has as its default.
abbrev pub no_note : Note
no_note = record { key = 0; first = 0; second = 0; order = Before }

-- What is another's is not this one's.
untaken : (o : Option ℕ) (u v : ℕ) → is_of o u ≡ true → eqb u v ≡ false → is_own o v ≡ false
untaken None u v own f = refl
untaken (Some w) u v own f = grind (arith, nat_tests)

not_own : (o : Option ℕ) (u : ℕ) → is_of o u ≡ false → is_own o u ≡ false
not_own None u other = refl
not_own (Some w) u other = other

-- Told by what equals them.
pub told_by : (k : RowKey) {xs ys : List Slot} {es fs : List Entry} {ms ns : List Note} → xs ≡ ys → es ≡ fs → ms ≡ ns → AreTold ys fs ns k
    → AreTold xs es ms k
told_by k {xs = xs} {es = es} {fs = fs} {ns = ns} a b c h =
    subst (λ ms. AreTold xs es ms k) (sym c) (subst (λ es. AreTold xs es ns k) (sym b) (subst (λ xs. AreTold xs fs ns k) (sym a) h))

-- That two relations are the same has one proof.
pub same_relation : {p q : Relation} → ∥ p ≡ q ∥₁ → p ≡ q
same_relation h i = record {
  earlier = ∥∥₁_elim h (Bool-set _ _) (ap (λ q. q.earlier)) i;
  later = ∥∥₁_elim h (Bool-set _ _) (ap (λ q. q.later)) i;
  apart = ∥∥₁_elim h (Bool-set _ _) (ap (λ q. q.apart)) i;
}

module _ (k : RowKey) where
  abbrev t : ℕ
  t = k.transaction

  abbrev g : ℕ
  g = k.ground

  pub told_none : AreTold (replicate 64 empty_slot) [] [] k
  told_none r here =
      subst (λ s. IsSaid [] s r (relation_of [] t g r)) (sym (get_or-replicate 64 (r.transaction % 64) empty_slot empty_slot (omega arith)))
      (λ _. refl, λ _ _. refl)

  module _ (n : Note) (ns : List Note) where
    -- One more note.
    one_more : (p : Note → Bool) → list_any p (ns ++ n ∷ []) ≡ (p n || list_any p ns)
    one_more p = list_any-append p ns (n ∷ []) ∙ either (list_any p ns) (p n)
      where
        either : (a b : Bool) → (a || (b || false)) ≡ (b || a)
        either a b = grind arith

    more : (r : Row) → relation_of (ns ++ n ∷ []) t g r ≡ with_side (said t g r n) (relation_of ns t g r)
    more r i = record {
      earlier = one_more (λ n. is_earlier (said t g r n)) i;
      later = one_more (λ n. is_later (said t g r n)) i;
      apart = one_more (λ n. is_apart (said t g r n)) i;
    }

    -- A note that says nothing of a row leaves what the others say of it.
    more_silent : (r : Row) → said t g r n ≡ None → relation_of (ns ++ n ∷ []) t g r ≡ relation_of ns t g r
    more_silent r e = more r ∙ ap (λ s. with_side s (relation_of ns t g r)) e

    pub told_same : (slots : List Slot) (es : List Entry) → side_at n t g ≡ None → AreTold slots es ns k → AreTold slots es (ns ++ n ∷ []) k
    told_same slots es e h r here =
        subst (IsSaid es (get_or slots (r.transaction % 64) empty_slot) r) (sym (more_silent r (said_unsided t g r n e))) (h r here)

    module _ (side : Side) (says : side_at n t g ≡ Some side) where
      abbrev u : ℕ
      u = other_party n t

      -- What it adds of the other's row, and of no one else's.
      more_of_other : (r : Row) → r.ground ≡ g → u ≡ r.transaction
          → relation_of (ns ++ n ∷ []) t g r ≡ with_side (Some side) (relation_of ns t g r)
      more_of_other r here same = more r ∙ ap (λ s. with_side s (relation_of ns t g r)) (said_of_other t g r n here (sym same) ∙ says)

      more_of_third : (r : Row) → eqb u r.transaction ≡ false → relation_of (ns ++ n ∷ []) t g r ≡ relation_of ns t g r
      more_of_third r e = more_silent r (said_of_third t g r n (grind (arith, nat_tests)))

      module _ (slots : List Slot) (es : List Entry) (are : AreTold slots es ns k) where
        abbrev home : Slot
        home = get_or slots (u % 64) empty_slot

        -- What is said before of a row that has this slot.
        before : (r : Row) → r.ground ≡ g → r.transaction % 64 ≡ u % 64 → IsSaid es home r (relation_of ns t g r)
        before r here same = subst (λ j. IsSaid es (get_or slots j empty_slot) r (relation_of ns t g r)) same (are r here)

        pub told_slot : length slots ≡ 64 → is_for home u ≡ true → AreTold (set slots (u % 64) (slot_with home u side)) es (ns ++ n ∷ []) k
        told_slot long own r here = go (eqb (r.transaction % 64) (u % 64)) refl
          where
            slot : Slot
            slot = slot_with home u side

            -- It says nothing more of those who are not the other.
            in_slot : (b : Bool) → eqb u r.transaction ≡ b → IsSaid es home r (relation_of ns t g r) → IsSaid es slot r (relation_of (ns ++ n ∷ []) t g r)
            in_slot true e h =
                let same : u ≡ r.transaction = eqb-true _ _ e in (
                  λ _. more_of_other r here same ∙ ap (with_side (Some side)) (h.0 (ap (is_for home) (sym same) ∙ own)),
                  λ f. absurd (true≢false (sym e ∙ f)),
                )
            in_slot false e h =
                subst (IsSaid es slot r) (sym (more_of_third r e))
                (λ f. absurd (true≢false (sym f ∙ e)), λ _. h.1 (untaken home.of u r.transaction own e))

            go : (b : Bool) → eqb (r.transaction % 64) (u % 64) ≡ b
                → IsSaid es (get_or (set slots (u % 64) slot) (r.transaction % 64) empty_slot) r (relation_of (ns ++ n ∷ []) t g r)
            go true e =
                let same : r.transaction % 64 ≡ u % 64 = eqb-true _ _ e in
                subst (λ s. IsSaid es s r (relation_of (ns ++ n ∷ []) t g r))
                (sym (ap (λ j. get_or (set slots (u % 64) slot) j empty_slot) same ∙ get_or-set_same slots (u % 64) slot empty_slot (omega (arith, long))))
                (in_slot (eqb u r.transaction) refl (before r here same))
            go false e =
                subst (λ s. IsSaid es s r (relation_of (ns ++ n ∷ []) t g r))
                (sym (get_or-set_other slots (u % 64) (r.transaction % 64) slot empty_slot (eqb-false _ _ e)))
                (subst (IsSaid es (get_or slots (r.transaction % 64) empty_slot) r) (sym (more_of_third r (grind (arith, nat_tests)))) (are r here))

        pub told_entered : is_for home u ≡ false → AreTold slots (entered es u side) (ns ++ n ∷ []) k
        told_entered other r here = go (eqb u r.transaction) refl
          where
            go : (b : Bool) → eqb u r.transaction ≡ b
                → IsSaid (entered es u side) (get_or slots (r.transaction % 64) empty_slot) r (relation_of (ns ++ n ∷ []) t g r)
            go true e =
                let same : u ≡ r.transaction = eqb-true _ _ e in
                let h = are r here in
                let others : is_for (get_or slots (r.transaction % 64) empty_slot) r.transaction ≡ false =
                ap (λ v. is_for (get_or slots (v % 64) empty_slot) v) (sym same) ∙ other in
                let said = h.1 (not_own (get_or slots (r.transaction % 64) empty_slot).of r.transaction others) in
                subst (IsSaid (entered es u side) (get_or slots (r.transaction % 64) empty_slot) r) (sym (more_of_other r here same)) (
                  λ own. absurd (true≢false (sym own ∙ others)),
                  λ _. subst (λ v. IsEntered (entered es u side) v (with_side (Some side) (relation_of ns t g r))) same
                      (own_entered es u (relation_of ns t g r) side (subst (λ v. IsEntered es v (relation_of ns t g r)) (sym same) said)),
                )
            go false e =
                let h = are r here in
                subst (IsSaid (entered es u side) (get_or slots (r.transaction % 64) empty_slot) r) (sym (more_of_third r e))
                (h.0, λ f. third_entered es u (relation_of ns t g r) side r.transaction e (h.1 f))

  module _ (slots : List Slot) (es : List Entry) (notes : List Note) (are : AreTold slots es notes k) (r : Row) (here : r.ground ≡ g) (s : Slot)
      (at : s ≡ get_or slots (r.transaction % 64) empty_slot) where
    said_by : IsSaid es s r (relation_of notes t g r)
    said_by = subst (λ s. IsSaid es s r (relation_of notes t g r)) (sym at) (are r here)

    -- What a slot says of a row that it is for.
    pub at_slot : is_for s r.transaction ≡ true → relation_of notes t g r ≡ s.relation
    at_slot own = said_by.0 own

    -- That the entries say it where it is for another.
    pub at_entries : is_for s r.transaction ≡ false → IsEntered es r.transaction (relation_of notes t g r)
    at_entries other = said_by.1 (not_own s.of r.transaction other)
