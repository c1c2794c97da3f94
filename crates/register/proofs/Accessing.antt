-- A first read or prewrite of a key: what it adds, and what it comes to.
--   needed_none      a row is needed where there is none
--   unwritten_none   a transaction that passes its check has no write line
--   read_notes       as many notes as there are locks of others
use Rattle.std.proofs.Common.{◌≡◌, ℕ, Bool, true, false, cond, map, length, is_none, Some, None, Ok, Option, Result, sym, refl, ap, ◌∙◌}
use Rattle.std.proofs.lemmas.List.{length-map}
use Rattle.std.specs.List.{list_any}
use Rattle.base.proofs.Clash.{clash}
use Rattle.base.specs.Refusals.{refused}
use Rattle.base.specs.declared.refusal.Refusal.{Refusal}
use Rattle.lines.specs.LineKeys.{write_key}
use Rattle.protocol.specs.Checks.{check_unwritten, is_write_of}
use Rattle.protocol.specs.Model.{Model}
use Rattle.protocol.specs.Noting.{notes_of_read, before_note, write_locks, others}
use Rattle.register.specs.Meetings.{met}
use Rattle.register.proofs.Meetings.{all_of_others}

pub needed_none : {A : Type 0} (o : Option A) → is_none o ≡ true → o ≡ None
needed_none None e = refl
needed_none (Some x) e = clash cc

module _ (m : Model) (t : ℕ) (e : check_unwritten m t ≡ Ok tt) where
  pub unwritten_none : list_any (is_write_of t) m.writes ≡ false
  unwritten_none = go (list_any (is_write_of t) m.writes) refl e
    where
      go : (b : Bool) → list_any (is_write_of t) m.writes ≡ b → cond {A = Result Unit Refusal} b (refused 7) (Ok tt) ≡ Ok tt → list_any (is_write_of t) m.writes ≡ false
      go true h f = clash cc
      go false h f = h

  pub all_met : (k : ℕ) → met m.rows t k (map write_key m.writes) ≡ write_locks m k
  all_met k = all_of_others m.rows t k m.writes unwritten_none

  pub read_notes : (k : ℕ) → length (notes_of_read m t k) ≡ length (others t (write_locks m k))
  read_notes k = length-map (write_locks m k) (before_note k t) ∙ ap length (sym (all_met k))
