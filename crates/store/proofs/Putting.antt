-- Puts, one after the other.
--   same_store  none are some puts
--   one_put     a put is some puts
--   puts_then   some puts and then some more are some puts
use Rattle.std.proofs.Common.{◌≡◌, Result, sym, subst}
use Rattle.base.specs.declared.refusal.Refusal.{Refusal}
use Rattle.store.specs.Stores.{Puts, none, more}

module _ {S : Type 0} (beside : S → Result Unit Refusal → S → Type 0) where
  pub one_put : (s t : S) (r : Result Unit Refusal) → beside s r t → Puts beside s t
  one_put s t r h = more s s t r (none s) h

  pub puts_then : (s t u : S) → Puts beside s t → Puts beside t u → Puts beside s u
  puts_then s t u h (none v) = h
  puts_then s t u h (more v w x r i j) = more s w x r (puts_then s v w h i) j

  pub same_store : (s t : S) → t ≡ s → Puts beside s t
  same_store s t e = subst (Puts beside s) (sym e) (none s)
