-- What both stores of a split keep at a put, the split keeps. Proofs for its impl, which may import from here alone.
use Rattle.std.proofs.Common.{◌≡◌, ℕ, List, ◌++◌, Result, ap, ap₂, subst, sym, ⊎_elim}
use Rattle.base.specs.declared.refusal.Refusal.{Refusal}
use Rattle.store.specs.declared.split.Split.{Split}
use Rattle.store.specs.Splits.{OneSide, both_lists, BothAre}

module _ {L R : Type 0} (f : L → List ℕ) (g : R → List ℕ)
    (p : L → Result Unit Refusal → L → Type 0) (q : R → Result Unit Refusal → R → Type 0) where
  pub both_stay : (s t : Split L R) (r : Result Unit Refusal) → ((a b : L) → p a r b → f b ≡ f a) → ((a b : R) → q a r b → g b ≡ g a)
      → OneSide p q s r t → both_lists f g t ≡ both_lists f g s
  both_stay s t r left right one =
      ⊎_elim
      (λ (h : p s.left r t.left × (t.right ≡ s.right)). ap₂ (λ (a b : List ℕ). a ++ b) (left s.left t.left h.0) (ap g h.1))
      (λ (h : q s.right r t.right × (t.left ≡ s.left)). ap₂ (λ (a b : List ℕ). a ++ b) (ap f h.1) (right s.right t.right h.0))
      one

module _ {L R : Type 0} (f : L → Type 0) (g : R → Type 0)
    (p : L → Result Unit Refusal → L → Type 0) (q : R → Result Unit Refusal → R → Type 0) where
  pub both_stay_sound : (s t : Split L R) (r : Result Unit Refusal) → ((a b : L) → p a r b → f a → f b)
      → ((a b : R) → q a r b → g a → g b) → OneSide p q s r t → BothAre f g s → BothAre f g t
  both_stay_sound s t r left right one h =
      ⊎_elim
      (λ (i : p s.left r t.left × (t.right ≡ s.right)). (left s.left t.left i.0 h.0, subst g (sym i.1) h.1))
      (λ (i : q s.right r t.right × (t.left ≡ s.left)). (subst f (sym i.1) h.0, right s.right t.right i.0 h.1))
      one
