-- What is to hold after a call, and that it holds after a call that is refused.
--   silent_sound         the invariant lasts where nothing new is said
--   SoundAfter           what is to hold: the invariant, and what holds of stamps
--   refused              it holds after a call that is refused
--   no_stamp, no_suits   an open transaction has no stamp; so no stamp has to suit any fate of it
use Rattle.protocol.specs.Replies.{Response}
use Rattle.std.proofs.Common.{◌≡◌, ℕ, ◌∷◌, ℤ, Option, Some, None, Ok, Result, sym, ap, ◌∙◌, subst, ap₂, Err}
use mathlib.Core.Path.{fun_ext}
use Rattle.store.specs.Stores.{Cells}
use Rattle.base.specs.declared.refusal.Refusal.{Refusal}
use Rattle.protocol.specs.Checks.{check_open}
use Rattle.protocol.specs.Model.{Model, transaction_of}
use Rattle.protocol.specs.declared.call.Call.{Call}
use Rattle.serial.specs.Ledger.{History, commits, last_prewrite}
use Rattle.serial.proofs.Ledger.Fates.{Fate, fate, sight_of, stamp_of}
use Rattle.serial.proofs.Ledger.LinkedLines.{open_stamp}
use Rattle.serial.proofs.Outcomes.Checks.{Outcome}
use Rattle.serial.proofs.Ledger.Silent.{Silent, refused_silent}
use Rattle.serial.proofs.Steps.StampedSteps.{silent_stamped}
use Rattle.serial.proofs.Invariant.{Sound, view, Suits, Stamped, Invariant}

-- The invariant lasts where nothing new is said.
pub silent_sound : (first : Cells) (m : Model) (h : History) (e : Call × Response) → Silent h e → Sound first (view h m)
    → Sound first (view (e ∷ h) m)
silent_sound first m h e s =
    subst (Sound first) (sym
    (ap₂ (λ (f : ℕ → ℕ → Fate) (p : ℕ → ℕ → Option ℤ). record { fates = f; seen = sight_of (e ∷ h); put = p; cells = m.cells; notes = m.notes })
    (fun_ext (λ t. fun_ext (s.fates t))) (fun_ext (λ t. fun_ext (s.puts t)))
    ∙ ap (λ q. record { fates = fate h; seen = q; put = last_prewrite h; cells = m.cells; notes = m.notes })
    (fun_ext (λ t. fun_ext (s.sights t)))))

module _ (first : Cells) (h : History) where
  -- The invariant after a call, and what holds of stamps.
  abbrev pub SoundAfter : {B : Type 0} → Call → (Result B Refusal → Response) → Outcome B → Type 0
  SoundAfter c f o = Sound first (view ((c, f o.1) ∷ h) o.0) × Stamped ((c, f o.1) ∷ h)

module _ (first : Cells) (m : Model) (h : History) (H : Invariant first h m) where
  -- An open transaction has no stamp.
  pub no_stamp : (t : ℕ) → check_open m t ≡ Ok tt → stamp_of h t ≡ None
  no_stamp t now = H.linked.stamps t ∙ open_stamp (transaction_of m t) now

  -- So whatever its fate becomes, no stamp has to suit it.
  pub no_suits : (t : ℕ) (f : Fate) → check_open m t ≡ Ok tt → (c : ℕ) → stamp_of h t ≡ Some c → Suits c f
  no_suits t f now c i = let n = no_stamp t now in absurd cc

  -- A refused call leaves the invariant, and what holds of stamps.
  pub refused : (c : Call) → ((e : Refusal) → commits ((c, Err e) ∷ h) ≡ commits h) → (e : Refusal)
      → Sound first (view ((c, Err e) ∷ h) m) × Stamped ((c, Err e) ∷ h)
  refused c same e =
      let q = refused_silent h c e in
      (silent_sound first m h (c, Err e) q H.sound, silent_stamped h H.stamped (c, Err e) q (same e))
