-- Whatever comes of a read or a prewrite, the invariant lasts, and so does what holds of stamps.
--   sound_read       whatever comes of a read
--   sound_prewrite   whatever comes of a prewrite
use Rattle.protocol.specs.Replies.{Response}
use Rattle.std.proofs.Common.{◌≡◌, ℕ, false, ◌&&◌, eqb, ◌∷◌, ℤ, Ok, refl}
use Rattle.store.specs.Stores.{Cells}
use Rattle.base.specs.Keys.{ground_of}
use Rattle.lines.specs.Locks.{row_of}
use Rattle.protocol.specs.Calls.{read, prewrite, done_response, value_response}
use Rattle.protocol.specs.Checks.{check_open, check_not_stopped}
use Rattle.protocol.specs.Model.{Model}
use Rattle.protocol.specs.declared.call.Call.{Call}
use Rattle.protocol.specs.declared.call.Call.TheVariants as call
use Rattle.protocol.specs.declared.call.Reply.TheVariants as reply
use Rattle.serial.specs.Ledger.{History, commits}
use Rattle.serial.proofs.Lines.ByKey.{off_key_too}
use Rattle.serial.proofs.Steps.ReadSteps.{again_silent, read_first}
use Rattle.serial.proofs.Steps.Accessed.{now_running}
use Rattle.serial.proofs.Steps.PrewriteSteps.{prewrite_again, prewrite_first}
use Rattle.serial.proofs.Ledger.Fates.{Running, fate_begun, fate, stamp_of}
use Rattle.serial.proofs.Outcomes.Accesses.{read_cases, prewrite_cases}
use Rattle.serial.proofs.Steps.StampedSteps.{silent_stamped, turned_stamped}
use Rattle.serial.proofs.Steps.Lasting.{no_suits, SoundAfter, refused, silent_sound}
use Rattle.serial.proofs.Invariant.{Stamped, Invariant}

module _ (first : Cells) (m : Model) (h : History) (H : Invariant first h m) where
  -- An access by an open transaction, whose fate is then Running.
  access_stamped : (e : Call × Response) (t k : ℕ) → check_open m t ≡ Ok tt → ((u : ℕ) → stamp_of (e ∷ h) u ≡ stamp_of h u)
      → commits (e ∷ h) ≡ commits h
      → ((u j : ℕ) → (eqb t u && eqb (ground_of k) j) ≡ false → fate (e ∷ h) u j ≡ fate h u j)
      → fate (e ∷ h) t (ground_of k) ≡ Running → Stamped (e ∷ h)
  access_stamped e t k now q cs others run =
      turned_stamped h H.stamped e t (ground_of k) q cs others (no_suits first m h H t (fate (e ∷ h) t (ground_of k)) now)
      (λ l u i. absurd cc)

  -- Whatever comes of a read, all of it lasts.
  pub sound_read : (t k : ℕ) → SoundAfter first h (call.Read t k) value_response (read m t k)
  sound_read t k =
      read_cases m t k (SoundAfter first h (call.Read t k) value_response) (refused first m h H (call.Read t k) (λ _. refl))
      (λ r _ at.
      let q = again_silent first m h H.linked H.sound t k r at in (
        silent_sound first m h (call.Read t k, Ok (reply.Value r.value r.seen)) q H.sound,
        silent_stamped h H.stamped (call.Read t k, Ok (reply.Value r.value r.seen)) q refl,
      ))
      (λ c now at free _ none. (
        read_first first m h H.linked H.sound t k free c at none,
        access_stamped (call.Read t k, Ok (reply.Value c.value c.write)) t k now (λ _. refl) refl
            (λ u j n. off_key_too t (ground_of k) u j (fate_begun (fate h u j)) (fate h u j) n) (now_running m h H.linked t k free),
      ))

  -- Whatever comes of a prewrite, all of it lasts.
  pub sound_prewrite : (t k : ℕ) (v : ℤ) → SoundAfter first h (call.Prewrite t k v) done_response (prewrite m t k v)
  sound_prewrite t k v =
      prewrite_cases m t k v (SoundAfter first h (call.Prewrite t k v) done_response) (refused first m h H (call.Prewrite t k v) (λ _. refl))
      (λ w now free at. (prewrite_again first m h H.linked H.sound t k free v w at, stamped now free))
      (λ c now at free _. (prewrite_first first m h H.linked H.sound t k free v c at, stamped now free))
    where
      stamped : check_open m t ≡ Ok tt → check_not_stopped (row_of m.rows t (ground_of k)) ≡ Ok tt → Stamped ((call.Prewrite t k v, (Ok reply.Done)) ∷ h)
      stamped now free =
          access_stamped (call.Prewrite t k v, (Ok reply.Done)) t k now (λ _. refl) refl
          (λ u j n. off_key_too t (ground_of k) u j (fate_begun (fate h u j)) (fate h u j) n) (now_running m h H.linked t k free)
