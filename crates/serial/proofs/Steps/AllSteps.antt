-- All that holds of a day holds of a new register, and lasts through every call.
--   invariant_new    it holds of a register that is new
--   invariant_step   and after each call, if it held before
use Rattle.std.proofs.Common.{◌≡◌, ℕ, true, [], ◌∷◌, ℤ, Some, None, Ok, Option, refl, subst, inl, arith}
use Rattle.store.specs.Stores.{Cells}
use Rattle.store.specs.declared.cell.Cell.{Cell}
use Rattle.protocol.specs.Calls.{step, done_response}
use Rattle.protocol.specs.Model.{Model, Chooses, Rooms, new}
use Rattle.protocol.specs.declared.call.Call.{Call}
use Rattle.protocol.specs.declared.call.Call.TheVariants as call
use Rattle.protocol.specs.declared.call.Reply.TheVariants as reply
use Rattle.policy.specs.Ranges.{Meaning}
use Rattle.serial.specs.Ledger.{History}
use Rattle.serial.proofs.Steps.ReadsAgain.{alike_step}
use Rattle.serial.proofs.Ledger.Fates.{Away, Past, Unsettled}
use Rattle.serial.proofs.Ledger.LinkedSteps.{linked_new, linked_step}
use Rattle.serial.proofs.Outcomes.Transactions.{begin_cases}
use Rattle.serial.proofs.Pending.PendingSteps.{live_step}
use Rattle.serial.proofs.Bounds.{bounded_step}
use Rattle.serial.proofs.Numbers.KnownSteps.{known_step}
use Rattle.serial.proofs.Steps.StampedSteps.{silent_stamped}
use Rattle.serial.proofs.Steps.Lasting.{SoundAfter, refused}
use Rattle.serial.proofs.Steps.AccessCalls.{sound_read, sound_prewrite}
use Rattle.serial.proofs.Steps.EndingCalls.{sound_validate, sound_decide, sound_withdraw, sound_settle}
use Rattle.serial.proofs.Ledger.Linked.{Linked}
use Rattle.serial.proofs.Invariant.{CellKept, Sound, view, Stamped, Invariant}

module _ (first : Cells) (P : Chooses) (means : Meaning P) (m : Model) (h : History) (H : Invariant first h m) where
  -- The ledger and the books say the same before the call.
  L : Linked h m
  L = H.linked

  -- The invariant holds before it.
  S : Sound first (view h m)
  S = H.sound

  -- The invariant lasts through every call, and so does what holds of stamps.
  sound_step : (c : Call) → Sound first (view ((c, (step P m c).1) ∷ h) (step P m c).0) × Stamped ((c, (step P m c).1) ∷ h)
  sound_step (call.Begin t) =
      begin_cases m t (SoundAfter first h (call.Begin t) done_response) (refused first m h H (call.Begin t) (λ _. refl))
      (λ _. (
        S,
        silent_stamped h H.stamped (call.Begin t, (Ok reply.Done))
            (record { fates = λ _ _. refl; sights = λ _ _. refl; puts = λ _ _. refl; stamps = λ _. refl }) refl,
      ))
  sound_step (call.Read t k) = sound_read first m h H t k
  sound_step (call.Prewrite t k v) = sound_prewrite first m h H t k v
  sound_step (call.Validate t g) = sound_validate first P means m h H t g
  sound_step (call.Decide t) = sound_decide first m h H t
  sound_step (call.Withdraw t) = sound_withdraw first m h H t
  sound_step (call.Settle t g) = sound_settle first m h H t g

  -- All that holds of a day lasts through every call.
  pub invariant_step : (c : Call) → Invariant first ((c, (step P m c).1) ∷ h) (step P m c).0
  invariant_step c =
      let s = sound_step c in
      record {
        linked = linked_step P m h L c;
        sound = s.0;
        stamped = s.1;
        alike = alike_step P m h L H.alike c;
        live = live_step P m h L H.live c;
        known = known_step P m H.known c;
        bounded = bounded_step P means m H.bounded c;
      }

-- All of it holds of a register that is new.
pub invariant_new : (cells : Cells) (rooms : Rooms) → Invariant cells [] (new cells rooms)
invariant_new cells rooms = record {
  linked = linked_new cells rooms;
  sound = record {
    cell = λ k. first_cell k (cells k) refl;
    origin = λ t k x e. nothing e;
    has = λ t k x e. nothing e;
    write_reached = λ t k x e. nothing e;
    read_reached = λ t k x e. nothing e;
    reader = λ t k x e. nothing e;
    writer = λ t k x e. nothing e;
    ordered = λ t u k x y n e p. nothing e;
    distanced = λ t u k x y n e p. nothing e;
  };
  stamped = record {
    suits = λ t c g e. nothing e;
    settled = λ t g l u e. absurd (never l u e);
    once = tt;
    listed = λ c i. absurd i;
    found = λ t c e. nothing e;
  };
  alike = λ t. tt;
  live = λ u j r e l. nothing e;
  known = λ n a. (tt, tt, tt, tt);
  bounded = tt;
}
  where
    nothing : {X Q : Type 0} {x : X} → ◌≡◌ {A = Option X} None (Some x) → Q
    nothing e = absurd cc

    never : (l u : ℤ) → Away ≡ Past true l u → ⊥
    never l u e = subst Unsettled e tt

    first_cell : (k : ℕ) (o : Option Cell) → cells k ≡ o → CellKept cells (view [] (new cells rooms)) k o o
    first_cell k None e = tt
    first_cell k (Some f) e = (omega arith, inl (f, e, refl, refl))
