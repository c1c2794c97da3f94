-- What can come of a call at a ground, a validation or a settlement: it is refused, or it leaves the register that the rules say.
--   settle_cases Q ..     Q holds of the outcome of a settlement if it holds of each way in which it can end
--   validate_cases Q ..   so of a validation
--   low_end, high_end     the range that is left of a row
--   chosen_range          the range that the policy takes
use Rattle.std.proofs.Common.{◌≡◌, ℕ, Bool, true, false, cond, ℤ, Some, None, Ok, Err, Option, Result, refl}
use Rattle.std.specs.Option.{ok_or}
use Rattle.base.specs.Refusals.{refusal}
use lib.Signed.{lt_z}
use Rattle.base.specs.declared.refusal.Refusal.{Refusal}
use Rattle.lines.specs.Locks.{row_of}
use Rattle.lines.specs.Rows.{moved_row}
use Rattle.lines.specs.declared.row.Event.{Event}
use Rattle.lines.specs.declared.row.Row.{Row}
use Rattle.protocol.specs.Calls.{validate, settle, settle_by}
use Rattle.protocol.specs.Checks.{check_open, event_decided, check_running}
use Rattle.protocol.specs.Decisions.{with_settlement}
use Rattle.protocol.specs.Model.{Model, Chooses}
use Rattle.protocol.specs.Among.{raised_above, lowered_below}
use Rattle.protocol.specs.Validation.{floors, ceilings, befores, afters, failed, passed}
use Rattle.serial.proofs.Outcomes.Checks.{Outcome, after_cases, here_some}

module _ (m : Model) (t g : ℕ) where
  -- The ways in which a settlement can end.
  pub settle_cases : (Q : Outcome Unit → Type 0) → ((e : Refusal) → Q (m, Err e))
      → ((e : Event) (r : Row) → event_decided m t ≡ Ok e → row_of m.rows t g ≡ Some r → (moved_row r e).1 ≡ Ok tt
      → Q (with_settlement m t g r e, Ok tt))
      → Q (settle m t g)
  settle_cases Q refused done =
      after_cases Q m (event_decided m t) _ refused (λ e a.
      after_cases Q m (ok_or (row_of m.rows t g) (refusal 6)) _ refused (λ r b.
      go e r a (here_some (row_of m.rows t g) r b) (moved_row r e).1 refl))
    where
      go : (e : Event) (r : Row) → event_decided m t ≡ Ok e → row_of m.rows t g ≡ Some r → (x : Result Unit Refusal)
          → (moved_row r e).1 ≡ x → Q (settle_by x m t g r e)
      go e r a b (Ok tt) s = done e r a b s
      go e r a b (Err x) s = refused x

  module _ (P : Chooses) where
    -- The range that is left of a row.
    abbrev pub low_end : Row → ℤ
    low_end r = raised_above r.lower (floors m t g)

    abbrev pub high_end : Row → ℤ
    high_end r = lowered_below r.upper (ceilings m t g)

    -- The range that the policy takes.
    abbrev pub chosen_range : Row → ℤ × ℤ
    chosen_range r = P (low_end r) (high_end r) (befores m t g) (afters m t g)

    -- The ways in which a validation can end.
    pub validate_cases : (Q : Outcome (Option (ℤ × ℤ)) → Type 0) → ((e : Refusal) → Q (m, Err e))
        → ((r : Row) → check_open m t ≡ Ok tt → row_of m.rows t g ≡ Some r → check_running r ≡ Ok tt → lt_z (high_end r) (low_end r) ≡ true
        → Q (failed m t g r, Ok None))
        → ((r : Row) → check_open m t ≡ Ok tt → row_of m.rows t g ≡ Some r → check_running r ≡ Ok tt → lt_z (high_end r) (low_end r) ≡ false
        → Q (passed m t g r (chosen_range r), Ok (Some (chosen_range r))))
        → Q (validate P m t g)
    validate_cases Q refused fails passes =
        after_cases Q m (check_open m t) _ refused (λ _ a.
        after_cases Q m (ok_or (row_of m.rows t g) (refusal 6)) _ refused (λ r b.
        after_cases Q m (check_running r) _ refused (λ _ d.
        go r a (here_some (row_of m.rows t g) r b) d (lt_z (high_end r) (low_end r)) refl)))
      where
        go : (r : Row) → check_open m t ≡ Ok tt → row_of m.rows t g ≡ Some r → check_running r ≡ Ok tt → (x : Bool)
            → lt_z (high_end r) (low_end r) ≡ x
            → Q (cond x (failed m t g r, Ok None) (passed m t g r (chosen_range r), Ok (Some (chosen_range r))))
        go r a b d true s = fails r a b d s
        go r a b d false s = passes r a b d s
