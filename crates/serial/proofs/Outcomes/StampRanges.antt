-- What a validation works out of bounds that are within their limits: the range that is left of a row, where it is not empty, and the
-- range that is answered are ranges of stamps.
--   low_least, high_most   the ends of what is left of a row
--   range_of_stamps        the range that is answered
use Rattle.std.proofs.Common.{◌≡◌, ℕ, false, ℤ, pos, ◌≤ℤ◌, Some, Ok, subst, arith}
use lib.Signed.{lt_z}
use Rattle.std.proofs.lemmas.Int.{ints}
use Rattle.std.specs.List.{AllByRecursion}
use Rattle.base.specs.declared.stamp.TheConstants.{TOP}
use Rattle.lines.specs.LineKeys.{row_key, same_row, row_key_at}
use Rattle.lines.specs.Rows.{IsBounded}
use Rattle.lines.specs.declared.row.Row.{Row}
use Rattle.policy.specs.Ranges.{Meaning, Within}
use Rattle.protocol.proofs.Raising.{raised_least, lowered_most}
use Rattle.protocol.specs.Calls.{validate}
use Rattle.protocol.specs.Model.{Model, Chooses}
use Rattle.protocol.specs.Validation.{floors, ceilings, befores, afters}
use Rattle.serial.proofs.Lines.Found.{find_all}
use Rattle.serial.proofs.Outcomes.AtGrounds.{low_end, high_end, chosen_range, validate_cases}

module _ (m : Model) (t g : ℕ) (P : Chooses) where
  pub low_least : (r : Row) → IsBounded r → pos 0 ≤ℤ low_end m t g P r
  low_least r b = let a = raised_least r.lower (floors m t g) in let c = b.lower_least in omega (arith, ints)

  pub high_most : (r : Row) → IsBounded r → high_end m t g P r ≤ℤ pos TOP
  high_most r b = let a = lowered_most r.upper (ceilings m t g) in let c = b.upper_most in omega (arith, ints)

  -- A part of a range of stamps is one.
  pub range_fits : Meaning P → (r : Row) → IsBounded r → lt_z (high_end m t g P r) (low_end m t g P r) ≡ false
      → Within (pos 0) (pos TOP) (chosen_range m t g P r)
  range_fits means r b e =
      let order : low_end m t g P r ≤ℤ high_end m t g P r = omega (arith, ints) in
      let a = low_least r b in
      let c = high_most r b in
      let i = means.within (low_end m t g P r) (high_end m t g P r) (befores m t g) (afters m t g) order in
      let least = i.0 in
      let most = i.2 in
      (omega (arith, ints), i.1, omega (arith, ints))

-- The range that a validation answers is two stamps, the lower not above the upper.
pub range_of_stamps : (P : Chooses) → Meaning P → (m : Model) (t g : ℕ) → AllByRecursion IsBounded m.rows → (range : ℤ × ℤ)
    → (validate P m t g).1 ≡ Ok (Some range) → Within (pos 0) (pos TOP) range
range_of_stamps P means m t g bounded range =
    validate_cases m t g P (λ o. o.1 ≡ Ok (Some range) → Within (pos 0) (pos TOP) range)
    (λ e q. absurd cc)
    (λ r _ at _ _ q. absurd cc)
    (λ r _ at _ e q.
    let i : chosen_range m t g P r ≡ range = cc in
    subst (Within (pos 0) (pos TOP)) i
    (range_fits m t g P means r (find_all same_row row_key (row_key_at t g) IsBounded m.rows r bounded at) e))
