-- What is taken of a range beside rows.
--   left_stamps                  what they leave of a range of stamps are stamps
--   choice_silent, rows_silent   where no note names the transaction all is left, and no row makes way
use Rattle.std.proofs.Common.{◌≡◌, List, [], ◌∷◌, ℤ, pos, ◌≤ℤ◌, Some, None, Option, sym, refl, ap₂, ◌∙◌, arith}
use Rattle.std.proofs.lemmas.Int.{ints}
use Rattle.base.specs.declared.stamp.TheConstants.{TOP}
use Rattle.lines.specs.declared.row.Row.{Row}
use Rattle.protocol.specs.Among.{raised_above, lowered_below}
use Rattle.protocol.specs.Model.{Chooses}
use Rattle.protocol.proofs.Raising.{raised_least, lowered_most}
use Rattle.register.specs.Relations.{unrelated, floors_beside, ceilings_beside, befores_beside, afters_beside, choice, choice_beside, rows_beside}
use Rattle.register.specs.declared.relation.Relation.{Relation}
use Rattle.register.proofs.Pushing.{none_pushed}

pub left_stamps : (fs cs : List ℤ) (l u a b : ℤ) → a ≡ raised_above l fs → b ≡ lowered_below u cs → pos 0 ≤ℤ l → u ≤ℤ pos TOP
    → (pos 0 ≤ℤ a) × (b ≤ℤ pos TOP)
left_stamps fs cs l u a b low high least most =
    let floor = raised_least l fs in
    let ceiling = lowered_most u cs in
    (omega (arith, ints, low), omega (arith, ints, high))

-- Nothing is said of any row.
module _ (q : Row → Relation) (silent : (r : Row) → unrelated ≡ q r) where
  no_floors : (rows : List Row) → [] ≡ floors_beside q rows
  no_floors [] = refl
  no_floors (r ∷ rs) = let later = no_floors rs in let none = silent r in grind arith

  no_ceilings : (rows : List Row) → [] ≡ ceilings_beside q rows
  no_ceilings [] = refl
  no_ceilings (r ∷ rs) = let later = no_ceilings rs in let none = silent r in grind arith

  no_befores : (rows : List Row) → [] ≡ befores_beside q rows
  no_befores [] = refl
  no_befores (r ∷ rs) = let later = no_befores rs in let none = silent r in grind arith

  no_afters : (rows : List Row) → [] ≡ afters_beside q rows
  no_afters [] = refl
  no_afters (r ∷ rs) = let later = no_afters rs in let none = silent r in grind arith

  pub choice_silent : (rows : List Row) (P : Chooses) (l u : ℤ) → choice P l u [] [] ≡ choice_beside q P l u rows
  choice_silent rows P l u =
      ap₂ (choice P l u) (no_befores rows) (no_afters rows)
      ∙ ap₂ (λ fs cs. choice P (raised_above l fs) (lowered_below u cs) (befores_beside q rows) (afters_beside q rows)) (no_floors rows) (no_ceilings rows)

  pub rows_silent : (rows : List Row) (o : Option (ℤ × ℤ)) → rows ≡ rows_beside q o rows
  rows_silent rows None = refl
  rows_silent rows (Some range) = sym (none_pushed q range rows (sym (no_befores rows)) (sym (no_afters rows)))
