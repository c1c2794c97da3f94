-- Bounds that are raised above what lines give.
--   above_each     line by line is above all that they give
--   raised_floors  above what the lines give, then the notes
use Rattle.std.proofs.Common.{◌≡◌, ℕ, List, [], ◌∷◌, ℤ, fold, sym, refl, ap, ◌∙◌, append_assoc}
use Rattle.std.specs.List.{flat_map}
use Rattle.protocol.proofs.Raising.{raised_append}
use Rattle.protocol.specs.Among.{raised_above, note_floors}
use Rattle.protocol.specs.Model.{Model}
use Rattle.protocol.specs.Validation.{read_floor, write_floor, floors}
use Rattle.register.specs.Ranges.{above_all, line_floors}
use Rattle.register.specs.declared.range.Range.{Range}

pub above_each : {X : Type 0} (floor : X → List ℤ) (r : Range) (xs : List X)
    → fold (λ a x. above_all a (floor x)) r xs ≡ above_all r (flat_map floor xs)
above_each floor r [] = refl
above_each floor r (x ∷ xs) =
    above_each floor (above_all r (floor x)) xs
    ∙ ap (λ l. record { lower = l; upper = r.upper }) (sym (raised_append r.lower (floor x) (flat_map floor xs)))

pub raised_floors : (m : Model) (t g : ℕ) (l : ℤ)
    → raised_above (raised_above l (line_floors m t g)) (note_floors m.rows m.notes t g) ≡ raised_above l (floors m t g)
raised_floors m t g l =
    sym (raised_append l (line_floors m t g) notes)
    ∙ ap (raised_above l) (append_assoc (flat_map (read_floor t g) m.reads) (flat_map (write_floor m.cells t g) m.writes) notes)
  where
    notes : List ℤ
    notes = note_floors m.rows m.notes t g
