-- The range of a validation is below the rows that a note puts after the transaction, and above those that one puts before it or apart.
--   below_later     the upper bound is below a row that passed and that a note puts after the transaction
--   above_earlier   the lower bound is above a row that passed and that a note puts before the transaction
--   above_apart     and above one that a note puts apart from it
use Rattle.std.proofs.Common.{◌≡◌, ℕ, true, false, eqb, ◌⊎◌, List, [], ◌∷◌, ℤ, ◌<ℤ◌, Some, sym, refl, ap, ap₂, ◌∙◌, subst, inl, inr, arith}
use Rattle.std.proofs.lemmas.Int.{ints, clamps}
use Rattle.std.proofs.lemmas.Bool.{eq-eqb, or_left, or_right}
use Rattle.std.specs.List.{flat_map}
use Rattle.base.specs.Keys.{ground_of}
use Rattle.lines.proofs.Notes.{earlier_past, later_past, apart_past, side_first, side_second, side_apart}
use Rattle.lines.specs.Locks.{row_of}
use Rattle.lines.specs.Notes.{effect_of}
use Rattle.lines.specs.Rows.{is_past}
use Rattle.lines.specs.declared.note.Effect.TheVariants.{RaiseAbove}
use Rattle.lines.specs.declared.note.Note.{Note}
use Rattle.lines.specs.declared.note.Order.TheVariants.{Before, Apart}
use Rattle.lines.specs.declared.row.Row.{Row}
use Rattle.protocol.proofs.Raising.{lowered_most}
use Rattle.protocol.specs.Model.{Model}
use Rattle.protocol.specs.Among.{lower, raised_above, lowered_below, other_party, effect_floor, effect_ceiling}
use Rattle.protocol.specs.Validation.{read_floor, write_floor, note_effect, floors, ceilings}
use Rattle.serial.proofs.Lines.ByKey.{eqb_turned}
use Rattle.serial.proofs.Lines.Member.{In, in_right, in_joined}
use Rattle.serial.proofs.Steps.BoundsByLines.{raised_over}

-- A bound that is lowered below some numbers is below each.
lowered_under : (u : ℤ) (xs : List ℤ) (x : ℤ) → In x xs → lowered_below u xs <ℤ x
lowered_under u [] x i = absurd i
lowered_under u (y ∷ ys) x (inl e) =
    let h = lowered_most (lower u y) ys in
    subst (λ z. lowered_below (lower u y) ys <ℤ z) e (omega (arith, ints, clamps))
lowered_under u (y ∷ ys) x (inr i) = lowered_under (lower u y) ys x i

module _ (m : Model) (t g : ℕ) where
  -- What is among the floors of the notes is among the floors.
  of_notes : (x : ℤ) → In x (flat_map (λ n. effect_floor (note_effect m t g n)) m.notes) → In x (floors m t g)
  of_notes x i =
      in_right x (flat_map (read_floor t g) m.reads) _ (in_right x (flat_map (write_floor m.cells t g) m.writes) _ i)

  module _ (n : Note) (u : ℕ) (y : Row) (i : In n m.notes) (e : ground_of n.key ≡ g) where
    -- What follows from a note at the ground is what follows from the other party's row.
    follows : other_party n t ≡ u → row_of m.rows u g ≡ Some y → note_effect m t g n ≡ effect_of n t y
    follows p at =
        let h : eqb (ground_of n.key) g ≡ true = eq-eqb _ g e in
        let f : row_of m.rows (other_party n t) g ≡ Some y = ap (λ v. row_of m.rows v g) p ∙ at in
        rw (h, f) refl

    -- The lower bound is above what a note raises it above.
    raised_by : other_party n t ≡ u → row_of m.rows u g ≡ Some y → effect_of n t y ≡ Some (RaiseAbove y.upper) → (b : ℤ)
        → y.upper <ℤ raised_above b (floors m t g)
    raised_by p at f b =
        raised_over b (floors m t g) y.upper
        (of_notes _ (in_joined (λ x. effect_floor (note_effect m t g x)) n y.upper m.notes i
        (subst (λ x. In y.upper (effect_floor x)) (sym (follows p at ∙ f)) (inl refl))))

    -- The other party, where the transaction is the first or is not.
    second_other : n.first ≡ t → n.second ≡ u → other_party n t ≡ u
    second_other a d = let h : eqb n.first t ≡ true = eq-eqb _ t a in rw h d

    first_other : n.first ≡ u → eqb u t ≡ false → other_party n t ≡ u
    first_other a d = let h : eqb n.first t ≡ false = ap (λ v. eqb v t) a ∙ d in rw h a

    -- The parties are two.
    two_first : eqb u t ≡ false → n.first ≡ t → n.second ≡ u → eqb n.first n.second ≡ false
    two_first w a d = ap₂ eqb a d ∙ eqb_turned u t w

    two_second : eqb u t ≡ false → n.first ≡ u → n.second ≡ t → eqb n.first n.second ≡ false
    two_second w a d = ap₂ eqb a d ∙ w

    -- The upper bound is below a row that passed and comes later.
    pub below_later : n.order ≡ Before → n.first ≡ t → n.second ≡ u → eqb u t ≡ false → row_of m.rows u g ≡ Some y
        → is_past y.state ≡ true → (b : ℤ) → lowered_below b (ceilings m t g) <ℤ y.lower
    below_later o a d w at q b =
        lowered_under b (ceilings m t g) y.lower
        (in_joined (λ x. effect_ceiling (note_effect m t g x)) n y.lower m.notes i
        (subst (λ x. In y.lower (effect_ceiling x))
        (sym (follows (second_other a d) at ∙ earlier_past n t y (side_first n t o (two_first w a d) (eq-eqb _ t a)) q)) (inl refl)))

    -- The lower bound is above a row that passed and comes earlier.
    pub above_earlier : n.order ≡ Before → n.first ≡ u → n.second ≡ t → eqb u t ≡ false → row_of m.rows u g ≡ Some y
        → is_past y.state ≡ true → (b : ℤ) → y.upper <ℤ raised_above b (floors m t g)
    above_earlier o a d w at q b =
        raised_by (first_other a w) at
        (later_past n t y (side_second n t o (two_second w a d) (ap (λ v. eqb v t) a ∙ w) (eq-eqb _ t d)) q) b

    -- And above a row that passed and is apart.
    pub above_apart : n.order ≡ Apart → ((n.first ≡ t) × (n.second ≡ u)) ⊎ ((n.first ≡ u) × (n.second ≡ t)) → eqb u t ≡ false
        → row_of m.rows u g ≡ Some y → is_past y.state ≡ true → (b : ℤ) → y.upper <ℤ raised_above b (floors m t g)
    above_apart o (inl p) w at q b =
        raised_by (second_other p.0 p.1) at
        (apart_past n t y (side_apart n t o (two_first w p.0 p.1) (or_left (eqb n.first t) _ (eq-eqb _ t p.0))) q) b
    above_apart o (inr p) w at q b =
        raised_by (first_other p.0 w) at
        (apart_past n t y (side_apart n t o (two_second w p.0 p.1) (or_right (eqb n.first t) _ (eq-eqb _ t p.1))) q) b
