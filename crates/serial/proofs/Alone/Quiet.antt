-- A validation that no note concerns: it looks at the transaction's own reads and writes, and at nothing else.
--   Unnamed t n                          the note n names another two
--   no_ceilings, no_befores, no_afters   nothing bounds it from above, and no row stands beside it
--   floors_below, raised_most            what it has to lie above is below TOP, so its lower bound is a stamp
use Rattle.std.proofs.Common.{◌≡◌, ℕ, ◌<◌, Bool, true, false, cond, ◌&&◌, eqb, List, [], ◌∷◌, map, ℤ, pos, ◌≤ℤ◌, ◌<ℤ◌, Some, None, Option, sym, refl}
use Rattle.std.proofs.Common.{ap, ◌∙◌, subst, arith}
use Rattle.std.proofs.ByRecursion.{All-append}
use Rattle.std.proofs.lemmas.Int.{ints, clamps}
use Rattle.std.proofs.lemmas.Bool.{and_left, and_right, and_parts, eqb-true}
use Rattle.std.specs.List.{flat_map, AllByRecursion}
use Rattle.store.specs.declared.cell.Cell.{Cell}
use Rattle.base.specs.Keys.{ground_of}
use Rattle.lines.proofs.Notes.{uninvolved}
use Rattle.lines.specs.Locks.{row_of}
use Rattle.lines.specs.declared.access.ReadLine.{ReadLine}
use Rattle.lines.specs.declared.access.WriteLine.{WriteLine}
use Rattle.lines.specs.declared.note.Effect.{Effect}
use Rattle.lines.specs.declared.note.Note.{Note}
use Rattle.lines.specs.declared.row.Row.{Row}
use Rattle.protocol.specs.Model.{Model}
use Rattle.protocol.specs.Among.{raise, raised_above, other_party, effect_with, effect_floor, effect_ceiling, is_before, is_after}
use Rattle.protocol.specs.Validation.{of_here, read_floor, stamps_of, write_floor, note_effect, floors, ceilings, joins, befores, afters}
use Rattle.serial.specs.Alone.{IsFreshCell, IsFresh}
use Rattle.serial.proofs.Lines.All.{all_joined, any_none, joined_none, kept_none}

-- A note that names another two.
abbrev pub Unnamed : ℕ → Note → Type 0
Unnamed t n = (eqb n.first t ≡ false) × (eqb n.second t ≡ false)

module _ (m : Model) (t g : ℕ) where
  says_nothing : (n : Note) → Unnamed t n → note_effect m t g n ≡ None
  says_nothing n q = whether (eqb (ground_of n.key) g) (of_row (row_of m.rows (other_party n t) g))
    where
      of_row : (o : Option Row) → effect_with n t o ≡ None
      of_row None = refl
      of_row (Some r) = uninvolved n t r q.0 q.1

      whether : (b : Bool) {e : Option Effect} → e ≡ None → cond b e None ≡ None
      whether true i = i
      whether false i = refl

  module _ (quiet : AllByRecursion (Unnamed t) m.notes) where
    pub no_ceilings : ceilings m t g ≡ []
    no_ceilings = joined_none (Unnamed t) _ (λ n q. ap effect_ceiling (says_nothing n q)) m.notes quiet

    no_note_floors : flat_map (λ n. effect_floor (note_effect m t g n)) m.notes ≡ []
    no_note_floors = joined_none (Unnamed t) _ (λ n q. ap effect_floor (says_nothing n q)) m.notes quiet

    pub joins_none : (on : Option Effect → Bool) → on None ≡ false → (r : Row) → joins on m t g r ≡ false
    joins_none on e r =
        and_right (eqb r.ground g) _
        (any_none (Unnamed t) (λ n. on (note_effect m t g n) && eqb (other_party n t) r.transaction)
        (λ n q. and_left (on (note_effect m t g n)) _ (ap on (says_nothing n q) ∙ e)) m.notes quiet)

    pub no_befores : befores m t g ≡ []
    no_befores = ap (map (λ r. r.lower)) (kept_none (joins is_before m t g) (joins_none is_before refl) m.rows)

    pub no_afters : afters m t g ≡ []
    no_afters = ap (map (λ r. r.upper)) (kept_none (joins is_after m t g) (joins_none is_after refl) m.rows)

    -- A stamp below TOP.
    abbrev Below : ℤ → Type 0
    Below x = x <ℤ pos 268435455

    -- Every stamp that a validation has to lie above is below TOP.
    pub floors_below : AllByRecursion (λ x. x.transaction ≡ t → x.seen.number < 268435455) m.reads
        → AllByRecursion (λ x. x.transaction ≡ t → IsFresh m.cells x.key) m.writes → AllByRecursion Below (floors m t g)
    floors_below rs ws =
        All-append Below (flat_map (read_floor t g) m.reads) _
        (all_joined _ Below (read_floor t g) (λ x q. of_read x q (of_here t g x.transaction x.key) refl) m.reads rs)
        (All-append Below (flat_map (write_floor m.cells t g) m.writes) _
        (all_joined _ Below (write_floor m.cells t g) (λ x q. of_write x q (of_here t g x.transaction x.key) refl) m.writes ws)
        (subst (AllByRecursion Below) (sym no_note_floors) tt))
      where
        of_read : (x : ReadLine) → (x.transaction ≡ t → x.seen.number < 268435455) → (b : Bool)
            → of_here t g x.transaction x.key ≡ b → AllByRecursion Below (cond b (pos x.seen.number ∷ []) [])
        of_read x q true s =
            let h = q (eqb-true _ _ (and_parts (eqb x.transaction t) _ s).0) in
            (omega (arith, ints), tt)
        of_read x q false s = tt

        of_cell : (o : Option Cell) → IsFreshCell o → AllByRecursion Below (stamps_of o)
        of_cell None f = tt
        of_cell (Some c) f = let a = f.0 in let b = f.1 in (omega (arith, ints), (omega (arith, ints), tt))

        of_write : (x : WriteLine) → (x.transaction ≡ t → IsFresh m.cells x.key) → (b : Bool)
            → of_here t g x.transaction x.key ≡ b → AllByRecursion Below (cond b (stamps_of (m.cells x.key)) [])
        of_write x q true s = of_cell (m.cells x.key) (q (eqb-true _ _ (and_parts (eqb x.transaction t) _ s).0))
        of_write x q false s = tt

-- A lower bound stays up to TOP, where it is raised above numbers below TOP.
pub raised_most : (l : ℤ) (xs : List ℤ) → l ≤ℤ pos 268435455 → AllByRecursion (λ x. x <ℤ pos 268435455) xs → raised_above l xs ≤ℤ pos 268435455
raised_most l [] e a = e
raised_most l (x ∷ xs) e a = let h = a.0 in raised_most (raise l x) xs (omega (arith, ints, clamps)) a.1
