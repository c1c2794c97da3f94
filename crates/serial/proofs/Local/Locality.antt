-- A validation depends on its ground alone: each thing that it looks at is the same in two registers that agree there.
--   row_same                     the row of a transaction there
--   floors_same, ceilings_same   what its range lies above and below
--   befores_same, afters_same    what a policy is shown
--   pushed_same                  how a row makes way
--   lowers_fit, uppers_fit       what a policy is shown can be bounds of rows
--   other_row, row_local         a row of another ground is no row there, so those of the ground are enough
use Rattle.std.proofs.Common.{◌≡◌, ℕ, Bool, true, false, cond, ◌&&◌, eqb, List, [], ◌++◌, map, ℤ, None, filter, Option, sym, refl, ap, ◌∙◌, ◌<◌}
use mathlib.Core.Path.{fun_ext}
use Rattle.std.proofs.lemmas.Bool.{and_left, and_right, cond-false, eqb-true}
use Rattle.std.specs.List.{flat_map, AllByRecursion, list_any}
use Rattle.std.proofs.ByRecursion.{All-map, All-weaker}
use Rattle.store.specs.Stores.{Cells}
use Rattle.base.specs.Keys.{ground_of}
use Rattle.lines.specs.LineKeys.{row_key, same_row}
use Rattle.lines.specs.Locks.{row_of}
use Rattle.lines.specs.Rows.{IsBounded}
use Rattle.lines.specs.declared.access.ReadLine.{ReadLine}
use Rattle.lines.specs.declared.access.WriteLine.{WriteLine}
use Rattle.lines.specs.declared.note.Effect.{Effect}
use Rattle.lines.specs.declared.note.Note.{Note}
use Rattle.lines.specs.declared.row.Row.{Row}
use Rattle.protocol.specs.Model.{Model}
use Rattle.protocol.specs.Among.{other_party, effect_with, effect_floor, effect_ceiling, is_before, is_after}
use Rattle.protocol.specs.Validation.{of_here, read_floor, write_floor, stamps_of, note_effect, floors, ceilings, joins, befores, afters, pushed}
use Rattle.serial.specs.Agreement.{rows_at, reads_at, writes_at, notes_at, Agree, IsLower, IsUpper}
use Rattle.serial.proofs.Local.ShortKeys.{HasShortKeys}
use Rattle.serial.proofs.Lines.Kept.{joined_kept, any_kept, kept_kept, line_kept}
use Rattle.serial.proofs.Lines.All.{all_kept, joined_same}

-- A row of another ground has another key.
pub other_row : (t g : ℕ) (r : Row) → eqb r.ground g ≡ false → same_row (row_key r) (record { transaction = t; ground = g }) ≡ false
other_row t g r e = and_right (eqb r.transaction t) _ e

-- The row of a transaction at a ground is one of the ground's rows.
row_local : (rows : List Row) (t g : ℕ) → row_of rows t g ≡ row_of (rows_at g rows) t g
row_local rows t g = line_kept (λ r. eqb r.ground g) same_row row_key (record { transaction = t; ground = g }) (other_row t g) rows

-- A note of another ground says nothing.
silent : (m : Model) (t g : ℕ) (x : Note) → eqb (ground_of x.key) g ≡ false → note_effect m t g x ≡ None
silent m t g x e = cond-false _ _ _ e

-- A line of another ground raises nothing.
elsewhere : {A : Type 0} (t g u k : ℕ) (xs : List A) → eqb (ground_of k) g ≡ false → cond (of_here t g u k) xs [] ≡ []
elsewhere t g u k xs e = cond-false _ _ _ (and_right (eqb u t) _ e)

-- A row of another ground joins no list.
unjoined : (on : Option Effect → Bool) (m : Model) (t g : ℕ) (r : Row) → eqb r.ground g ≡ false → joins on m t g r ≡ false
unjoined on m t g r e = and_left (eqb r.ground g) _ e

module _ (g : ℕ) (m n : Model) (short : HasShortKeys g m) (a : Agree g m n) where
  -- So it is the same in both registers.
  pub row_same : (u : ℕ) → row_of m.rows u g ≡ row_of n.rows u g
  row_same u = row_local m.rows u g ∙ (ap (λ rs. row_of rs u g) a.rows ∙ sym (row_local n.rows u g))

  module _ (t : ℕ) where
    -- A note means the same in both.
    effect_same : (x : Note) → note_effect m t g x ≡ note_effect n t g x
    effect_same x = ap (λ o. cond (eqb (ground_of x.key) g) (effect_with x t o) None) (row_same (other_party x t))

    -- What all notes together say by a list for each.
    notes_same : (f : Option Effect → List ℤ) → f None ≡ []
        → flat_map (λ x. f (note_effect m t g x)) m.notes ≡ flat_map (λ x. f (note_effect n t g x)) n.notes
    notes_same f e =
        let here : Note → Bool = λ x. eqb (ground_of x.key) g in
        let says : (q : Model) → Note → List ℤ = λ q x. f (note_effect q t g x) in
        let local : (q : Model) → flat_map (says q) q.notes ≡ flat_map (says q) (notes_at g q.notes) =
        λ q. joined_kept here (says q) (λ x d. ap f (silent q t g x d) ∙ e) q.notes in
        local m ∙ (ap (flat_map (says m)) a.notes
        ∙ (ap (λ h. flat_map h (notes_at g n.notes)) (fun_ext (λ x. ap f (effect_same x))) ∙ sym (local n)))

    -- Reads raise the same floors.
    reads_same : flat_map (read_floor t g) m.reads ≡ flat_map (read_floor t g) n.reads
    reads_same =
        let local : (xs : List ReadLine) → flat_map (read_floor t g) xs ≡ flat_map (read_floor t g) (reads_at g xs) =
        joined_kept (λ x. eqb (ground_of x.key) g) (read_floor t g) (λ x d. elsewhere t g x.transaction x.key _ d) in
        local m.reads ∙ (ap (flat_map (read_floor t g)) a.reads ∙ sym (local n.reads))

    -- A write raises the same floors by both registers' cells.
    write_same : (x : WriteLine) → x.key < 65536 → write_floor m.cells t g x ≡ write_floor n.cells t g x
    write_same x k = go (eqb (ground_of x.key) g) refl
      where
        go : (b : Bool) → eqb (ground_of x.key) g ≡ b → write_floor m.cells t g x ≡ write_floor n.cells t g x
        go true e = ap (λ c. cond (of_here t g x.transaction x.key) (stamps_of c) []) (a.cells x.key k (eqb-true _ _ e))
        go false e = elsewhere t g x.transaction x.key _ e ∙ sym (elsewhere t g x.transaction x.key _ e)

    -- Writes raise the same floors.
    writes_same : flat_map (write_floor m.cells t g) m.writes ≡ flat_map (write_floor n.cells t g) n.writes
    writes_same =
        let local : (c : Cells) (xs : List WriteLine) → flat_map (write_floor c t g) xs ≡ flat_map (write_floor c t g) (writes_at g xs) =
        λ c. joined_kept (λ x. eqb (ground_of x.key) g) (write_floor c t g) (λ x d. elsewhere t g x.transaction x.key _ d) in
        local m.cells m.writes
        ∙ (joined_same _ (write_floor m.cells t g) (write_floor n.cells t g) write_same (writes_at g m.writes) short
        ∙ (ap (flat_map (write_floor n.cells t g)) a.writes ∙ sym (local n.cells n.writes)))

    pub floors_same : floors m t g ≡ floors n t g
    floors_same =
        ap (λ xs. xs ++ (flat_map (write_floor m.cells t g) m.writes ++ flat_map (λ x. effect_floor (note_effect m t g x)) m.notes)) reads_same
        ∙ (ap (λ xs. flat_map (read_floor t g) n.reads ++ (xs ++ flat_map (λ x. effect_floor (note_effect m t g x)) m.notes)) writes_same
        ∙ ap (λ xs. flat_map (read_floor t g) n.reads ++ (flat_map (write_floor n.cells t g) n.writes ++ xs)) (notes_same effect_floor refl))

    pub ceilings_same : ceilings m t g ≡ ceilings n t g
    ceilings_same = notes_same effect_ceiling refl

    -- A row joins a list in both registers or in neither.
    joins_same : (on : Option Effect → Bool) → on None ≡ false → (r : Row) → joins on m t g r ≡ joins on n t g r
    joins_same on e r =
        let names : (q : Model) → Note → Bool = λ q x. on (note_effect q t g x) && eqb (other_party x t) r.transaction in
        let local : (q : Model) → list_any (names q) q.notes ≡ list_any (names q) (notes_at g q.notes) =
        λ q. any_kept (λ x. eqb (ground_of x.key) g) (names q)
        (λ x d. and_left (on (note_effect q t g x)) _ (ap on (silent q t g x d) ∙ e)) q.notes in
        let same : names m ≡ names n =
        fun_ext (λ x. ap (λ y. on y && eqb (other_party x t) r.transaction) (effect_same x)) in
        ap (λ b. eqb r.ground g && b)
        (local m ∙ (ap (list_any (names m)) a.notes ∙ (ap (λ h. list_any h (notes_at g n.notes)) same ∙ sym (local n))))

    -- The rows that join a list are the same.
    joined_rows : (on : Option Effect → Bool) → on None ≡ false → filter (joins on m t g) m.rows ≡ filter (joins on n t g) n.rows
    joined_rows on e =
        let local : (q : Model) → filter (joins on q t g) q.rows ≡ filter (joins on q t g) (rows_at g q.rows) =
        λ q. kept_kept (λ r. eqb r.ground g) (joins on q t g) (unjoined on q t g) q.rows in
        local m ∙ (ap (filter (joins on m t g)) a.rows
        ∙ (ap (λ h. filter h (rows_at g n.rows)) (fun_ext (joins_same on e)) ∙ sym (local n)))

    pub befores_same : befores m t g ≡ befores n t g
    befores_same = ap (map (λ (r : Row). r.lower)) (joined_rows is_before refl)

    pub afters_same : afters m t g ≡ afters n t g
    afters_same = ap (map (λ (r : Row). r.upper)) (joined_rows is_after refl)

    -- Rows make way alike.
    pub pushed_same : (range : ℤ × ℤ) → pushed m t g range ≡ pushed n t g range
    pushed_same range = fun_ext (λ r. rw (joins_same is_before refl r, joins_same is_after refl r) refl)

module _ (g : ℕ) (m : Model) (bounded : AllByRecursion IsBounded m.rows) (t : ℕ) where
  -- What a policy is shown can be bounds of rows.
  pub lowers_fit : AllByRecursion IsLower (befores m t g)
  lowers_fit = shown is_before
    where
      shown : (on : Option Effect → Bool) → AllByRecursion IsLower (map (λ r. r.lower) (filter (joins on m t g) m.rows))
      shown on =
          All-map IsLower (λ r. r.lower) _
          (all_kept _ (joins on m t g) m.rows (All-weaker IsBounded _ (λ r b. (b.lower_least, b.lower_most)) m.rows bounded))

  pub uppers_fit : AllByRecursion IsUpper (afters m t g)
  uppers_fit = shown is_after
    where
      shown : (on : Option Effect → Bool) → AllByRecursion IsUpper (map (λ r. r.upper) (filter (joins on m t g) m.rows))
      shown on =
          All-map IsUpper (λ r. r.upper) _
          (all_kept _ (joins on m t g) m.rows (All-weaker IsBounded _ (λ r b. (b.upper_least, b.upper_most)) m.rows bounded))
