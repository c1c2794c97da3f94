-- What a settlement with a stamp does to a cell.
--   cell_grown                    its stamps do not sink
--   read_reached, write_reached   they reach the stamp, where the transaction read or wrote the cell
--   value_from                    it keeps its value and write stamp, or has the transaction's
use Rattle.std.proofs.Common.{◌≡◌, ℕ, ◌≤◌, Bool, true, false, cond, eqb, ltb, ◌⊎◌, pos, Some, None, Option, sym, refl, ap, ◌∙◌, subst, inl, inr, arith}
use Rattle.std.proofs.lemmas.Int.{ints}
use Rattle.std.proofs.lemmas.Bool.{eq-eqb, eqb-true, ltb-true, ltb-false}
use Rattle.std.specs.Option.{option_map}
use Rattle.store.specs.declared.cell.Cell.{Cell}
use Rattle.base.specs.Keys.{ground_of}
use Rattle.base.specs.declared.stamp.Stamp.{Stamp}
use Rattle.lines.specs.declared.access.ReadLine.{ReadLine}
use Rattle.lines.specs.declared.access.WriteLine.{WriteLine}
use Rattle.protocol.specs.Decisions.{settled_cells, larger_stamp, cell_after_read, cell_after_write}
use Rattle.protocol.specs.Model.{Model, read_of, write_of}
use Rattle.serial.proofs.Changes.Steady.{Grown, grown_self}
use Rattle.serial.proofs.Standing.{UpToWrite, UpToRead}

later_least : (a b : Stamp) → (a.number ≤ (larger_stamp a b).number) × (b.number ≤ (larger_stamp a b).number)
later_least a b = go (ltb a.number b.number) refl
  where
    go : (x : Bool) → ltb a.number b.number ≡ x → (a.number ≤ (cond x b a).number) × (b.number ≤ (cond x b a).number)
    go true e = let i = ltb-true a.number b.number e in (omega arith, omega arith)
    go false e = let i = ltb-false a.number b.number e in (omega arith, omega arith)

-- The read part of a settlement.
read_part : (r : Option ReadLine) (c : Stamp) (x : Cell)
    → ((cell_after_read r c x).value ≡ x.value) × ((cell_after_read r c x).write ≡ x.write) × (x.read.number ≤ (cell_after_read r c x).read.number)
read_part None c x = (refl, refl, omega arith)
read_part (Some l) c x = (refl, refl, (later_least x.read c).0)

-- The write part.
write_part : (w : Option WriteLine) (c : Stamp) (x : Cell)
    → (x.write.number ≤ (cell_after_write w c x).write.number) × ((cell_after_write w c x).read ≡ x.read)
write_part None c x = (omega arith, refl)
write_part (Some l) c x = go (ltb x.write.number c.number) refl
  where
    put : Cell
    put = record { value = l.value; write = c; read = x.read }

    go : (b : Bool) → ltb x.write.number c.number ≡ b → (x.write.number ≤ (cond b put x).write.number) × ((cond b put x).read ≡ x.read)
    go true e = let i = ltb-true x.write.number c.number e in (omega arith, refl)
    go false e = (omega arith, refl)

-- A writer's stamp is reached.
write_part_up : (l : WriteLine) (c : Stamp) (x : Cell) → c.number ≤ (cell_after_write (Some l) c x).write.number
write_part_up l c x = go (ltb x.write.number c.number) refl
  where
    put : Cell
    put = record { value = l.value; write = c; read = x.read }

    go : (b : Bool) → ltb x.write.number c.number ≡ b → c.number ≤ (cond b put x).write.number
    go true e = omega arith
    go false e = ltb-false x.write.number c.number e

-- A cell keeps value and write stamp, or has the writer's.
abbrev ValuePart : Option WriteLine → Stamp → Cell → Cell → Type 0
ValuePart w c x y =
    ((y.value ≡ x.value) × (y.write.number ≡ x.write.number))
    ⊎ ((l : WriteLine) × (w ≡ Some l) × (l.value ≡ y.value) × (y.write.number ≡ c.number))

value_part : (w : Option WriteLine) (c : Stamp) (x : Cell) → ValuePart w c x (cell_after_write w c x)
value_part None c x = inl (refl, refl)
value_part (Some l) c x = go (ltb x.write.number c.number)
  where
    go : (b : Bool) → ValuePart (Some l) c x (cond b (record { value = l.value; write = c; read = x.read }) x)
    go true = inr (l, refl, refl, refl)
    go false = inl (refl, refl)

module _ (m : Model) (t g : ℕ) (c : Stamp) (k : ℕ) where
  -- One cell of the ground after the settlement.
  abbrev cell_then : Cell → Cell
  cell_then x = cell_after_write (write_of m t k) c (cell_after_read (read_of m t k) c x)

  pub cell_grown : Grown (m.cells k) (settled_cells m t g c k)
  cell_grown = whether (eqb (ground_of k) g)
    where
      here : (o : Option Cell) → Grown o (option_map cell_then o)
      here None = tt
      here (Some x) =
          let r = read_part (read_of m t k) c x in
          let w = write_part (write_of m t k) c (cell_after_read (read_of m t k) c x) in
          (subst (λ s. s.number ≤ (cell_then x).write.number) r.1 w.0, subst (λ s. x.read.number ≤ s.number) (sym w.1) r.2)

      whether : (b : Bool) → Grown (m.cells k) (cond b (option_map cell_then (m.cells k)) (m.cells k))
      whether true = here (m.cells k)
      whether false = grown_self (m.cells k)

  module _ (e : ground_of k ≡ g) where
    here_after : settled_cells m t g c k ≡ option_map cell_then (m.cells k)
    here_after = ap (λ b. cond b (option_map cell_then (m.cells k)) (m.cells k)) (eq-eqb (ground_of k) g e)

    pub read_reached : (x : ReadLine) → read_of m t k ≡ Some x → UpToRead (pos c.number) (settled_cells m t g c k)
    read_reached x at = subst (UpToRead (pos c.number)) (sym here_after) (go (m.cells k))
      where
        go : (o : Option Cell) → UpToRead (pos c.number) (option_map cell_then o)
        go None = tt
        go (Some y) =
            let w = (write_part (write_of m t k) c (cell_after_read (read_of m t k) c y)).1 in
            let l : c.number ≤ (cell_after_read (read_of m t k) c y).read.number =
            subst (λ o. c.number ≤ (cell_after_read o c y).read.number) (sym at) (later_least y.read c).1 in
            let i : c.number ≤ (cell_then y).read.number = subst (λ s. c.number ≤ s.number) (sym w) l in
            omega (arith, ints)

    pub write_reached : (x : WriteLine) → write_of m t k ≡ Some x → UpToWrite (pos c.number) (settled_cells m t g c k)
    write_reached x at = subst (UpToWrite (pos c.number)) (sym here_after) (go (m.cells k))
      where
        go : (o : Option Cell) → UpToWrite (pos c.number) (option_map cell_then o)
        go None = tt
        go (Some y) =
            let i : c.number ≤ (cell_then y).write.number =
            subst (λ o. c.number ≤ (cell_after_write o c (cell_after_read (read_of m t k) c y)).write.number) (sym at)
            (write_part_up x c (cell_after_read (read_of m t k) c y)) in
            omega (arith, ints)

  -- Whose value and write stamp a cell has after a settlement.
  abbrev pub From : Cell → Cell → Type 0
  From a b =
      ((b.value ≡ a.value) × (b.write.number ≡ a.write.number))
      ⊎ ((ground_of k ≡ g) × ((l : WriteLine) × (write_of m t k ≡ Some l) × (l.value ≡ b.value) × (b.write.number ≡ c.number)))

  pub value_from : (a b : Cell) → m.cells k ≡ Some a → settled_cells m t g c k ≡ Some b → From a b
  value_from a b at is = whether (eqb (ground_of k) g) refl is
    where
      after_from : ground_of k ≡ g → ValuePart (write_of m t k) c (cell_after_read (read_of m t k) c a) (cell_then a) → From a (cell_then a)
      after_from e (inl p) =
          let r = read_part (read_of m t k) c a in inl (p.0 ∙ r.0, p.1 ∙ ap (λ s. s.number) r.1)
      after_from e (inr p) = inr (e, p)

      whether : (x : Bool) → eqb (ground_of k) g ≡ x → cond x (option_map cell_then (m.cells k)) (m.cells k) ≡ Some b → From a b
      whether true e d =
          let s : Some (cell_then a) ≡ Some b = sym (ap (option_map cell_then) at) ∙ d in
          let i : cell_then a ≡ b = cc in
          subst (From a) i (after_from (eqb-true _ _ e) (value_part (write_of m t k) c (cell_after_read (read_of m t k) c a)))
      whether false e d =
          let s : Some a ≡ Some b = sym at ∙ d in
          let i : b ≡ a = cc in
          inl (ap (λ x. x.value) i, ap (λ x. x.write.number) i)
