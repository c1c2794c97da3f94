-- The lower bound of a validation is above what the transaction's reads saw, and above the stamps of the cells that it writes.
--   raised_over   a bound that is raised above some numbers is above each
--   above_seen    the lower bound is above the write stamp that a read of the transaction saw
--   above_cell    and above both stamps of a cell that it writes
use Rattle.std.proofs.Common.{◌≡◌, ℕ, true, eqb, List, [], ◌∷◌, ℤ, pos, ◌<ℤ◌, Some, refl, ap, ◌∙◌, subst, inl, inr, arith}
use Rattle.std.proofs.lemmas.Int.{ints, clamps}
use Rattle.std.proofs.lemmas.Bool.{and_parts, and_from, eqb-true, eq-eqb}
use Rattle.std.specs.List.{flat_map}
use Rattle.store.specs.declared.cell.Cell.{Cell}
use Rattle.base.specs.Keys.{ground_of}
use Rattle.lines.specs.LineKeys.{read_key, write_key, same_access}
use Rattle.lines.specs.declared.access.AccessKey.{AccessKey}
use Rattle.lines.specs.declared.access.ReadLine.{ReadLine}
use Rattle.lines.specs.declared.access.WriteLine.{WriteLine}
use Rattle.protocol.proofs.Raising.{raised_least}
use Rattle.protocol.specs.Model.{Model, read_of, write_of}
use Rattle.protocol.specs.Among.{raise, raised_above}
use Rattle.protocol.specs.Validation.{of_here, read_floor, stamps_of, write_floor, floors}
use Rattle.serial.proofs.Lines.Kept.{line_passes}
use Rattle.serial.proofs.Lines.Member.{In, in_left, in_right, in_joined, in_found}

-- A bound that is raised above some numbers is above each.
pub raised_over : (l : ℤ) (xs : List ℤ) (x : ℤ) → In x xs → x <ℤ raised_above l xs
raised_over l [] x i = absurd i
raised_over l (y ∷ ys) x (inl e) =
    let h = raised_least (raise l y) ys in
    subst (λ z. z <ℤ raised_above (raise l y) ys) e (omega (arith, ints, clamps))
raised_over l (y ∷ ys) x (inr i) = raised_over (raise l y) ys x i

-- A line of the key k of the transaction t is one of t at the ground of k.
here : (t k g : ℕ) (a : AccessKey) → same_access a (record { transaction = t; key = k }) ≡ true → ground_of k ≡ g
    → of_here t g a.transaction a.key ≡ true
here t k g a s e =
    let p = and_parts (eqb a.transaction t) _ s in
    and_from (eqb a.transaction t) _ p.0 (eq-eqb _ g (ap ground_of (eqb-true a.key k p.1) ∙ e))

module _ (m : Model) (t g : ℕ) where
  -- What is among the floors of the reads, or of the writes, is among the floors.
  of_reads : (x : ℤ) → In x (flat_map (read_floor t g) m.reads) → In x (floors m t g)
  of_reads x i = in_left x (flat_map (read_floor t g) m.reads) _ i

  of_writes : (x : ℤ) → In x (flat_map (write_floor m.cells t g) m.writes) → In x (floors m t g)
  of_writes x i =
      in_right x (flat_map (read_floor t g) m.reads) _ (in_left x (flat_map (write_floor m.cells t g) m.writes) _ i)

  -- The lower bound is above the write stamp that a read of the transaction saw.
  pub above_seen : (k : ℕ) (x : ReadLine) → read_of m t k ≡ Some x → ground_of k ≡ g → (l : ℤ)
      → pos x.seen.number <ℤ raised_above l (floors m t g)
  above_seen k x at e l =
      let h : of_here t g x.transaction x.key ≡ true =
      here t k g (read_key x) (line_passes same_access read_key _ m.reads x at) e in
      raised_over l (floors m t g) _
      (of_reads _ (in_joined (read_floor t g) x _ m.reads (in_found same_access read_key _ m.reads x at) (rw h (inl refl))))

  -- And above both stamps of a cell that it writes.
  pub above_cell : (k : ℕ) (x : WriteLine) (c : Cell) → write_of m t k ≡ Some x → ground_of k ≡ g → m.cells k ≡ Some c → (l : ℤ)
      → (pos c.write.number <ℤ raised_above l (floors m t g)) × (pos c.read.number <ℤ raised_above l (floors m t g))
  above_cell k x c at e is l = (above _ (inr (inl refl)), above _ (inl refl))
    where
      above : (z : ℤ) → In z (stamps_of (Some c)) → z <ℤ raised_above l (floors m t g)
      above z i =
          let s = line_passes same_access write_key _ m.writes x at in
          let h : of_here t g x.transaction x.key ≡ true = here t k g (write_key x) s e in
          let j : x.key ≡ k = eqb-true x.key k (and_parts (eqb x.transaction t) _ s).1 in
          let f : m.cells x.key ≡ Some c = ap m.cells j ∙ is in
          raised_over l (floors m t g) z
          (of_writes z (in_joined (write_floor m.cells t g) x z m.writes (in_found same_access write_key _ m.writes x at)
          (rw (h, f) i)))
