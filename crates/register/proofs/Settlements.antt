-- A settlement: what its loops leave in the cells is what its definition says, and so is the whole register.
--   settled_is     the cells after the read lines and then the write lines
--   paid           what a settlement comes to where its checks pass
--   no_commit      an event that is no commitment leaves the cells
use Rattle.std.proofs.Common.{◌≡◌, ℕ, Bool, true, false, cond, ◌&&◌, eqb, List, [], ◌∷◌, Some, None, Ok, Option, nat_lt, sym, refl, ap, ap₂, ◌∙◌, arith}
use Rattle.std.proofs.lemmas.Bool.{eqb-true, eq-eqb, ne_eqb, true≢false}
use Rattle.std.proofs.lemmas.Bool.Decides.{nat_tests}
use Rattle.std.specs.Option.{option_map}
use Rattle.store.specs.Stores.{Cells}
use Rattle.store.specs.declared.cell.Cell.{Cell}
use Rattle.base.specs.Keys.{ground_of}
use Rattle.base.specs.declared.stamp.Stamp.{Stamp}
use Rattle.book.specs.Books.{line_with}
use Rattle.lines.specs.LineKeys.{read_key, write_key, same_access}
use Rattle.lines.specs.Locks.{row_of}
use Rattle.lines.specs.Rows.{moved_row}
use Rattle.lines.specs.declared.access.AccessKey.{AccessKey}
use Rattle.lines.specs.declared.access.ReadLine.{ReadLine}
use Rattle.lines.specs.declared.access.WriteLine.{WriteLine}
use Rattle.lines.specs.declared.row.Event.{Event}
use Rattle.lines.specs.declared.row.Event.TheVariants.{Pass, Fail, Abort, Commit}
use Rattle.lines.specs.declared.row.Row.{Row}
use Rattle.protocol.specs.Calls.{settle}
use Rattle.protocol.specs.Checks.{event_decided}
use Rattle.protocol.specs.Decisions.{larger_stamp, cell_after_read, cell_after_write, settled_cells, cells_after}
use Rattle.protocol.specs.Model.{Model, read_of, write_of}
use Rattle.protocol.specs.Validation.{row_moved}
use Rattle.register.specs.Settling.{with_change, cells_after_lines, cells_after_reads, cells_after_writes}
use Rattle.register.proofs.Rows.{row_owner}

module _ {L : Type 0} (key : L → AccessKey) (f : L → Cell → Cell) (absorbs : (x y : L) (z : Cell) → f y (f x z) ≡ f x z)
    (t g : ℕ) where
  -- A cell by a line, if there is one.
  abbrev by : Option L → Cell → Cell
  by None z = z
  by (Some x) z = f x z

  -- A second line of a key changes nothing more.
  again : (x : L) (l : Option L) (o : Option Cell) → option_map (by l) (option_map (f x) o) ≡ option_map (f x) o
  again x l None = refl
  again x None (Some z) = refl
  again x (Some y) (Some z) = ap Some (absorbs x y z)

  -- So what counts is the first line of the key.
  lines_at : (xs : List L) (m : Cells) (q : ℕ)
      → cells_after_lines key f t g m xs q
      ≡ cond (eqb (ground_of q) g) (option_map (by (line_with same_access key (record { transaction = t; key = q }) xs)) (m q)) (m q)
  lines_at [] m q = go (eqb (ground_of q) g) (m q)
    where
      go : (b : Bool) (o : Option Cell) → o ≡ cond b (option_map (by None) o) o
      go true None = refl
      go true (Some z) = refl
      go false o = refl
  lines_at (x ∷ xs) m q =
      lines_at xs (cond (eqb (key x).transaction t && eqb (ground_of k) g) changed m) q
      ∙ go (eqb (key x).transaction t) (eqb k q) (eqb (ground_of k) g) (eqb (ground_of q) g) here there
    where
      k : ℕ
      k = (key x).key

      changed : Cells
      changed = with_change m k (f x)

      l : Option L
      l = line_with same_access key (record { transaction = t; key = q }) xs

      here : eqb k q ≡ true → (changed q ≡ option_map (f x) (m q)) × (eqb (ground_of k) g ≡ eqb (ground_of q) g)
      here e =
          let i = eqb-true k q e in
          (ap (λ b. cond b (option_map (f x) (m q)) (m q)) (eq-eqb q k (sym i)), ap (λ j. eqb (ground_of j) g) i)

      there : eqb k q ≡ false → changed q ≡ m q
      there e =
          ap (λ b. cond b (option_map (f x) (m q)) (m q)) (ne_eqb q k (λ i. true≢false (sym (eq-eqb k q (sym i)) ∙ e)))

      go : (T K G B : Bool) → (K ≡ true → (changed q ≡ option_map (f x) (m q)) × (G ≡ B)) → (K ≡ false → changed q ≡ m q)
          → cond B (option_map (by l) (cond (T && G) changed m q)) (cond (T && G) changed m q)
          ≡ cond B (option_map (by (cond (T && K) (Some x) l)) (m q)) (m q)
      go false K G B h n = refl
      go true true true true h n = ap (option_map (by l)) (h refl).0 ∙ again x l (m q)
      go true true true false h n = absurd (true≢false (h refl).1)
      go true true false true h n = absurd (true≢false (sym (h refl).1))
      go true true false false h n = refl
      go true false true B h n = ap (λ o. cond B (option_map (by l) o) o) (n refl)
      go true false false B h n = refl

-- A read stamp that was raised to c is not below it.
read_again : (c : Stamp) (x y : ReadLine) (z : Cell)
    → cell_after_read (Some y) c (cell_after_read (Some x) c z) ≡ cell_after_read (Some x) c z
read_again c x y z = ap (λ (s : Stamp). record { value = z.value; write = z.write; read = s }) (go (nat_lt z.read.number c.number) refl)
  where
    same : (b : Bool) → cond b c c ≡ c
    same true = refl
    same false = refl

    go : (b : Bool) → nat_lt z.read.number c.number ≡ b → larger_stamp (cond b c z.read) c ≡ cond b c z.read
    go true e = same (nat_lt c.number c.number)
    go false e = ap (λ b. cond b c z.read) e

-- A cell that was written at c is not written at c again.
write_again : (c : Stamp) (x y : WriteLine) (z : Cell)
    → cell_after_write (Some y) c (cell_after_write (Some x) c z) ≡ cell_after_write (Some x) c z
write_again c x y z = go (nat_lt z.write.number c.number) refl
  where
    new : WriteLine → Cell
    new l = record { value = l.value; write = c; read = z.read }

    not_below : (n : ℕ) → nat_lt n n ≡ false
    not_below n = grind (arith, nat_tests)

    go : (b : Bool) → nat_lt z.write.number c.number ≡ b → cell_after_write (Some y) c (cond b (new x) z) ≡ cond b (new x) z
    go true e = ap (λ b. cond b (new y) (new x)) (not_below c.number)
    go false e = ap (λ b. cond b (new y) z) e

-- The cells of a committed settlement.
pub settled_is : (m : Model) (t g : ℕ) (c : Stamp)
    → cells_after_writes t g c (cells_after_reads t g c m.cells m.reads) m.writes ≡ settled_cells m t g c
settled_is m t g c i q = at q i
  where
    go : (b : Bool) (w : Option WriteLine) (r : Option ReadLine) (o : Option Cell)
        → let p : Option Cell = cond b (option_map (by read_key (λ x. cell_after_read (Some x) c) (read_again c) t g r) o) o in
        cond b (option_map (by write_key (λ x. cell_after_write (Some x) c) (write_again c) t g w) p) p
        ≡ cond b (option_map (λ x. cell_after_write w c (cell_after_read r c x)) o) o
    go false w r o = refl
    go true w r None = refl
    go true None None (Some z) = refl
    go true None (Some r) (Some z) = refl
    go true (Some w) None (Some z) = refl
    go true (Some w) (Some r) (Some z) = refl

    at : (q : ℕ) → cells_after_writes t g c (cells_after_reads t g c m.cells m.reads) m.writes q ≡ settled_cells m t g c q
    at q =
        lines_at write_key (λ x. cell_after_write (Some x) c) (write_again c) t g m.writes _ q
        ∙ (ap
        (λ p. cond (eqb (ground_of q) g)
        (option_map (by write_key (λ x. cell_after_write (Some x) c) (write_again c) t g (write_of m t q)) p) p)
        (lines_at read_key (λ x. cell_after_read (Some x) c) (read_again c) t g m.reads m.cells q)
        ∙ go (eqb (ground_of q) g) (write_of m t q) (read_of m t q) (m.cells q))

-- What a settlement comes to where its checks pass.
pub paid : (m : Model) (t g : ℕ) (r : Row) (e : Event) (u : Unit) (cs : Cells) (rs : List Row) (n : ℕ)
    → event_decided m t ≡ Ok e → row_of m.rows t g ≡ Some r → (moved_row r e).1 ≡ Ok u
    → cs ≡ cells_after m t g e → rs ≡ row_moved r.transaction r.ground r e m.rows → n ≡ m.rooms.rows
    → (record m { cells = cs; rows = rs; rooms = record m.rooms { rows = n } }, Ok tt) ≡ settle m t g
paid m t g r e u cs rs n decided at ok cells rows room =
    let own = row_owner m.rows t g r at in
    let lines = rows ∙ ap₂ (λ a b. row_moved a b r e m.rows) own.0 own.1 in
    rw (cells, lines, room) (sym (rw (decided, at, ok) refl))

-- An event that is no commitment leaves the cells.
pub no_commit : (m : Model) (t g : ℕ) (e : Event) → ((c : Stamp) → e ≡ Commit c → ⊥) → m.cells ≡ cells_after m t g e
no_commit m t g (Pass l u) n = refl
no_commit m t g Fail n = refl
no_commit m t g Abort n = refl
no_commit m t g (Commit c) n = absurd (n c refl)
