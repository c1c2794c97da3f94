-- The lines of a live row are met, and noted, by a read and by a prewrite of their key.
--   met_by_read   a read notes that it comes before the writer
--   met_reader    a prewrite notes that another reader comes before it
--   met_writer    and that it is apart from another writer
use Rattle.std.proofs.Common.{◌≡◌, ℕ, Bool, true, false, cond, ◌&&◌, eqb, List, [], ◌∷◌, map, Some, ap, ◌∙◌, subst, inl, inr, not}
use Rattle.std.proofs.lemmas.Bool.{and_parts, and_from, eqb-true}
use Rattle.book.specs.Books.{line_with}
use Rattle.base.specs.Keys.{ground_of}
use Rattle.lines.specs.LineKeys.{read_key, write_key, same_access}
use Rattle.lines.specs.Locks.{row_of, lock_stands, is_live, is_locked}
use Rattle.lines.specs.declared.access.AccessKey.{AccessKey}
use Rattle.lines.specs.declared.access.ReadLine.{ReadLine}
use Rattle.lines.specs.declared.access.WriteLine.{WriteLine}
use Rattle.lines.specs.declared.row.Row.{Row}
use Rattle.protocol.specs.Model.{Model, read_of, write_of}
use Rattle.protocol.specs.Noting.{
  locks_on,
  read_locks,
  write_locks,
  others,
  before_note,
  apart_note,
  notes_of_read,
  notes_of_prewrite,
}
use Rattle.serial.proofs.Lines.Kept.{line_passes}
use Rattle.serial.proofs.Lines.Member.{In, in_left, in_right, in_map, in_kept, in_found}

-- A line of the key k whose lock stands is among the locks on k.
in_locks : (rows : List Row) (k : ℕ) (a : AccessKey) (xs : List AccessKey) → eqb a.key k ≡ true
    → lock_stands rows a.transaction k ≡ true → In a xs → In a.transaction (locks_on rows k xs)
in_locks rows k a [] e s i = absurd i
in_locks rows k a (x ∷ xs) e s (inl d) =
    let h : (eqb x.key k && lock_stands rows x.transaction k) ≡ true =
    ap (λ y. eqb y.key k && lock_stands rows y.transaction k) d ∙ and_from (eqb a.key k) _ e s in
    rw h (inl (ap (λ y. y.transaction) d))
in_locks rows k a (x ∷ xs) e s (inr i) =
    go (eqb x.key k && lock_stands rows x.transaction k) (in_locks rows k a xs e s i)
  where
    go : (b : Bool) → In a.transaction (locks_on rows k xs)
        → In a.transaction (cond b (x.transaction ∷ locks_on rows k xs) (locks_on rows k xs))
    go true j = inr j
    go false j = j

-- Another transaction is one of the others.
in_others : (t u : ℕ) (us : List ℕ) → eqb u t ≡ false → In u us → In u (others t us)
in_others t u us e i = in_kept (λ v. not (eqb v t)) u us (ap not e) i

module _ (m : Model) (u k : ℕ) (r : Row) (at : row_of m.rows u (ground_of k) ≡ Some r) (l : is_live r.state ≡ true) where
  -- The line of a live row is a lock on its key, be it a read line or a write line.
  locks : {X : Type 0} (f : X → AccessKey) (xs : List X) (x : X)
      → line_with same_access f (record { transaction = u; key = k }) xs ≡ Some x → In u (locks_on m.rows k (map f xs))
  locks f xs x e =
      let p = and_parts (eqb (f x).transaction u) _ (line_passes same_access f _ xs x e) in
      let d : (f x).transaction ≡ u = eqb-true _ u p.0 in
      let s : lock_stands m.rows (f x).transaction k ≡ true =
      ap (λ v. lock_stands m.rows v k) d ∙ (ap is_locked at ∙ l) in
      subst (λ v. In v (locks_on m.rows k (map f xs))) d
      (in_locks m.rows k (f x) (map f xs) p.1 s (in_map f x xs (in_found same_access f _ xs x e)))

module _ (m : Model) (t u k : ℕ) where
  -- A read notes that it comes before a writer that it meets.
  pub met_by_read : (x : WriteLine) (r : Row) → write_of m u k ≡ Some x → row_of m.rows u (ground_of k) ≡ Some r
      → is_live r.state ≡ true → In (before_note k t u) (notes_of_read m t k)
  met_by_read x r e at l = in_map (before_note k t) u (write_locks m k) (locks m u k r at l write_key m.writes x e)

  -- A prewrite notes that another reader that it meets comes before it.
  pub met_reader : (x : ReadLine) (r : Row) → eqb u t ≡ false → read_of m u k ≡ Some x → row_of m.rows u (ground_of k) ≡ Some r
      → is_live r.state ≡ true → In (before_note k u t) (notes_of_prewrite m t k)
  met_reader x r d e at l =
      in_left (before_note k u t) (map (λ v. before_note k v t) (others t (read_locks m k))) _
      (in_map (λ v. before_note k v t) u (others t (read_locks m k))
      (in_others t u (read_locks m k) d (locks m u k r at l read_key m.reads x e)))

  -- And that it is apart from another writer that it meets.
  pub met_writer : (x : WriteLine) (r : Row) → eqb u t ≡ false → write_of m u k ≡ Some x → row_of m.rows u (ground_of k) ≡ Some r
      → is_live r.state ≡ true → In (apart_note k t u) (notes_of_prewrite m t k)
  met_writer x r d e at l =
      in_right (apart_note k t u) (map (λ v. before_note k v t) (others t (read_locks m k))) _
      (in_map (apart_note k t) u (others t (write_locks m k))
      (in_others t u (write_locks m k) d (locks m u k r at l write_key m.writes x e)))
