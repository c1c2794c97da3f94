-- What a register keeps of its lines: how it comes out of the register's ghost fields, and what keeps it.
--   rows_sound, lines_sound     what the ghost fields say
--   no_rows_sound, no_lines_sound     it holds of no lines
--   row_added, row_set, row_replaced  of rows with one more, or with one in the place of another of its key
--   begun, read_added, write_added    of lines with one more
--   decided, write_replaced           of lines with one in the place of another of its key
use Rattle.std.proofs.Common.{◌≡◌, ℕ, ◌<◌, eqb, ℤ, ◌≤ℤ◌, List, [], ◌∷◌, ◌++◌, map, get_or, set, None, sym, unwrap_or}
use Rattle.std.proofs.Common.{refl, subst, arith}
use mathlib.Core.Logic.{∥∥₁_elim}
use Rattle.std.proofs.Props.{props}
use Rattle.std.proofs.ByRecursion.{All-push, All-set}
use Rattle.std.proofs.lemmas.Map.Keys.{IsDistinct-prop, IsStrictlySortedBy-prop}
use Rattle.std.proofs.lemmas.List.{map_push}
use Rattle.std.proofs.Math.Seq.{map-set_same}
use Rattle.std.proofs.lemmas.Int.{ints}
use Rattle.std.specs.List.{IsDistinct, AllByRecursion, AllByRecursion-prop}
use Rattle.std.specs.List.Sorted.{IsStrictlySortedBy}
use Rattle.std.specs.Ordering.{nat_cmp}
use Rattle.book.proofs.Rising.{rising_push}
use Rattle.book.specs.Books.{line_with, largest_key}
use Rattle.lines.specs.LineKeys.{row_key, same_row, read_key, write_key, same_access}
use Rattle.lines.specs.Locks.{row_of}
use Rattle.lines.specs.Rows.{new_row, IsBounded}
use Rattle.lines.specs.declared.access.ReadLine.{ReadLine}
use Rattle.lines.specs.declared.access.WriteLine.{WriteLine}
use Rattle.lines.specs.declared.row.Row.{Row}
use Rattle.lines.specs.declared.row.RowKey.{RowKey}
use Rattle.lines.specs.declared.transaction.Transaction.{Transaction}
use Rattle.protocol.specs.Model.{with_line}
use Rattle.register.specs.Sound.{SoundRows, SoundLines}
use Rattle.register.proofs.Distinct.{same_row_equal, same_access_equal, same_number_equal, distinct_push, keys_kept, distinct_replaced}

-- A comparison of bounds has one proof, and so has that bounds are within their limits.
same_proof : {a b : ℤ} → IsProp (a ≤ℤ b)
same_proof = hlevel props

limits_prop : (r : Row) → IsProp (IsBounded r)
limits_prop r p q i = record {
  lower_least = same_proof p.lower_least q.lower_least i;
  lower_most = same_proof p.lower_most q.lower_most i;
  upper_least = same_proof p.upper_least q.upper_least i;
  upper_most = same_proof p.upper_most q.upper_most i;
}

pub rows_sound : (rs : List Row) → ∥ SoundRows rs ∥₁ → SoundRows rs
rows_sound rs h = record {
  bounded = ∥∥₁_elim h (AllByRecursion-prop IsBounded limits_prop rs) (λ s. s.bounded);
  single = ∥∥₁_elim h (IsDistinct-prop same_row (map row_key rs)) (λ s. s.single);
}

pub lines_sound : (ts : List Transaction) (rs : List ReadLine) (ws : List WriteLine) → ∥ SoundLines ts rs ws ∥₁ → SoundLines ts rs ws
lines_sound ts rs ws h = record {
  rising = ∥∥₁_elim h (IsStrictlySortedBy-prop nat_cmp (map (λ x. x.number) ts)) (λ s. s.rising);
  reads = ∥∥₁_elim h (IsDistinct-prop same_access (map read_key rs)) (λ s. s.reads);
  writes = ∥∥₁_elim h (IsDistinct-prop same_access (map write_key ws)) (λ s. s.writes);
}

-- Rows.
pub no_rows_sound : SoundRows []
unfolding IsDistinct
no_rows_sound = record { bounded = tt; single = tt }

-- The bounds of a new row are within their limits.
new_row_bounded : (t g : ℕ) → IsBounded (new_row t g)
new_row_bounded t g = record {
  lower_least = omega (arith, ints);
  lower_most = omega (arith, ints);
  upper_least = omega (arith, ints);
  upper_most = omega (arith, ints);
}

pub row_added : (rs : List Row) (t g : ℕ) → row_of rs t g ≡ None → SoundRows rs → SoundRows (rs ++ new_row t g ∷ [])
row_added rs t g e h = record {
  bounded = All-push IsBounded rs (new_row t g) h.bounded (new_row_bounded t g);
  single = distinct_push same_row row_key (row_key (new_row t g)) rs (new_row t g) refl e h.single;
}

bounded_replaced : (k : RowKey) (x : Row) (rs : List Row) → IsBounded x → AllByRecursion IsBounded rs
    → AllByRecursion IsBounded (with_line same_row row_key k x rs)
bounded_replaced k x [] h hs = tt
bounded_replaced k x (r ∷ rs) h hs = let later = bounded_replaced k x rs h hs.1 in grind arith

pub row_replaced : (k : RowKey) (x : Row) → row_key x ≡ k → (rs : List Row) → IsBounded x → SoundRows rs
    → SoundRows (with_line same_row row_key k x rs)
row_replaced k x own rs h s = record {
  bounded = bounded_replaced k x rs h s.bounded;
  single = distinct_replaced same_row row_key k (λ j. same_row_equal j k) x own rs s.single;
}

pub row_set : (rs : List Row) (i : ℕ) (x d : Row) → row_key x ≡ row_key (get_or rs i d) → IsBounded x → SoundRows rs → SoundRows (set rs i x)
row_set rs i x d own h s =
    let D : List RowKey → Type 0 = IsDistinct same_row in
    record {
      bounded = All-set IsBounded rs i x h s.bounded;
      single = subst D (sym (map-set_same row_key rs i x d own)) s.single;
    }

-- The other lines.
pub no_lines_sound : (ts : List Transaction) (rs : List ReadLine) (ws : List WriteLine) → ts ≡ [] → rs ≡ [] → ws ≡ [] → SoundLines ts rs ws
unfolding IsDistinct IsStrictlySortedBy
no_lines_sound ts rs ws e f h = rw (e, f, h) (record { rising = tt; reads = tt; writes = tt })

module _ (ts : List Transaction) (rs : List ReadLine) (ws : List WriteLine) (s : SoundLines ts rs ws) where
  pub begun : (x : Transaction) → unwrap_or (largest_key nat_cmp (map (λ x. x.number) ts)) 0 < x.number → SoundLines (ts ++ x ∷ []) rs ws
  begun x l =
      let Rise : List ℕ → Type 0 = IsStrictlySortedBy nat_cmp in
      record {
        rising = subst Rise (sym (map_push (λ x. x.number) ts x)) (rising_push (map (λ x. x.number) ts) x.number s.rising l);
        reads = s.reads;
        writes = s.writes;
      }

  pub decided : (t : ℕ) (x : Transaction) → x.number ≡ t → SoundLines (with_line eqb (λ x. x.number) t x ts) rs ws
  decided t x own =
      let Rise : List ℕ → Type 0 = IsStrictlySortedBy nat_cmp in
      record {
        rising = subst Rise (sym (keys_kept eqb (λ x. x.number) t (λ j. same_number_equal j t) x own ts)) s.rising;
        reads = s.reads;
        writes = s.writes;
      }

  pub read_added : (x : ReadLine) → line_with same_access read_key (read_key x) rs ≡ None → SoundLines ts (rs ++ x ∷ []) ws
  read_added x e = record {
    rising = s.rising;
    reads = distinct_push same_access read_key (read_key x) rs x refl e s.reads;
    writes = s.writes;
  }

  pub write_added : (x : WriteLine) → line_with same_access write_key (write_key x) ws ≡ None → SoundLines ts rs (ws ++ x ∷ [])
  write_added x e = record {
    rising = s.rising;
    reads = s.reads;
    writes = distinct_push same_access write_key (write_key x) ws x refl e s.writes;
  }

  pub write_replaced : (x : WriteLine) → SoundLines ts rs (with_line same_access write_key (write_key x) x ws)
  write_replaced x = record {
    rising = s.rising;
    reads = s.reads;
    writes = distinct_replaced same_access write_key (write_key x) (λ j. same_access_equal j (write_key x)) x refl ws s.writes;
  }
