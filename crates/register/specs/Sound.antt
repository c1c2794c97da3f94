-- What a register keeps of its lines, beside what its calls say of them.
--   SoundRows rs          bounds are within their limits, and no two rows are of one transaction and ground
--   SoundLines ts rs ws   the numbers of transactions rise, and no two read lines, and no two write lines, are of one transaction and key
--   PlacedAt rows k i     the first row of the key k has the place i
--   Located rows k r      r is the row of the key k with its place, or nothing
use Rattle.std.specs.Prelude.{◌≡◌, ℕ, ◌<◌, List, map, length, Some, None, Option}
use Rattle.std.specs.List.{IsDistinct, AllByRecursion}
use Rattle.std.specs.List.Sorted.{IsStrictlySortedBy}
use Rattle.std.specs.Ordering.{nat_cmp}
use Rattle.book.specs.Books.{position_of}
use Rattle.lines.specs.LineKeys.{row_key, same_row, read_key, write_key, same_access}
use Rattle.lines.specs.Locks.{row_of}
use Rattle.lines.specs.Rows.{IsBounded}
use Rattle.lines.specs.declared.access.ReadLine.{ReadLine}
use Rattle.lines.specs.declared.access.WriteLine.{WriteLine}
use Rattle.lines.specs.declared.row.Row.{Row}
use Rattle.lines.specs.declared.row.RowKey.{RowKey}
use Rattle.lines.specs.declared.transaction.Transaction.{Transaction}

-- Bounds are within their limits, so that none overflows, and a transaction has at most one row at a ground.
pub record SoundRows (rs : List Row) : Type 0 where
  pub bounded : AllByRecursion IsBounded rs
  pub single : IsDistinct same_row (map row_key rs)

-- Numbers rise, so that the last transaction line has the largest; and a line that is found from the end is the first of its key.
pub record SoundLines (ts : List Transaction) (rs : List ReadLine) (ws : List WriteLine) : Type 0 where
  pub rising : IsStrictlySortedBy nat_cmp (map (λ x. x.number) ts)
  pub reads : IsDistinct same_access (map read_key rs)
  pub writes : IsDistinct same_access (map write_key ws)

-- The place of the first row of a key.
abbrev pub PlacedAt : List Row → RowKey → ℕ → Type 0
PlacedAt rows k i = (i < length rows) × (position_of same_row row_key k rows ≡ Some i)

-- The row of a key, with its place.
abbrev pub Located : List Row → RowKey → Option (ℕ × Row) → Type 0
Located rows k None = row_of rows k.transaction k.ground ≡ None
Located rows k (Some p) = PlacedAt rows k p.0 × (row_of rows k.transaction k.ground ≡ Some p.1) × IsBounded p.1 × (row_key p.1 ≡ k)
