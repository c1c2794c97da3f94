-- What lines go by.
--   row_key_at t g                 the key of the row of transaction t at ground g
--   row_key, read_key, write_key   the key of a row, a read line, a write line
--   same_row, same_access          whether two such keys are the same
use Rattle.std.specs.Prelude.{ℕ, Bool, ◌&&◌, ◌==◌}
use Rattle.lines.specs.declared.access.AccessKey.{AccessKey}
use Rattle.lines.specs.declared.access.ReadLine.{ReadLine}
use Rattle.lines.specs.declared.access.WriteLine.{WriteLine}
use Rattle.lines.specs.declared.row.Row.{Row}
use Rattle.lines.specs.declared.row.RowKey.{RowKey}

-- The key of a transaction's row at a ground.
abbrev pub row_key_at : (transaction ground : ℕ) → RowKey
row_key_at t g = record { transaction = t; ground = g }

-- A row goes by its transaction and ground.
abbrev pub row_key : Row → RowKey
row_key x = row_key_at x.transaction x.ground

-- The same transaction and ground.
abbrev pub same_row : RowKey → RowKey → Bool
same_row x y = x.transaction == y.transaction && x.ground == y.ground

-- A read line goes by its transaction and key.
abbrev pub read_key : ReadLine → AccessKey
read_key x = record { transaction = x.transaction; key = x.key }

-- A write line too.
abbrev pub write_key : WriteLine → AccessKey
write_key x = record { transaction = x.transaction; key = x.key }

-- The same transaction and key.
abbrev pub same_access : AccessKey → AccessKey → Bool
same_access x y = x.transaction == y.transaction && x.key == y.key
