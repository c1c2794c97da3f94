-- What every event leaves of a row.
use Rattle.std.proofs.Common.{◌≡◌, arith}
use Rattle.lines.specs.LineKeys.{row_key}
use Rattle.lines.specs.Rows.{moved_row_in}
use Rattle.lines.specs.declared.row.Event.{Event}
use Rattle.lines.specs.declared.row.Row.{Row}
use Rattle.lines.specs.declared.row.State.{State}

-- Every event leaves a row's transaction and ground.
pub moves_owner : (r : Row) (s : State) (e : Event) → row_key (moved_row_in r s e).0 ≡ row_key r
moves_owner r s e = grind arith
