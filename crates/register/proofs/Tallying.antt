-- A row of a transaction that is Running is one of its rows.
use Rattle.std.proofs.Common.{◌≡◌, ℕ, List, [], ◌∷◌, filter, refl, arith}
use Rattle.std.specs.List.{list_any}
use Rattle.lines.specs.declared.row.Row.{Row}
use Rattle.protocol.specs.Checks.{is_own, is_running, is_running_own}

pub any_own : (t : ℕ) (rs : List Row) → list_any (is_running_own t) rs ≡ list_any (λ r. is_running r.state) (filter (is_own t) rs)
any_own t [] = refl
any_own t (r ∷ rs) = let later = any_own t rs in grind arith
