use Rattle.std.proofs.Common.{◌≡◌, ◌||◌, drop, filter, fold, map}
use Rattle.std.specs.Int.{int_max, int_min}
use Rattle.std.specs.List.{list_any}
use Rattle.protocol.specs.Checks.{is_own, is_running, is_aborted}
use Rattle.protocol.specs.Decisions.{largest_lower, smallest_upper}
use Rattle.register.proofs.ending.Tally.of_rows.Given as goal

-- With the rows that are left, it is what all say.
abbrev pub invariant-loop-row : goal.invariant-loop-row
invariant-loop-row l =
    let rest = filter (is_own l.transaction) (drop l.row-index l.rows) in
    let own = filter (is_own l.transaction) l.rows in
    record {
      running : (l.tally.running || list_any (λ r. is_running r.state) rest) ≡ list_any (λ r. is_running r.state) own;
      aborted : (l.tally.aborted || list_any (λ r. is_aborted r.state) rest) ≡ list_any (λ r. is_aborted r.state) own;
      lower : fold int_max l.tally.range.lower (map (λ r. r.lower) rest) ≡ largest_lower own;
      upper : fold int_min l.tally.range.upper (map (λ r. r.upper) rest) ≡ smallest_upper own;
    }
