-- What the rows of a transaction say to a decision.
--   tally_of rs        whether one of the rows rs is Running, whether one is Aborted, and the stamps that suit all
--   told_with a r      what one more row says beside others
use Rattle.std.specs.Prelude.{◌||◌, List}
use Rattle.std.specs.List.{list_any}
use Rattle.lines.specs.declared.row.Row.{Row}
use Rattle.protocol.specs.Checks.{is_running, is_aborted}
use Rattle.protocol.specs.Decisions.{largest_lower, smallest_upper}
use Rattle.register.specs.Ranges.{within}
use Rattle.register.specs.declared.ending.Tally.{Tally}

-- Of all rows.
abbrev pub tally_of : List Row → Tally
tally_of rs = record {
  running = list_any (λ r. is_running r.state) rs;
  aborted = list_any (λ r. is_aborted r.state) rs;
  range = record { lower = largest_lower rs; upper = smallest_upper rs };
}

-- With one more row.
abbrev pub told_with : Tally → Row → Tally
told_with a r = record {
  running = a.running || is_running r.state;
  aborted = a.aborted || is_aborted r.state;
  range = within a.range r;
}
