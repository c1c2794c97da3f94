use Rattle.std.proofs.Common.{[]}
use Rattle.protocol.specs.Model.{new}
use Rattle.serial.proofs.Days.{begins, day_after, same_day}
use Rattle.serial.proofs.law.days_are_calls.Goals as goal

pub returns : goal.returns
returns c = record {
  any_calls = λ P first rooms calls. day_after P first rooms calls [] (new first rooms) (begins P first rooms);
  one_register = same_day;
}
