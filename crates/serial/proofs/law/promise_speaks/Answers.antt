use Rattle.serial.proofs.Crossing.CrossingDay.{crossing_says}
use Rattle.serial.proofs.law.promise_speaks.Goals as goal

pub returns : goal.returns
returns c = crossing_says
