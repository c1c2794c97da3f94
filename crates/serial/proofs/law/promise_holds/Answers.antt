use Rattle.serial.proofs.Promised.{promise}
use Rattle.serial.proofs.law.promise_holds.Goals as goal

pub returns : goal.returns
returns c = promise
