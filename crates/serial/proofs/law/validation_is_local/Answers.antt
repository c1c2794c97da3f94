use Rattle.serial.proofs.Local.Alike.{local}
use Rattle.serial.proofs.law.validation_is_local.Goals as goal

pub returns : goal.returns
returns c = local
