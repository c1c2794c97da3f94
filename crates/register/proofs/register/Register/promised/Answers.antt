use Rattle.register.specs.Registers.{model}
use Rattle.serial.proofs.Promised.{promise}
use Rattle.register.proofs.register.Register.promised.Goals as goal

pub returns : goal.returns
returns g c first rooms h day =
    let self = c.args.self.now in
    promise (g.P.Policy.chosen self.policy) (g.met.P.Policy.means self.policy) first rooms h (model g.S.Store.cells self) day
