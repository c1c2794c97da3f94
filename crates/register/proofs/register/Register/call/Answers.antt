use Rattle.std.proofs.Common.{ap}
use Rattle.register.specs.Registers.{model}
use Rattle.register.proofs.Days.{day_kept, promise_kept}
use Rattle.register.proofs.register.Register.call.Goals as goal

pub returns-clause-goes_on : goal.returns-clause-goes_on
returns-clause-goes_on g c first rooms h day =
    let m = model g.S.Store.cells c.args.self.now in
    day_kept (g.P.Policy.chosen c.args.self.now.policy) _ (ap g.P.Policy.chosen c.made.ensures.keeps.policy) first rooms h m _ c.args.call
    c.made.result day c.made.ensures.model

pub returns-clause-promised : goal.returns-clause-promised
returns-clause-promised g c first rooms h day =
    let policy = c.args.self.now.policy in
    promise_kept (g.P.Policy.chosen policy) _ (ap g.P.Policy.chosen c.made.ensures.keeps.policy) first rooms h
    (model g.S.Store.cells c.args.self.now) _ c.args.call c.made.result day c.made.ensures.model (g.met.P.Policy.means policy)
