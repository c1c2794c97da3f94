use Rattle.store.proofs.Putting.{one_put}
use Rattle.register.proofs.ending.settle_read.Goals as goal

pub returns-then-number-clause-puts : goal.returns-then-number-clause-puts
returns-then-number-clause-puts g c = one_put g.S.Store.beside _ _ c.put.result c.put.ensures.beside
