use Rattle.serial.proofs.Local.Alike.{local}
use Rattle.book.specs.Books.{lines_of}
use Rattle.register.specs.Registers.{model}
use Rattle.register.proofs.Agreements.{both_alike}
use Rattle.register.proofs.Sound.{rows_sound}
use Rattle.register.proofs.agreement.validate_both.Goals as goal

pub returns-clause-local : goal.returns-clause-local
returns-clause-local g c below agree =
    let one = c.args.one.now in
    let other = c.args.other.now in
    let m = model g.S.Store.cells one in
    let n = model g.T.Store.cells other in
    let P = g.P.Policy.chosen one.policy in
    let Q = g.Q.Policy.chosen other.policy in
    let bounded = (rows_sound (lines_of one.rows.book) one.rows.sound).bounded in
    both_alike P Q m n c.args.transaction c.args.ground _ _ c.validate.ensures.model c.validate-2.ensures.model
    (local P m bounded Q agree.policy n c.args.transaction c.args.ground below agree.ground agree.line)
