use Rattle.std.proofs.Common.{sym, ◌∙◌}
use Rattle.register.proofs.Found.{finds_transaction}
use Rattle.register.proofs.register.Register.locate.Goals as goal

pub returns-in_err-place : goal.returns-in_err-place
returns-in_err-place g c =
    rw c.from_residual.ensures ((finds_transaction c.args.self.now c.args.transaction).nothing (sym c.in_err-place.ensures.position))

pub returns-in_err-line : goal.returns-in_err-line
returns-in_err-line g c =
    rw c.from_residual-in_err-line.ensures
    ((finds_transaction c.args.self.now c.args.transaction).line c.in_ok-place.place (sym c.in_ok-place.ensures.position) ∙ sym c.in_err-line.ensures)

pub returns : goal.returns
returns g c =
    let found = finds_transaction c.args.self.now c.args.transaction in
    let i = c.in_ok-place.place in
    let at = sym c.in_ok-place.ensures.position in
    (found.line i at ∙ sym c.in_ok-line.ensures, record { within = c.in_ok-place.ensures.within; position = found.place i at })
