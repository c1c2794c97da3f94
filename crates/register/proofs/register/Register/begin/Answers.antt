use Rattle.std.proofs.Common.{◌≡◌, refl, sym, ◌∙◌}
use Rattle.register.specs.Registers.{model}
use Rattle.register.proofs.Found.{number_above, begun_kept}
use Rattle.register.proofs.Registers.{same_register, refused_so, added_refused}
use Rattle.register.proofs.register.Register.begin.Goals as goal

pub invariant_of-self : goal.invariant_of-self
invariant_of-self g c =
    let self = c.args.self.now in
    let above = number_above (model g.S.Store.cells self) c.args.transaction c.in_ok-check_number.field-0
    (sym c.check_number.ensures ∙ c.in_ok-check_number.was) in
    record { sound = begun_kept self _ c.add.new.self c.add.result c.add.ensures.cases above; limits = self.limits }

pub returns-clause-refused : goal.returns-clause-refused
returns-clause-refused g c =
    let same : c.add.new.self ≡ c.args.self.now.transactions → _ = λ e.
    same_register _ _ (record { store = refl; policy = refl; transactions = e; rows = refl; reads = refl; writes = refl; notes = refl }) in
    refused_so c.add.result same (added_refused _ _ _ c.add.result c.add.ensures.cases)
