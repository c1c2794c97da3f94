use Rattle.std.proofs.Common.{eq-eqb, ne_eqb, ◌∙◌}
use Rattle.register.proofs.Relating.{of_elsewhere, of_itself}
use Rattle.register.proofs.relation.Relation.between.Goals as goal
use Rattle.register.proofs.relation.Relation.between.Goals.{then-other-own-via-then-other-own, then-other-own-via-else-other-own+then-other-own-2}

pub returns-then-other-own : goal.returns-then-other-own
returns-then-other-own c =
    let own = c.args.own in
    let other = c.args.other.now in
    elim c.then-other-own.branch [
      | then-other-own-via-then-other-own w ↦
          c.none.ensures ∙ of_elsewhere own.transaction own.ground other (ne_eqb _ _ w.if-other-own.true) c.args.notes.now
      | then-other-own-via-else-other-own+then-other-own-2 w ↦
          c.none.ensures ∙ of_itself own.transaction own.ground other (eq-eqb _ _ w.if-other-own-2.true) c.args.notes.now
    ]
