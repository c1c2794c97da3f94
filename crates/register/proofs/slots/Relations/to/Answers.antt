use Rattle.std.proofs.Common.{get_or, sym, ap, ◌∙◌, ne_eqb}
use Rattle.std.proofs.Math.Logic.{∥∥₁_map}
use Rattle.register.specs.Slots.{empty_slot}
use Rattle.register.proofs.Relating.{of_elsewhere}
use Rattle.register.proofs.Telling.{at_slot, same_relation}
use Rattle.register.proofs.slots.Relations.to.Goals as goal

pub returns-then-other-self : goal.returns-then-other-self
returns-then-other-self c =
    let self = c.args.self.now in
    c.none.ensures ∙ of_elsewhere self.own.transaction self.own.ground c.args.other.now (ne_eqb _ _ c.if-other-self.true) self.notes.now

pub returns-then-is_for : goal.returns-then-is_for
returns-then-is_for c =
    let self = c.args.self.now in
    let at = ap (λ i. get_or self.slots i empty_slot) c.slot_of.ensures in
    sym
    (same_relation
    (∥∥₁_map self.told
    (λ told. at_slot self.own self.slots self.entries self.notes.now told c.args.other.now c.if-other-self.false _ at
    (sym c.is_for.ensures ∙ c.if-is_for.true))))
